-- What literals of a clause say under those that were set, and one more literal of the clause.
use Rattle.std.proofs.Common.{◌≢◌, inl, inr, List, [], ◌∷◌, ◌++◌, get_or, refl, sym, ◌∙◌, subst}
use Rattle.std.specs.Prelude.{All, Contains}
use Rattle.std.proofs.lemmas.Bool.{cases_Bool, both_ways}
use Rattle.std.proofs.lemmas.List.Elements.{All-push, All-contains, Contains-push, Contains-append_left, Contains-get_or}
use Rattle.cnf_core.specs.declared.formula.Lit.{Lit}
use Rattle.unit_propagation.specs.Units.{IsFalse, IsOpen, IsUnit}
use Rattle.unit_propagation.specs.Assigned.{StandsAs}
use Rattle.unit_propagation.specs.Propagated.{SaysNothing}
use Rattle.unit_propagation.specs.ClauseStates.{SaysWith}
use Rattle.unit_propagation.specs.Watching.{has}
use Rattle.unit_propagation.specs.declared.assignment.Truth.TheVariants.{True}
use Rattle.unit_propagation.specs.declared.clause_state.ClauseState.{ClauseState}
use Rattle.unit_propagation.specs.declared.clause_state.ClauseState.TheVariants.{Falsified, Unit as UnitOf, Other}
use Rattle.unit_propagation.proofs.PairLemmas.{has_contains, contains_has}

-- a literal that is not false is the unit, if there is one
unit_is : (trail clause : List Lit) (l x : Lit) → IsUnit trail clause l → Contains clause x → (IsFalse trail x → ⊥) → (x ≢ l) → ⊥
unit_is trail clause l x unit stands not_false differs = not_false (All-contains (λ k. k ≢ l → IsFalse trail k) clause x unit.alone stands differs)

-- a clause with a true literal
no_unit_true : (trail clause : List Lit) (x : Lit) → Contains clause x → StandsAs trail x True → (l : Lit) → IsUnit trail clause l → ⊥
no_unit_true trail clause x stands is_true l unit =
    unit_is trail clause l x unit stands is_true.1 (λ same. unit.is_open.0 (subst (Contains trail) same is_true.0))

-- a clause with two open literals
no_unit_open : (trail clause : List Lit) (x y : Lit) → Contains clause x → Contains clause y → IsOpen trail x → IsOpen trail y → x ≢ y →
    (l : Lit) → IsUnit trail clause l → ⊥
no_unit_open trail clause x y x_stands y_stands x_open y_open differs l unit =
    unit_is trail clause l x unit x_stands x_open.1 (λ x_is.
    unit_is trail clause l y unit y_stands y_open.1 (λ y_is. differs (x_is ∙ sym y_is)))

-- literals that say nothing, before others
pub nothing_more : (trail part more : List Lit) → SaysNothing trail part → SaysNothing trail (part ++ more)
nothing_more trail part more says = (not_falsified, no_unit) where
  within : (x : Lit) → Contains part x → Contains (part ++ more) x
  within x stands = Contains-append_left part more x stands

  not_falsified : All (IsFalse trail) (part ++ more) → ⊥
  not_falsified falsified = says.0 (λ k d inside. All-contains (IsFalse trail) (part ++ more) (get_or part k d) falsified (within (get_or part k d) (Contains-get_or part k d inside)))

  alone : (u : Lit) → IsUnit trail (part ++ more) u → All (λ k. k ≢ u → IsFalse trail k) part
  alone u unit k d inside = All-contains (λ x. x ≢ u → IsFalse trail x) (part ++ more) (get_or part k d) unit.alone (within (get_or part k d) (Contains-get_or part k d inside))

  no_unit : (u : Lit) → IsUnit trail (part ++ more) u → ⊥
  no_unit u unit = elim (cases_Bool (has u part)) [
    | inl stands ↦ says.1 u (record { stands = has_contains u part stands; is_open = unit.is_open; alone = alone u unit })
    | inr not_there ↦ says.0 (λ k d inside. alone u unit k d inside (λ same.
        both_ways (has u part) not_there (contains_has u part (subst (Contains part) same (Contains-get_or part k d inside)))))
  ]

-- a false literal changes nothing
pub says_false : (trail : List Lit) (x : Lit) (state : ClauseState) → IsFalse trail x → SaysWith trail state (x ∷ []) state
says_false trail x Falsified is_false lits h = All-push (IsFalse trail) lits x h is_false
says_false trail x (UnitOf l) is_false lits h = record {
  stands = Contains-append_left lits (x ∷ []) l h.stands;
  is_open = h.is_open;
  alone = All-push (λ k. k ≢ l → IsFalse trail k) lits x h.alone (λ _. is_false);
}
says_false trail x Other is_false lits h = nothing_more trail lits (x ∷ []) h

pub says_first : (trail : List Lit) (x : Lit) → IsOpen trail x → SaysWith trail Falsified (x ∷ []) (UnitOf x)
says_first trail x o lits h = record {
  stands = Contains-push lits x;
  is_open = o;
  alone = All-push (λ k. k ≢ x → IsFalse trail k) lits x (λ k d inside _. h k d inside) (λ differs. absurd (differs refl));
}

pub says_again : (trail : List Lit) (x : Lit) → SaysWith trail (UnitOf x) (x ∷ []) (UnitOf x)
says_again trail x lits h = record {
  stands = Contains-push lits x;
  is_open = h.is_open;
  alone = All-push (λ k. k ≢ x → IsFalse trail k) lits x h.alone (λ differs. absurd (differs refl));
}

-- whatever stands before a true literal
pub says_true : (trail : List Lit) (x : Lit) (state : ClauseState) → StandsAs trail x True → SaysWith trail state (x ∷ []) Other
says_true trail x state is_true lits h = (
  (λ falsified. is_true.1 (All-contains (IsFalse trail) (lits ++ x ∷ []) x falsified (Contains-push lits x))),
  no_unit_true trail (lits ++ x ∷ []) x (Contains-push lits x) is_true,
)

-- another open literal
pub says_two : (trail : List Lit) (k x : Lit) → IsOpen trail x → k ≢ x → SaysWith trail (UnitOf k) (x ∷ []) Other
says_two trail k x o differs lits h = (
  (λ falsified. o.1 (All-contains (IsFalse trail) (lits ++ x ∷ []) x falsified (Contains-push lits x))),
  no_unit_open trail (lits ++ x ∷ []) k x (Contains-append_left lits (x ∷ []) k h.stands) (Contains-push lits x) h.is_open o differs,
)
