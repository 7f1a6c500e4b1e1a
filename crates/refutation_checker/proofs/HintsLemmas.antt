-- One hint of a step: what its clause says decides whether the hints from it on conflict.
use Rattle.std.proofs.Common.{◌≡◌, ◌≢◌, ◌≤◌, zero, suc, length, arith, ℕ, List, [], ◌∷◌, ◌++◌, inl, inr, sym, ◌∙◌, subst}
use Rattle.std.specs.Prelude.{Some, All, slice_get}
use Rattle.std.proofs.lemmas.List.Elements.{All-contains}
use Rattle.cnf_core.specs.declared.formula.Lit.{Lit}
use Rattle.cnf_core.proofs.Literals.{lit-cases}
use Rattle.unit_propagation.specs.Units.{IsFalse, IsUnit}
use Rattle.refutation_checker.specs.Hints.{IsNumbered, HintsConflict, IsHintState}
use Rattle.unit_propagation.specs.ClauseStates.{IsState}
use Rattle.unit_propagation.specs.declared.clause_state.ClauseState.{ClauseState}
use Rattle.unit_propagation.specs.declared.clause_state.ClauseState.TheVariants.{Falsified, Unit as UnitOf, Other}

same_numbered : (clauses : List (List Lit)) (number : ℕ) (a b : List Lit) → IsNumbered clauses number a → IsNumbered clauses number b → a ≡ b
same_numbered clauses number a b h k = some_same a b (sym h.1 ∙ k.1) where
  some_same : (a b : List Lit) → Some a ≡ Some b → a ≡ b
  some_same a b e = cc

-- a clause has one unit
one_unit : (trail clause : List Lit) (k l : Lit) → IsUnit trail clause k → IsUnit trail clause l → k ≡ l
one_unit trail clause k l h j = elim (lit-cases k l) [
  | inl same ↦ same
  | inr differs ↦ absurd (h.is_open.1 (All-contains (λ x. x ≢ l → IsFalse trail x) clause k j.alone h.stands differs))
]

pub hint-onward : (clauses : List (List Lit)) (trail : List Lit) (hint : ℕ) (hints : List ℕ) (l : Lit) →
    IsHintState clauses trail hint (UnitOf l) → HintsConflict clauses (trail ++ l ∷ []) hints → HintsConflict clauses trail (hint ∷ hints)
hint-onward clauses trail hint hints l (clause, number, unit) rest = (clause, number, inr (l, unit, rest))

pub hint-back : (clauses : List (List Lit)) (trail : List Lit) (hint : ℕ) (hints : List ℕ) (l : Lit) →
    IsHintState clauses trail hint (UnitOf l) → HintsConflict clauses trail (hint ∷ hints) → HintsConflict clauses (trail ++ l ∷ []) hints
hint-back clauses trail hint hints l (clause, number, unit) (other, other_number, inl falsified) =
    absurd (unit.is_open.1 (All-contains (IsFalse trail) clause l (subst (All (IsFalse trail)) (same_numbered clauses hint other clause other_number number) falsified) unit.stands))
hint-back clauses trail hint hints l (clause, number, unit) (other, other_number, inr (k, other_unit, rest)) =
    let there = subst (λ (c : List Lit). IsUnit trail c k) (same_numbered clauses hint other clause other_number number) other_unit in
    subst (λ (x : Lit). HintsConflict clauses (trail ++ x ∷ []) hints) (one_unit trail clause k l there unit) rest

pub hint-other : (clauses : List (List Lit)) (trail : List Lit) (hint : ℕ) (hints : List ℕ) →
    IsHintState clauses trail hint Other → HintsConflict clauses trail (hint ∷ hints) → ⊥
hint-other clauses trail hint hints says (clause, number, inl falsified) = (says clause number).0 falsified
hint-other clauses trail hint hints says (clause, number, inr (l, unit, rest)) = (says clause number).1 l unit

-- a hint whose clause is there
pub hint-there : (clauses : List (List Lit)) (trail : List Lit) (number : ℕ) (clause : List Lit) (state : ClauseState) →
    IsNumbered clauses number clause → IsState trail clause state → IsHintState clauses trail number state
hint-there clauses trail number clause Falsified there says = (clause, there, says)
hint-there clauses trail number clause (UnitOf l) there says = (clause, there, says)
hint-there clauses trail number clause Other there says =
    λ other other_there. subst (λ (c : List Lit). IsState trail c Other) (same_numbered clauses number clause other there other_there) says

-- no clause stands past the end
pub no_number : (clauses : List (List Lit)) (i : ℕ) (clause : List Lit) → length clauses ≤ i → slice_get clauses i ≡ Some clause → ⊥
no_number [] i clause past at = cc
no_number (c ∷ cs) zero clause past at = absurd (omega arith)
no_number (c ∷ cs) (suc i) clause past at = no_number cs i clause (omega arith) at
