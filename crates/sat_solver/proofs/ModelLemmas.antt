-- Where each input is set without a conflict, the formula is satisfied.
use Rattle.std.proofs.Common.{◌≡◌, ℕ, ◌+◌, ◌-◌, ◌<◌, ◌≤◌, ◌⊎◌, Bool, true, false, List, [], ◌∷◌, ◌++◌, zero, suc, Some, length, get_or, map, inl, inr, refl, ap, sym, ◌∙◌, subst, arith, length-append}
use Rattle.std.specs.Prelude.{All, Any, Contains}
use Rattle.std.proofs.lemmas.Bool.{cases_lt}
use Rattle.std.proofs.lemmas.Option.{slice_get-get_or, get_or_from_slice_get}
use Rattle.std.proofs.lemmas.List.{get_or_append_left, get_or_push}
use Rattle.std.proofs.lemmas.List.Elements.{All-contains, Contains-get_or, Contains-push_cases, Contains-append_left}
use Rattle.cnf_core.specs.declared.formula.Lit.{Lit}
use Rattle.cnf_core.specs.Literal.{negation}
use Rattle.cnf_core.specs.Propagation.{Sets, Conflicts}
use Rattle.cnf_core.specs.Truth.{Satisfies}
use Rattle.unit_propagation.specs.Units.{IsWithin}
use Rattle.unit_propagation.specs.Assigned.{StandsAs}
use Rattle.unit_propagation.specs.declared.assignment.Truth.{Truth}
use Rattle.unit_propagation.specs.declared.assignment.Truth.TheVariants.{False, Open}
use Rattle.unit_propagation.specs.Propagation.{Propagation, decisions}
use Rattle.unit_propagation.proofs.PropagationLaws.{sets_cut, conflicts_cut, sets_clauses, conflicts_clauses}
use Rattle.refutation_checker.specs.Derivation.{Derivation, clause_of, known}
use Rattle.cnf_core.specs.Determined.{Chooses, SetsVariable, IsDetermined, AreNumbered}
use Rattle.sat_solver.specs.Deciding.{IsReached, literal, IsSetOneWay, AreSetTo, GivesTrail, SaysVariable}
use Rattle.sat_solver.specs.Solving.{IsModel}
use Rattle.sat_solver.proofs.ListLemmas.{any_or_all}

-- a choice of the inputs from a trail that sets them
pub record Chosen (n : ℕ) (trail : List Lit) : Type 0 where
  pub chosen : List Lit
  pub chooses : Chooses n chosen
  pub part : (l : Lit) → Contains chosen l → Contains trail l

chosen_more : (n : ℕ) (trail : List Lit) (l : Lit) → Chosen n trail → l.var ≡ n + 1 → Contains trail l → Chosen (n + 1) trail
chosen_more n trail l h var stands = record {
  chosen = h.chosen ++ l ∷ [];
  chooses = record {
    one_each = length-append h.chosen (l ∷ []) ∙ ap (λ (k : ℕ). k + 1) h.chooses.one_each;
    in_order = λ i d inside. elim (cases_lt i n) [
      | inl earlier ↦ ap (λ (k : Lit). k.var) (get_or_append_left h.chosen (l ∷ []) d i (subst (λ (k : ℕ). i < k) (sym h.chooses.one_each) earlier)) ∙ h.chooses.in_order i d earlier
      | inr past ↦
          let last : length h.chosen ≡ i = omega (arith, h.chooses.one_each) in
          ap (λ (k : Lit). k.var) (get_or_push h.chosen l d i last) ∙ var ∙ ap (λ (k : ℕ). k + 1) (sym h.chooses.one_each ∙ last)
    ];
  };
  part = λ k there. elim (Contains-push_cases h.chosen l k there) [ inl earlier ↦ h.part k earlier | inr same ↦ subst (Contains trail) same stands ];
}

choice_more : (n : ℕ) (trail : List Lit) → Chosen n trail → IsSetOneWay trail (n + 1) → Chosen (suc n) trail
choice_more n trail before set = subst (λ (m : ℕ). Chosen m trail) more (pick set) where
  more : n + 1 ≡ suc n
  more = omega arith

  pick : IsSetOneWay trail (n + 1) → Chosen (n + 1) trail
  pick (inl stands) = chosen_more n trail (literal (n + 1) true) before refl stands
  pick (inr stands) = chosen_more n trail (literal (n + 1) false) before refl stands

pub choice : (n : ℕ) (trail : List Lit) → AreSetTo n trail → Chosen n trail
choice zero trail set = record {
  chosen = [];
  chooses = record { one_each = refl; in_order = λ i d inside. absurd (omega arith) };
  part = λ l stands. nothing l stands;
} where
  nothing : (l : Lit) → Contains [] l → Contains trail l
  nothing l (k, below, is) = absurd (omega arith)
choice (suc n) trail set = choice_more n trail (choice n trail (λ var is. set var (is.0, omega (arith, is.1)))) (set (n + 1) (omega arith, omega arith))

-- the trail has each literal of the formula or its negation, or else there were a conflict
sets_onward : (inputs : ℕ) (p : Propagation) (d : Derivation) (decided : List Lit) (chosen : Chosen inputs p.trail) (l : Lit) → IsReached inputs p decided → p.clauses ≡ known d →
    Sets d.clauses chosen.chosen l → Sets p.clauses decided l
sets_onward inputs p d decided chosen l reached same sets = sets_cut p.clauses chosen.chosen decided l (chosen_set inputs p decided chosen reached)
    (subst (λ (cs : List (List Lit)). Sets cs chosen.chosen l) (sym same) (sets_clauses d.clauses (map clause_of d.derived) chosen.chosen l sets)) where
      chosen_set : (inputs : ℕ) (p : Propagation) (decided : List Lit) (chosen : Chosen inputs p.trail) → IsReached inputs p decided → (k : Lit) → Contains chosen.chosen k → Sets p.clauses decided k
      chosen_set inputs p decided chosen reached k stands = subst (λ (ds : List Lit). Sets p.clauses ds k) reached.decides ((reached.full k).0 (chosen.part k stands))

no_conflict_onward : (inputs : ℕ) (p : Propagation) (d : Derivation) (decided : List Lit) (chosen : Chosen inputs p.trail) → IsReached inputs p decided → p.clauses ≡ known d →
    Conflicts d.clauses chosen.chosen → ⊥
no_conflict_onward inputs p d decided chosen reached same conflicts = reached.no_conflict
    (conflicts_cut p.clauses chosen.chosen decided (λ k stands. subst (λ (ds : List Lit). Sets p.clauses ds k) reached.decides ((reached.full k).0 (chosen.part k stands)))
    (subst (λ (cs : List (List Lit)). Conflicts cs chosen.chosen) (sym same) (conflicts_clauses d.clauses (map clause_of d.derived) chosen.chosen conflicts)))

-- a clause of the formula has a literal that is set
has_true : (inputs : ℕ) (p : Propagation) (d : Derivation) (decided : List Lit) (clause : List Lit) → IsReached inputs p decided → p.clauses ≡ known d → Contains d.clauses clause →
    All (λ l. Sets p.clauses decided l ⊎ Sets p.clauses decided (negation l)) clause → Any (Sets p.clauses decided) clause
has_true inputs p d decided clause reached same stands each = elim (any_or_all (Sets p.clauses decided) (λ l. Sets p.clauses decided (negation l)) clause each) [
  | inl here ↦ here
  | inr all ↦ absurd (reached.no_conflict (conflict there all))
] where
  there : Contains p.clauses clause
  there = subst (λ (cs : List (List Lit)). Contains cs clause) (sym same) (Contains-append_left d.clauses (map clause_of d.derived) clause stands)

  conflict : Contains p.clauses clause → All (λ l. Sets p.clauses decided (negation l)) clause → Conflicts p.clauses decided
  conflict (k, inside, at) all = (k, clause, inside, at, all)

-- each clause of the formula has a literal that is set
clause_true : (inputs : ℕ) (p : Propagation) (d : Derivation) (decided : List Lit) → IsReached inputs p decided → p.clauses ≡ known d → IsDetermined inputs d.clauses →
    AreSetTo inputs p.trail → (clause : List Lit) → Contains d.clauses clause → Any (Sets p.clauses decided) clause
clause_true inputs p d decided reached same determined set clause stands = elim (determined chosen.chosen chosen.chooses) [
  | inl conflicts ↦ absurd (no_conflict_onward inputs p d decided chosen reached same conflicts)
  | inr total ↦ has_true inputs p d decided clause reached same stands (each (All-contains (All (SetsVariable d.clauses chosen.chosen)) d.clauses clause total stands))
] where
  chosen : Chosen inputs p.trail
  chosen = choice inputs p.trail set

  each : All (SetsVariable d.clauses chosen.chosen) clause → All (λ l. Sets p.clauses decided l ⊎ Sets p.clauses decided (negation l)) clause
  each total k e inside = elim (total k e inside) [
    | inl sets ↦ inl (sets_onward inputs p d decided chosen (get_or clause k e) reached same sets)
    | inr sets ↦ inr (sets_onward inputs p d decided chosen (negation (get_or clause k e)) reached same sets)
  ]

-- and the valuation that gives the trail makes it true
satisfies : (valuation : List Bool) (width : ℕ) (p : Propagation) (decided clause : List Lit) → decisions p ≡ decided → ((l : Lit) → Sets p.clauses decided l → Contains p.trail l) →
    GivesTrail valuation width p.trail → All (λ l. 0 < l.var) clause → IsWithin width clause → Any (Sets p.clauses decided) clause → Satisfies valuation clause
satisfies valuation width p decided clause decides on_trail gives numbered within (k, l, inside, at, sets) =
    let var : 0 < l.var = subst (λ (x : Lit). 0 < x.var) at (numbered k l inside) in
    let below : l.var < width = subst (λ (x : Lit). x.var < width) at (within k l inside) in
    (k, l, inside, at, (var, gives l var below (on_trail l sets)))

pub is_model : (inputs : ℕ) (valuation : List Bool) (p : Propagation) (d : Derivation) (decided : List Lit) → d.inputs ≡ inputs → inputs < p.width → p.clauses ≡ known d →
    All (IsWithin p.width) d.clauses → IsReached inputs p decided → IsDetermined inputs d.clauses → AreNumbered d.clauses → AreSetTo inputs p.trail → GivesTrail valuation p.width p.trail →
    p.width ≤ length valuation + 1 → IsModel d.inputs d.clauses valuation
is_model inputs valuation p d decided inputs_are below same within reached determined numbered set gives long = record {
  gives_inputs = omega (arith, inputs_are, below, long);
  variables = λ k e inside i l within_clause.
      (numbered k e inside i l within_clause, (let here = within k e inside i l within_clause in omega (arith, here, long)));
  satisfies = λ k e inside. satisfies valuation p.width p decided (get_or d.clauses k e) reached.decides
      (λ l sets. (reached.full l).1 (subst (λ (ds : List Lit). Sets p.clauses ds l) (sym reached.decides) sets)) gives (numbered k e inside) (within k e inside)
      (clause_true inputs p d decided reached same determined set (get_or d.clauses k e) (Contains-get_or d.clauses k e inside));
}

-- one variable more is given
pub gives_none : (valuation : List Bool) (trail : List Lit) → GivesTrail valuation 1 trail
gives_none valuation trail l var below stands = absurd (omega arith)

pub gives_more : (valuation : List Bool) (n : ℕ) (trail : List Lit) (truth : Bool) → length valuation + 1 ≡ n → GivesTrail valuation n trail → SaysVariable trail n truth →
    GivesTrail (valuation ++ truth ∷ []) (n + 1) trail
gives_more valuation n trail truth size gives says l var below stands = elim (cases_lt l.var n) [
  | inl earlier ↦
      let old = gives l var earlier stands in
      slice_get-get_or (valuation ++ truth ∷ []) (l.var - 1) true (omega (arith, longer))
      ∙ ap (λ (b : Bool). Some b) (get_or_append_left valuation (truth ∷ []) true (l.var - 1) (omega arith) ∙ get_or_from_slice_get valuation (l.var - 1) l.positive true old)
  | inr past ↦
      let same : l.var ≡ n = omega arith in
      slice_get-get_or (valuation ++ truth ∷ []) (l.var - 1) true (omega (arith, longer))
      ∙ ap (λ (b : Bool). Some b) (get_or_push valuation truth true (l.var - 1) (omega arith) ∙ says l.positive (subst (λ (m : ℕ). Contains trail (literal m l.positive)) same stands))
] where
  longer : length (valuation ++ truth ∷ []) ≡ length valuation + 1
  longer = length-append valuation (truth ∷ [])

pub gives_all : (valuation : List Bool) (n width : ℕ) (trail : List Lit) → width ≤ n → GivesTrail valuation n trail → GivesTrail valuation width trail
gives_all valuation n width trail few gives l var below stands = gives l var (omega arith) stands

pub says_true : (trail : List Lit) (var : ℕ) → (Contains trail (literal var false) → ⊥) → SaysVariable trail var true
says_true trail var none true stands = refl
says_true trail var none false stands = absurd (none stands)

pub says_false : (trail : List Lit) (var : ℕ) → (Contains trail (literal var true) → ⊥) → SaysVariable trail var false
says_false trail var none true stands = absurd (none stands)
says_false trail var none false stands = refl

-- a variable that is false or open
pub says_not_true : (trail : List Lit) (var : ℕ) (t : Truth) → StandsAs trail (literal var true) t → (t ≡ False) ⊎ (t ≡ Open) → SaysVariable trail var false
says_not_true trail var t stands (inl is) = says_false trail var ((subst (StandsAs trail (literal var true)) is stands).1)
says_not_true trail var t stands (inr is) = says_false trail var ((subst (StandsAs trail (literal var true)) is stands).0)
