-- An accepted derivation is sound: a valuation that satisfies the formula makes each line's clause true.
use Rattle.std.proofs.Common.{◌≡◌, ℕ, ◌+◌, ◌-◌, add-one, ◌≤◌, false, List, [], ◌∷◌, ◌++◌, zero, suc, length, get_or, take, map, inl, inr, ap, sym, ◌∙◌, subst, arith}
use Rattle.std.specs.Prelude.{IsTrue, All, Contains}
use Rattle.std.proofs.lemmas.Bool.{not_from_false}
use Rattle.std.proofs.lemmas.Option.{slice_get-get_or, get_or_from_slice_get, slice_get_within}
use Rattle.std.proofs.lemmas.List.{take_all, take_more, get_or-map, length-map, map-append}
use Rattle.std.proofs.lemmas.List.Elements.{All-contains, All-push, All-append, All-map}
use Rattle.cnf_core.specs.declared.formula.Lit.{Lit}
use Rattle.cnf_core.specs.declared.derivation.Step.{Step as StepLine}
use Rattle.cnf_core.specs.declared.derivation.Derived.{Derived}
use Rattle.cnf_core.specs.declared.derivation.Derived.TheVariants.{Cube, Step}
use Rattle.cnf_core.specs.Literal.{negation, LitSet}
use Rattle.cnf_core.specs.Truth.{IsUnsatisfiable}
use Rattle.cnf_core.proofs.Literals.{negation_negation}
use Rattle.cnf_core.proofs.Soundness.{IsComplete, Meets, not_both, meets-leaves, no_conflict-meets, true_literals, true_literals-complete, meets-all, meets-cases}
use Rattle.refutation_checker.specs.Derivation.{Derivation, clause_of, known, before}
use Rattle.unit_propagation.specs.Units.{IsFalse}
use Rattle.refutation_checker.specs.Hints.{IsNumbered, HintsConflict}
use Rattle.refutation_checker.specs.Acceptance.{FollowsByHints, IsLeastConflict, MayFollow, IsAccepted, IsEmptyStep, HasEmptyStep}

abbrev HasAll : LitSet → List Lit → Type 0
HasAll set lits = All (λ l. IsTrue (set l)) lits

numbered-contains : (clauses : List (List Lit)) (number : ℕ) (clause : List Lit) → IsNumbered clauses number clause → Contains clauses clause
numbered-contains clauses number clause there =
    (number - 1, slice_get_within clauses (number - 1) clause there.1, get_or_from_slice_get clauses (number - 1) clause clause there.1)

-- no hints conflict over a set that meets the clauses
no_conflict-hints : (set : LitSet) (clauses : List (List Lit)) (assigned : List Lit) (hints : List ℕ) → IsComplete set → All (Meets set) clauses →
    HasAll set assigned → HintsConflict clauses assigned hints → ⊥
no_conflict-hints set clauses assigned [] complete meets has conflict = conflict
no_conflict-hints set clauses assigned (hint ∷ hints) complete meets has (clause, there, inl falsified) =
    none (All-contains (Meets set) clauses clause meets (numbered-contains clauses hint clause there)) where
      none : Meets set clause → ⊥
      none (i, x, inside, at, holds) =
          not_both set x complete holds (All-contains (λ l. IsTrue (set l)) assigned (negation x) has (All-contains (IsFalse assigned) clause x falsified (i, inside, at)))
no_conflict-hints set clauses assigned (hint ∷ hints) complete meets has (clause, there, inr (l, unit, rest)) =
    no_conflict-hints set clauses (assigned ++ l ∷ []) hints complete meets (All-push (λ k. IsTrue (set k)) assigned l has here) rest where
      here : IsTrue (set l)
      here = meets-leaves set clause l complete (All-contains (Meets set) clauses clause meets (numbered-contains clauses hint clause there))
          (λ k d inside differs. All-contains (λ x. IsTrue (set x)) assigned (negation (get_or clause k d)) has (unit.alone k d inside differs))

-- the negations of literals outside the set are in it
negations-in : (set : LitSet) (lits : List Lit) → IsComplete set → All (λ l. set l ≡ false) lits → HasAll set (map negation lits)
negations-in set lits complete none = All-map (λ l. IsTrue (set l)) negation lits (λ k d inside. complete (get_or lits k d) ∙ not_from_false (set (get_or lits k d)) (none k d inside))

-- a line that may follow is met by each set that meets the clauses before it
meets-step : (set : LitSet) (d : Derivation) (step : StepLine) → IsComplete set → All (Meets set) (known d) → FollowsByHints d step → Meets set step.clause
meets-step set d step complete meets follows = elim (meets-cases set step.clause) [
  | inl here ↦ here
  | inr none ↦ absurd (no_conflict-hints set (known d) (map negation step.clause) step.hints complete meets (negations-in set step.clause complete none) follows.conflict)
]

meets-cube : (set : LitSet) (d : Derivation) (cube : List Lit) → IsComplete set → All (Meets set) (known d) → IsLeastConflict d.inputs (known d) cube → Meets set (map negation cube)
meets-cube set d cube complete meets least = elim (meets-cases set (map negation cube)) [
  | inl here ↦ here
  | inr none ↦ absurd (no_conflict-meets set (known d) cube complete meets (inside none) least.conflict)
] where
  inside : All (λ l. set l ≡ false) (map negation cube) → HasAll set cube
  inside none k x within =
      let here = negations-in set (map negation cube) complete none in
      let size = length-map cube negation in
      let size2 = length-map (map negation cube) negation in
      let there = here k x (omega arith) in
      subst (λ (l : Lit). IsTrue (set l))
      (get_or-map negation (map negation cube) k x x (omega arith) ∙ ap negation (get_or-map negation cube k x x within) ∙ negation_negation (get_or cube k x)) there

meets-line : (set : LitSet) (d : Derivation) (line : Derived) → IsComplete set → All (Meets set) (known d) → MayFollow d line → Meets set (clause_of line)
meets-line set d (Cube cube) complete meets may = meets-cube set d cube complete meets may
meets-line set d (Step step) complete meets may = meets-step set d step complete meets may

no_line : Derived
no_line = Cube []

meets-before : (set : LitSet) (d : Derivation) → IsComplete set → All (Meets set) d.clauses → IsAccepted d →
    (n : ℕ) → n ≤ length d.derived → All (Meets set) (map clause_of (take n d.derived))
meets-before set d complete meets accepted zero inside = λ k x within. absurd (omega arith)
meets-before set d complete meets accepted (suc n) inside =
    let earlier = meets-before set d complete meets accepted n (omega arith) in
    let line = get_or d.derived n no_line in
    let may = accepted n line (slice_get-get_or d.derived n no_line (omega arith)) in
    let all : All (Meets set) (known (before d n)) = All-append (Meets set) d.clauses (map clause_of (take n d.derived)) meets earlier in
    let here = meets-line set (before d n) line complete all may in
    let more : take (n + 1) d.derived ≡ take n d.derived ++ line ∷ [] = take_more d.derived n no_line (omega arith) in
    let pushed : map clause_of (take (suc n) d.derived) ≡ map clause_of (take n d.derived) ++ clause_of line ∷ [] =
    ap (map clause_of) (rw (← add-one n) more) ∙ map-append clause_of (take n d.derived) (line ∷ []) in
    subst (All (Meets set)) (sym pushed) (All-push (Meets set) (map clause_of (take n d.derived)) (clause_of line) earlier here)

-- a formula with an accepted empty step has no valuation
pub unsatisfiable-refuted : (d : Derivation) → IsAccepted d → HasEmptyStep d → IsUnsatisfiable d.clauses
unsatisfiable-refuted d accepted (line, stands, empty) valuation satisfied =
    let set = true_literals valuation in
    let complete = true_literals-complete valuation in
    let meets = meets-before set d complete (meets-all valuation d.clauses satisfied) accepted (length d.derived) (omega arith) in
    let all : All (Meets set) (map clause_of d.derived) =
    subst (λ (ds : List Derived). All (Meets set) (map clause_of ds)) (take_all (length d.derived) d.derived (omega arith)) meets in
    none line empty (meets_at all) where
      none : (l : Derived) → IsEmptyStep l → Meets (true_literals valuation) (clause_of l) → ⊥
      none (Cube cube) e m = e
      none (Step step) e (k, x, inside, at, holds) = let size = ap length e in absurd (omega arith)

      meets_at : All (Meets (true_literals valuation)) (map clause_of d.derived) → Meets (true_literals valuation) (clause_of line)
      meets_at all =
          let k = stands.0 in
          let size = length-map d.derived clause_of in
          subst (Meets (true_literals valuation)) (get_or-map clause_of d.derived k line [] stands.1 ∙ ap clause_of stands.2) (all k [] (omega (arith, stands.1)))
