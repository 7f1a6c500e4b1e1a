-- What a line more changes: the known clauses, the count of the cubes, and the facts of an answer.
use Rattle.std.proofs.Common.{◌≡◌, ℕ, ◌+◌, ◌<◌, ◌≤◌, ◌^◌, List, [], ◌∷◌, ◌++◌, length, map, refl, ap, sym, ◌∙◌, subst, arith, append_assoc}
use Rattle.std.specs.Prelude.{All, Contains}
use Rattle.std.proofs.lemmas.List.{map_push, append-nil}
use Rattle.std.proofs.lemmas.List.Elements.{All-push, Contains-push}
use Rattle.cnf_core.specs.declared.formula.Lit.{Lit}
use Rattle.cnf_core.specs.declared.derivation.Step.{Step as StepLine}
use Rattle.cnf_core.specs.declared.derivation.Derived.{Derived}
use Rattle.cnf_core.specs.declared.derivation.Derived.TheVariants.{Cube as CubeLine, Step}
use Rattle.cnf_core.specs.Literal.{negation}
use Rattle.cnf_core.specs.Truth.{IsUnsatisfiable}
use Rattle.unit_propagation.specs.Units.{IsWithin}
use Rattle.unit_propagation.specs.Propagation.{Propagation, decisions, with_clause}
use Rattle.refutation_checker.specs.Derivation.{Derivation, clause_of, known, extended}
use Rattle.refutation_checker.specs.Acceptance.{FollowsByHints, IsAccepted, HasEmptyStep}
use Rattle.refutation_checker.specs.Hints.{HintsConflict}
use Rattle.refutation_checker.specs.AcceptedCubes.{cubes_of, AreFew}
use Rattle.refutation_checker.proofs.AcceptanceLaws.{unsatisfiable-refuted}
use Rattle.refutation_checker.proofs.AcceptedCubesLaws.{few}
use Rattle.sat_solver.specs.Answers.{IsCube, EndsInEmptyStep}
use Rattle.sat_solver.specs.Solving.{IsReady, AddsEmptyStep, AddsCube, HasCubes, ComesTo}
use Rattle.sat_solver.specs.declared.step.Outcome.{Outcome}
use Rattle.sat_solver.specs.declared.step.Outcome.TheVariants.{Refuted, Cube}

-- the known clauses with those of a line more
pub known_extended : (d : Derivation) (line : Derived) → known (extended d line) ≡ known d ++ clause_of line ∷ []
known_extended d line =
    ap (λ (cs : List (List Lit)). d.clauses ++ cs) (map_push clause_of d.derived line)
    ∙ sym (append_assoc d.clauses (map clause_of d.derived) (clause_of line ∷ []))

-- the cube is added to both
pub ready_cube : (p q : Propagation) (d e : Derivation) (cube clause : List Lit) → IsReady p d → e ≡ extended d (CubeLine cube) → clause ≡ map negation cube → q ≡ with_clause p clause → IsReady q e
ready_cube p q d e cube clause h added clause_is with_it = subst (λ (x : Propagation). IsReady x e) (sym with_it) (subst (IsReady (with_clause p clause)) (sym added) (record {
  clauses = ap (λ (cs : List (List Lit)). cs ++ clause ∷ []) h.clauses ∙ ap (λ (c : List Lit). known d ++ c ∷ []) clause_is ∙ sym (known_extended d (CubeLine cube));
  decides = h.decides;
  inputs = h.inputs;
  within = h.within;
  bound = h.bound;
}))

-- a step of no literals follows where its hints conflict
pub empty_follows : (d : Derivation) (step : StepLine) (clauses : List (List Lit)) → clauses ≡ known d → step.clause ≡ [] → HintsConflict clauses [] step.hints → FollowsByHints d step
empty_follows d step clauses same empty conflict = record {
  variables = λ k l inside. absurd (omega (arith, inside, ap length empty));
  apart = λ i j l below inside. absurd (omega (arith, inside, ap length empty));
  conflict = subst (λ (ls : List Lit). HintsConflict (known d) (map negation ls) step.hints) (sym empty) (subst (λ (cs : List (List Lit)). HintsConflict cs [] step.hints) same conflict);
}

count_cube : (lines : List Derived) (cube : List Lit) → length (cubes_of (lines ++ CubeLine cube ∷ [])) ≡ length (cubes_of lines) + 1
count_cube [] cube = refl
count_cube (CubeLine c ∷ lines) cube = let rest = count_cube lines cube in omega arith
count_cube (Step s ∷ lines) cube = count_cube lines cube

count_step : (lines : List Derived) (step : StepLine) → length (cubes_of (lines ++ Step step ∷ [])) ≡ length (cubes_of lines)
count_step [] step = refl
count_step (CubeLine c ∷ lines) step = let rest = count_step lines step in omega arith
count_step (Step s ∷ lines) step = count_step lines step

pub has_none : (inputs : ℕ) (clauses : List (List Lit)) (d : Derivation) → d.inputs ≡ inputs → d.clauses ≡ clauses → d.derived ≡ [] → HasCubes inputs clauses d 0
has_none inputs clauses d same_inputs same_clauses none = record {
  same_inputs = same_inputs;
  same_clauses = same_clauses;
  are_cubes = λ k line inside. absurd (omega (arith, inside, ap length none));
  counted = ap (λ (lines : List Derived). length (cubes_of lines)) none;
}

pub has_more : (inputs : ℕ) (clauses : List (List Lit)) (d e : Derivation) (count : ℕ) → HasCubes inputs clauses d count → AddsCube d e → HasCubes inputs clauses e (count + 1)
has_more inputs clauses d e count h adds = subst (λ (x : Derivation). HasCubes inputs clauses x (count + 1)) (sym adds.added) (record {
  same_inputs = h.same_inputs;
  same_clauses = h.same_clauses;
  are_cubes = All-push IsCube d.derived (CubeLine adds.cube) h.are_cubes tt;
  counted = count_cube d.derived adds.cube ∙ ap (λ (n : ℕ). n + 1) h.counted;
})

-- nothing is derived, and the propagator has the formula
pub ready_none : (p : Propagation) (d : Derivation) (inputs : ℕ) (clauses : List (List Lit)) → HasCubes inputs clauses d 0 → d.derived ≡ [] → p.clauses ≡ clauses → decisions p ≡ [] → inputs < p.width →
    All (IsWithin p.width) clauses → p.width ≤ 2 ^ 32 → IsReady p d
ready_none p d inputs clauses h none same nothing below within bound = record {
  clauses = same ∙ sym h.same_clauses ∙ sym (append-nil d.clauses) ∙ ap (λ (lines : List Derived). d.clauses ++ map clause_of lines) (sym none);
  decides = nothing;
  inputs = omega (arith, below, h.same_inputs);
  within = subst (All (IsWithin p.width)) (sym h.same_clauses) within;
  bound = bound;
}

-- the formula with lines
abbrev pub over : ℕ → List (List Lit) → List Derived → Derivation
over inputs clauses lines = record { inputs = inputs; clauses = clauses; derived = lines }

pub told_is : (inputs : ℕ) (clauses : List (List Lit)) (d : Derivation) (lines : List Derived) → d.inputs ≡ inputs → d.clauses ≡ clauses → lines ≡ d.derived → d ≡ over inputs clauses lines
told_is inputs clauses d lines same_inputs same_clauses same =
    ap (λ (n : ℕ). over n d.clauses d.derived) same_inputs ∙ ap (λ (cs : List (List Lit)). over inputs cs d.derived) same_clauses ∙ ap (over inputs clauses) (sym same)

-- the facts of an answer whose lines are cubes
pub record TellsCubes (inputs : ℕ) (clauses : List (List Lit)) (lines : List Derived) (count : ℕ) : Type 0 where
  pub accepted : IsAccepted (over inputs clauses lines)
  pub are_cubes : All IsCube lines
  pub counted : length (cubes_of lines) ≡ count

pub tells_cubes : (inputs : ℕ) (clauses : List (List Lit)) (d : Derivation) (lines : List Derived) (count : ℕ) → HasCubes inputs clauses d count → IsAccepted d → lines ≡ d.derived →
    TellsCubes inputs clauses lines count
tells_cubes inputs clauses d lines count h accepted same = record {
  accepted = subst IsAccepted (told_is inputs clauses d lines h.same_inputs h.same_clauses same) accepted;
  are_cubes = subst (All IsCube) (sym same) h.are_cubes;
  counted = ap (λ (ls : List Derived). length (cubes_of ls)) same ∙ h.counted;
}

-- as many cubes as there can be were never derived
pub never : (inputs : ℕ) (clauses : List (List Lit)) (lines : List Derived) (count : ℕ) → TellsCubes inputs clauses lines count → 3 ^ inputs ≤ count → ⊥
never inputs clauses lines count h many = let short : AreFew (over inputs clauses lines) = few (over inputs clauses lines) h.accepted in omega (arith, short, h.counted, many)

-- the facts of a refutation
pub record TellsRefutation (inputs : ℕ) (clauses : List (List Lit)) (lines : List Derived) (count : ℕ) : Type 0 where
  pub accepted : IsAccepted (over inputs clauses lines)
  pub ends : EndsInEmptyStep lines
  pub refutes : HasEmptyStep (over inputs clauses lines)
  pub unsatisfiable : IsUnsatisfiable clauses
  pub counted : length (cubes_of lines) ≡ count

pub tells_refutation : (inputs : ℕ) (clauses : List (List Lit)) (d e : Derivation) (lines : List Derived) (count : ℕ) → HasCubes inputs clauses d count → AddsEmptyStep d e → IsAccepted e →
    lines ≡ e.derived → TellsRefutation inputs clauses lines count
tells_refutation inputs clauses d e lines count h adds accepted same = record {
  accepted = all;
  ends = record { cubes = d.derived; step = adds.step; parts = parts; are_cubes = h.are_cubes; empty = adds.empty; hints = adds.hints };
  refutes = refutes;
  unsatisfiable = unsatisfiable-refuted (over inputs clauses lines) all refutes;
  counted = ap (λ (ls : List Derived). length (cubes_of ls)) parts ∙ count_step d.derived adds.step ∙ h.counted;
} where
  parts : lines ≡ d.derived ++ Step adds.step ∷ []
  parts = same ∙ ap (λ (x : Derivation). x.derived) adds.added

  all : IsAccepted (over inputs clauses lines)
  all = subst IsAccepted (told_is inputs clauses e lines (ap (λ (x : Derivation). x.inputs) adds.added ∙ h.same_inputs) (ap (λ (x : Derivation). x.clauses) adds.added ∙ h.same_clauses) same) accepted

  refutes : HasEmptyStep (over inputs clauses lines)
  refutes = (Step adds.step, subst (λ (ls : List Derived). Contains ls (Step adds.step)) (sym parts) (Contains-push d.derived (Step adds.step)), adds.empty)

-- what a step has come to
pub comes_refuted : (d e : Derivation) (outcome : Outcome) → outcome ≡ Refuted → ComesTo d e outcome → AddsEmptyStep d e
comes_refuted d e outcome is comes = subst (ComesTo d e) is comes

pub comes_cube : (d e : Derivation) (outcome : Outcome) → outcome ≡ Cube → ComesTo d e outcome → AddsCube d e
comes_cube d e outcome is comes = subst (ComesTo d e) is comes
