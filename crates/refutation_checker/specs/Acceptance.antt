-- When a step or a cube may be added to a derivation, and when a derivation is a refutation.
use Rattle.std.specs.Prelude.{◌≡◌, ℕ, ◌<◌, ◌++◌, ◌∷◌, [], List, length, slice_get, Some, All, Contains, map, remove}
use Rattle.cnf_core.specs.declared.formula.Lit.{Lit}
use Rattle.cnf_core.specs.declared.derivation.Step.{Step as StepLine}
use Rattle.cnf_core.specs.declared.derivation.Derived.{Derived}
use Rattle.cnf_core.specs.declared.derivation.Derived.TheVariants.{Cube, Step}
use Rattle.cnf_core.specs.Literal.{negation, IsApart}
use Rattle.cnf_core.specs.Propagation.{Sets, Conflicts}
use Rattle.refutation_checker.specs.Derivation.{Derivation, known, before, IsInput, IsVariable}
use Rattle.refutation_checker.specs.Hints.{HintsConflict}

-- with the clause's literals false, the hints conflict
pub record FollowsByHints (d : Derivation) (step : StepLine) : Type 0 where
  pub variables : All (λ l. IsVariable d.inputs d.clauses l.var) step.clause
  pub apart : IsApart step.clause
  pub conflict : HintsConflict (known d) (map negation step.clause) step.hints

-- propagation sets neither the literal nor its negation
abbrev pub LeavesOpen : List (List Lit) → List Lit → Lit → Type 0
LeavesOpen clauses decided l = ¬ Sets clauses decided l × ¬ Sets clauses decided (negation l)

-- without any one of the literals propagation does not conflict
abbrev pub IsEachNeeded : List (List Lit) → List Lit → Type 0
IsEachNeeded clauses cube = (i : ℕ) → i < length cube → ¬ Conflicts clauses (remove cube i)

-- propagation conflicts under all the literals and under no fewer of them; before the last one its variable is open
pub record IsLeastConflict (inputs : ℕ) (clauses : List (List Lit)) (cube : List Lit) : Type 0 where
  pub decides_inputs : All (λ l. IsInput inputs l.var) cube
  pub apart : IsApart cube
  pub conflict : Conflicts clauses cube
  pub needed : IsEachNeeded clauses cube
  pub last : (rest : List Lit) × (l : Lit) × (cube ≡ rest ++ l ∷ []) × LeavesOpen clauses rest l

abbrev pub MayFollow : Derivation → Derived → Type 0
MayFollow d (Cube cube) = IsLeastConflict d.inputs (known d) cube
MayFollow d (Step step) = FollowsByHints d step

-- each line may follow the formula and the lines before it
abbrev pub IsAccepted : Derivation → Type 0
IsAccepted d = (i : ℕ) (line : Derived) → slice_get d.derived i ≡ Some line → MayFollow (before d i) line

abbrev pub IsEmptyStep : Derived → Type 0
IsEmptyStep (Cube cube) = ⊥
IsEmptyStep (Step step) = step.clause ≡ []

-- the empty clause is among the steps
abbrev pub HasEmptyStep : Derivation → Type 0
HasEmptyStep d = (line : Derived) × Contains d.derived line × IsEmptyStep line
