-- What an answer tells: the derivation on the way to it, and the facts of each kind of answer.
use Rattle.std.specs.Prelude.{◌≡◌, ◌<◌, ◌∷◌, ◌++◌, ℕ, Bool, List, [], All, ⊤}
use Rattle.cnf_core.specs.declared.formula.Lit.{Lit}
use Rattle.cnf_core.specs.declared.derivation.Step.{Step as StepLine}
use Rattle.cnf_core.specs.declared.derivation.Derived.{Derived}
use Rattle.cnf_core.specs.declared.derivation.Derived.TheVariants.{Cube, Step}
use Rattle.refutation_checker.specs.Derivation.{Derivation}
use Rattle.sat_solver.specs.declared.answer.Answer.{Answer}
use Rattle.sat_solver.specs.declared.answer.Answer.TheVariants.{Sat, Unsat, Spent}

abbrev pub steps_of : Answer → List Derived
steps_of (Sat valuation steps) = steps
steps_of (Unsat steps) = steps
steps_of (Spent steps) = steps

-- the formula with the lines of the answer
abbrev pub told : ℕ → List (List Lit) → Answer → Derivation
told inputs clauses answer = record { inputs = inputs; clauses = clauses; derived = steps_of answer }

abbrev pub IfSat : Answer → (List Bool → Type 0) → Type 0
IfSat (Sat valuation steps) says = says valuation
IfSat (Unsat steps) says = ⊤
IfSat (Spent steps) says = ⊤

abbrev pub IfUnsat : Answer → Type 0 → Type 0
IfUnsat (Sat valuation steps) says = ⊤
IfUnsat (Unsat steps) says = says
IfUnsat (Spent steps) says = ⊤

abbrev pub IfSpent : Answer → Type 0 → Type 0
IfSpent (Sat valuation steps) says = ⊤
IfSpent (Unsat steps) says = ⊤
IfSpent (Spent steps) says = says

abbrev pub IfDecided : Answer → Type 0 → Type 0
IfDecided (Sat valuation steps) says = says
IfDecided (Unsat steps) says = says
IfDecided (Spent steps) says = ⊤

abbrev pub IsCube : Derived → Type 0
IsCube (Cube cube) = ⊤
IsCube (Step step) = ⊥

-- cubes, and then the empty clause with numbers of clauses as its hints
pub record EndsInEmptyStep (lines : List Derived) : Type 0 where
  pub cubes : List Derived
  pub step : StepLine
  pub parts : lines ≡ cubes ++ Step step ∷ []
  pub are_cubes : All IsCube cubes
  pub empty : step.clause ≡ []
  pub hints : All (λ hint. 0 < hint) step.hints

-- the lines are cubes, but for the empty clause at the end of a refutation
abbrev pub HasPlainLines : Answer → Type 0
HasPlainLines (Sat valuation steps) = All IsCube steps
HasPlainLines (Unsat steps) = EndsInEmptyStep steps
HasPlainLines (Spent steps) = All IsCube steps
