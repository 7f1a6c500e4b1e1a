-- The steps of the solver, each of which adds a line to the derivation or finds a valuation.
use Rattle.std.specs.Prelude.{◌≡◌, ◌<◌, ◌≤◌, ◌^◌, ℕ, Bool, List, [], All, length}
use Rattle.cnf_core.specs.declared.formula.Lit.{Lit}
use Rattle.cnf_core.specs.declared.derivation.Step.{Step as StepLine}
use Rattle.cnf_core.specs.declared.derivation.Derived.TheVariants.{Cube as CubeLine, Step}
use Rattle.cnf_core.specs.Truth.{SatisfiesAll, HasVariables}
use Rattle.unit_propagation.specs.Units.{IsWithin}
use Rattle.unit_propagation.specs.Propagation.{Propagation, decisions}
use Rattle.refutation_checker.specs.Derivation.{Derivation, known, extended}
use Rattle.refutation_checker.specs.AcceptedCubes.{cubes_of}
use Rattle.sat_solver.specs.Answers.{IsCube}
use Rattle.sat_solver.specs.declared.step.Outcome.{Outcome}
use Rattle.sat_solver.specs.declared.step.Outcome.TheVariants.{Satisfied, Refuted, Cube}

-- the propagator has the clauses of the formula and of the accepted lines, and nothing is decided
pub record IsReady (p : Propagation) (d : Derivation) : Type 0 where
  pub clauses : p.clauses ≡ known d
  pub decides : decisions p ≡ []
  pub inputs : d.inputs < p.width
  pub within : All (IsWithin p.width) d.clauses
  pub bound : p.width ≤ 2 ^ 32

-- the valuation gives each input and each variable of the clauses, and satisfies these
pub record IsModel (inputs : ℕ) (clauses : List (List Lit)) (valuation : List Bool) : Type 0 where
  pub gives_inputs : inputs ≤ length valuation
  pub variables : All (HasVariables valuation) clauses
  pub satisfies : SatisfiesAll valuation clauses

-- a step that is the empty clause, with numbers of clauses as its hints
pub record AddsEmptyStep (old new : Derivation) : Type 0 where
  pub step : StepLine
  pub empty : step.clause ≡ []
  pub hints : All (λ hint. 0 < hint) step.hints
  pub added : new ≡ extended old (Step step)

pub record AddsCube (old new : Derivation) : Type 0 where
  pub cube : List Lit
  pub added : new ≡ extended old (CubeLine cube)

-- what a step of the solver comes to
abbrev pub ComesTo : Derivation → Derivation → Outcome → Type 0
ComesTo old new (Satisfied valuation) = (new ≡ old) × IsModel old.inputs old.clauses valuation
ComesTo old new Refuted = AddsEmptyStep old new
ComesTo old new Cube = AddsCube old new

-- a derivation from the formula of that many cubes and nothing else
pub record HasCubes (inputs : ℕ) (clauses : List (List Lit)) (d : Derivation) (count : ℕ) : Type 0 where
  pub same_inputs : d.inputs ≡ inputs
  pub same_clauses : d.clauses ≡ clauses
  pub are_cubes : All IsCube d.derived
  pub counted : length (cubes_of d.derived) ≡ count
