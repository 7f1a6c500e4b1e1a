-- Runs of a program under its bounds on an input.
use Rattle.std.specs.Prelude.{ℕ, List}
use Rattle.p4_program.specs.declared.bounds.Bounds.{Bounds}
use Rattle.p4_program.specs.declared.input.Input.{Input}
use Rattle.p4_program.specs.declared.program.Program.{Program}
use Rattle.p4_program.specs.declared.outcome.Outcome.{Outcome}
use Rattle.p4_meaning.specs.Reads.{Read}
use Rattle.p4_meaning.specs.V1modelRun.{SwitchRuns}

-- the run whose unspecified reads give these values, in this order, ends so and begins these statements
abbrev pub RunUnder : Program → Bounds → Input → List Read → Outcome → List ℕ → Type 0
RunUnder p b x reads outcome marks = SwitchRuns (record { program = p; bounds = b; input = x }) reads marks outcome

-- The program, under these bounds, may run so on this input: some run ends so and begins these statements.
pub record Run (p : Program) (b : Bounds) (x : Input) (outcome : Outcome) (marks : List ℕ) : Type 0 where
  pub reads : List Read
  pub under : RunUnder p b x reads outcome marks
