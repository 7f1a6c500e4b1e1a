-- Inputs whose runs agree.
use Rattle.std.specs.Prelude.{◌≡◌, ◌≢◌, ℕ, List, Contains}
use Rattle.p4_program.specs.declared.bounds.Bounds.{Bounds}
use Rattle.p4_program.specs.declared.typed.input.Input.{Input}
use Rattle.p4_program.specs.BoundedInput.{BoundedInput}
use Rattle.p4_program.specs.Syntax.Programs.{CoreProgram}
use Rattle.p4_program.specs.declared.outcome.Outcome.{Outcome}
use Rattle.p4_program.specs.declared.outcome.Shape.{Shape}
use Rattle.p4_program.specs.declared.outcome.Shape.TheVariants.{Overrun}
use Rattle.p4_program.specs.Outcome.{shape_of}
use Rattle.p4_meaning.specs.Runs.Run.{Run}

-- all runs of the input have one shape, and that is not Overrun
pub record Steady (p : CoreProgram) (b : Bounds) (x : Input) : Type 0 where
  pub shape : Shape
  pub no_overrun : shape ≢ Overrun
  pub each : (outcome : Outcome) (marks : List ℕ) → Run p b x outcome marks → shape_of outcome ≡ shape

-- the input is bounded and steady, and every run of it runs the statement of this number
pub record Good (p : CoreProgram) (b : Bounds) (x : Input) (statement : ℕ) : Type 0 where
  pub bounded : BoundedInput p b x
  pub steady : Steady p b x
  pub runs : (outcome : Outcome) (marks : List ℕ) → Run p b x outcome marks → Contains marks statement
