-- Verdicts that are right, and what they credit to tests.
use Rattle.std.specs.Prelude.{◌≡◌, ℕ, List, Some, length, Contains}
use Rattle.p4_program.specs.declared.bounds.Bounds.{Bounds}
use Rattle.p4_program.specs.declared.typed.input.Input.{Input}
use Rattle.p4_program.specs.BoundedInput.{BoundedInput}
use Rattle.p4_program.specs.Numbered.{numbered}
use Rattle.p4_program.specs.Syntax.Numbering.{statements_numbered}
use Rattle.p4_program.specs.Syntax.Programs.{CoreProgram}
use Rattle.p4_program.specs.declared.outcome.Outcome.{Outcome}
use Rattle.p4_meaning.specs.declared.typed_test.Test.{Test}
use Rattle.p4_meaning.specs.declared.verdict.Verdict.{Verdict}
use Rattle.p4_meaning.specs.declared.verdict.Verdict.TheVariants.{Covered, Unreachable, Unsteady, Undecided}
use Rattle.p4_meaning.specs.Runs.Good.{Good}
use Rattle.p4_meaning.specs.Runs.Run.{Run}

-- some run of a bounded input runs the statement
pub record Reachable (p : CoreProgram) (b : Bounds) (statement : ℕ) : Type 0 where
  pub input : Input
  pub bounded : BoundedInput p b input
  pub outcome : Outcome
  pub marks : List ℕ
  pub run : Run p b input outcome marks
  pub runs : Contains marks statement

-- the verdict is right for the statement of this number; nothing is said by Undecided
abbrev pub RightVerdict : CoreProgram → Bounds → List Test → ℕ → Verdict → Type 0
RightVerdict p b tests statement (Covered test) =
    (t : Test) × (numbered tests test ≡ Some t) × Good p b t.input statement
RightVerdict p b tests statement Unreachable = Reachable p b statement → ⊥
RightVerdict p b tests statement Unsteady =
    Reachable p b statement × ((x : Input) → Good p b x statement → ⊥)
RightVerdict p b tests statement Undecided = Unit {0}

-- there is one verdict for each statement that has a number, in the order of the numbers, and each is right
pub record RightVerdicts (p : CoreProgram) (b : Bounds) (verdicts : List Verdict) (tests : List Test) : Type 0 where
  pub one_each : length verdicts ≡ length (statements_numbered p)
  pub right : (statement : ℕ) (verdict : Verdict) → numbered verdicts statement ≡ Some verdict
      → RightVerdict p b tests statement verdict
