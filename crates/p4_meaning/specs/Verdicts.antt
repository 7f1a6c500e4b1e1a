-- Verdicts that are right, and what they credit to tests.
use Rattle.std.specs.Prelude.{◌≡◌, ℕ, Bool, false, ◌==◌, List, [], ◌∷◌, Some, length, Contains, if◌then◌else◌}
use Prim.Native.Nat.{suc}
use Rattle.p4_program.specs.declared.bounds.Bounds.{Bounds}
use Rattle.p4_program.specs.declared.input.Input.{Input}
use Rattle.p4_program.specs.declared.program.Program.{Program}
use Rattle.p4_program.specs.Blocks.{places_of}
use Rattle.p4_program.specs.Input.{Bounded}
use Rattle.p4_program.specs.Numbered.{numbered}
use Rattle.p4_program.specs.declared.outcome.Outcome.{Outcome}
use Rattle.p4_meaning.specs.declared.test.Test.{Test}
use Rattle.p4_meaning.specs.declared.verdict.Verdict.{Verdict}
use Rattle.p4_meaning.specs.declared.verdict.Verdict.TheVariants.{Covered, Unreachable, Unsteady, Undecided}
use Rattle.p4_meaning.specs.Good.{Good}
use Rattle.p4_meaning.specs.Run.{Run}

-- some run of a bounded input runs the statement
pub record Reachable (p : Program) (b : Bounds) (statement : ℕ) : Type 0 where
  pub input : Input
  pub bounded : Bounded p b input
  pub outcome : Outcome
  pub marks : List ℕ
  pub run : Run p b input outcome marks
  pub runs : Contains marks statement

-- the verdict is right for the statement of this number
abbrev pub RightVerdict : Program → Bounds → List Test → ℕ → Verdict → Type 0
RightVerdict p b tests statement (Covered test) =
    (t : Test) × (numbered tests test ≡ Some t) × Good p b t.input statement
RightVerdict p b tests statement Unreachable = Reachable p b statement → ⊥
RightVerdict p b tests statement Unsteady =
    Reachable p b statement × ((x : Input) → Good p b x statement → ⊥)
RightVerdict p b tests statement Undecided = Unit {0}

-- there is one verdict for the statement at each place, in order, and each is right
pub record RightVerdicts (p : Program) (b : Bounds) (verdicts : List Verdict) (tests : List Test) : Type 0 where
  pub one_each : length verdicts ≡ length (places_of p)
  pub right : (statement : ℕ) (verdict : Verdict) → numbered verdicts statement ≡ Some verdict
      → RightVerdict p b tests statement verdict

-- the verdict names this test
abbrev pub is_covered_by : ℕ → Verdict → Bool
is_covered_by test (Covered number) = number == test
is_covered_by test Unreachable = false
is_covered_by test Unsteady = false
is_covered_by test Undecided = false

-- the statements whose verdicts name the test, in rising order, where the first verdict is that of this number
abbrev pub credits_from : ℕ → List Verdict → ℕ → List ℕ
credits_from statement [] test = []
credits_from statement (verdict ∷ verdicts) test =
    if is_covered_by test verdict then statement ∷ credits_from (suc statement) verdicts test
    else credits_from (suc statement) verdicts test

-- the credits of a test: the statements that are listed as covered by it
abbrev pub credits : List Verdict → ℕ → List ℕ
credits verdicts test = credits_from 1 verdicts test
