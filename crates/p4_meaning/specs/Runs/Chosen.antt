-- Which lists of tests are the right choice: each test is there for a statement that no test before it covers.
use Rattle.std.specs.Prelude.{◌≡◌, ◌≢◌, ℕ, ◌<◌, ◌≤◌, ◌⊎◌, List, Some, IsSome}
use Rattle.p4_program.specs.declared.bounds.Bounds.{Bounds}
use Rattle.p4_program.specs.BoundedInput.{opening}
use Rattle.p4_program.specs.Numbered.{numbered}
use Rattle.p4_program.specs.Syntax.Programs.{CoreProgram}
use Rattle.p4_meaning.specs.declared.typed_test.Test.{Test}
use Rattle.p4_meaning.specs.declared.verdict.Verdict.{Verdict}
use Rattle.p4_meaning.specs.declared.verdict.Verdict.TheVariants.{Covered, Undecided}
use Rattle.p4_meaning.specs.Chosen.{least_credit}
use Rattle.p4_meaning.specs.Runs.Good.{Good}

-- What the opening input is good for is covered by a test of that input, or by one whose least credit is an
-- earlier statement.
pub record CoveredEarly (b : Bounds) (verdicts : List Verdict) (tests : List Test) (statement : ℕ) : Type 0 where
  pub number : ℕ
  pub test : Test
  pub covered : numbered verdicts statement ≡ Some (Covered number)
  pub stands : numbered tests number ≡ Some test
  pub early : (test.input ≡ opening b)
      ⊎ ((least : ℕ) × (least_credit verdicts number ≡ Some least) × (least < statement))

-- the tests are chosen as they should be for these verdicts
pub record Chosen (p : CoreProgram) (b : Bounds) (verdicts : List Verdict) (tests : List Test) : Type 0 where
  -- each test has a credit
  pub credited : (test : ℕ) → IsSome (numbered tests test) → IsSome (least_credit verdicts test)
  -- the least credits of the tests rise
  pub rising : (first second s t : ℕ) → first < second
      → least_credit verdicts first ≡ Some s → least_credit verdicts second ≡ Some t → s < t
  -- from a test's least credit on, what its input is good for is undecided or covered by it or an earlier test
  pub earlier : (number : ℕ) (t : Test) (least statement : ℕ) (verdict : Verdict)
      → numbered tests number ≡ Some t → least_credit verdicts number ≡ Some least → least ≤ statement
      → Good p b t.input statement → numbered verdicts statement ≡ Some verdict
      → (verdict ≡ Undecided) ⊎ ((by : ℕ) × (verdict ≡ Covered by) × (by ≤ number))
  -- what the opening input is good for is covered early, where it is not undecided
  pub opening_early : (statement : ℕ) (verdict : Verdict) → numbered verdicts statement ≡ Some verdict
      → verdict ≢ Undecided → Good p b (opening b) statement → CoveredEarly b verdicts tests statement
