-- What a job of `gen` found, and when it is right.
use Rattle.std.specs.Prelude.{◌≡◌, ◌<◌, ◌≤◌, ◌⊎◌, ℕ, List, [], ◌++◌, Some, Contains}
use Rattle.tg_base.specs.declared.desk.Out.{Out}
use Rattle.tg_base.specs.declared.desk.Out.TheVariants as out
use Rattle.p4_program.specs.declared.bounds.Bounds.{Bounds}
use Rattle.p4_program.specs.declared.program.Program.{Program}
use Rattle.p4_program.specs.Numbered.{numbered}
use Rattle.p4_meaning.specs.declared.test.Test.{Test}
use Rattle.p4_meaning.specs.declared.verdict.Verdict.{Verdict}
use Rattle.p4_meaning.specs.declared.verdict.Verdict.TheVariants.{Covered, Undecided}
use Rattle.p4_meaning.specs.Chosen.{least_credit, Chosen}
use Rattle.p4_meaning.specs.Good.{Good}
use Rattle.p4_meaning.specs.Test.{Holds, Tight}
use Rattle.p4_meaning.specs.Verdicts.{RightVerdicts}
use Rattle.testgen_engine.specs.Log.{LogRecord, log_text, statement_units, HasUndecided, LawfulSoFar, Lawful}
use Rattle.testgen_engine.specs.Report.{report_text}
use Rattle.testgen_engine.specs.TestText.{text_of_test}

-- The bounds and the program of a job, its verdicts, one for each place, its tests and its log. While the search goes on, a
-- statement that it has not come to stands as undecided.
pub record Findings : Type 0 where
  pub bounds : Bounds
  pub program : Program
  pub verdicts : List Verdict
  pub tests : List Test
  pub log : List LogRecord

-- the text of each output
abbrev pub text_of : Findings → Out → List ℕ
text_of f out.Report = report_text f.bounds f.program f.verdicts f.tests
text_of f out.Proofs = log_text f.log
text_of f (out.Test number) = text_of_test f.program f.verdicts number (numbered f.tests number)
text_of f out.Notes = []

-- No credit is left out: from a test's least credit on, each statement that its input is good for is covered by it or by an
-- earlier test, or its budget was spent.
abbrev pub CreditsAll : Findings → Type 0
CreditsAll f =
    (number : ℕ) (t : Test) (least statement : ℕ) (verdict : Verdict)
    → numbered f.tests number ≡ Some t → least_credit f.verdicts number ≡ Some least → least ≤ statement
    → Good f.program f.bounds t.input statement → numbered f.verdicts statement ≡ Some verdict
    → (statement_units f.log statement ≡ f.bounds.budget) ⊎ ((by : ℕ) × (verdict ≡ Covered by) × (by ≤ number))

-- Statements are taken in order: before a test's least credit, one is undecided only where its budget was spent.
abbrev pub TakenInOrder : Findings → Type 0
TakenInOrder f =
    (number least statement : ℕ) → least_credit f.verdicts number ≡ Some least → statement < least
    → numbered f.verdicts statement ≡ Some Undecided → statement_units f.log statement ≡ f.bounds.budget

-- Right as far as it goes: each verdict is right, the tests are chosen as they should be, in the order of the statements and
-- with all their credits, each test holds in every run and is tight, and the log is lawful so far.
pub record RightSoFar (f : Findings) : Type 0 where
  pub verdicts : RightVerdicts f.program f.bounds f.verdicts f.tests
  pub chosen : Chosen f.program f.bounds f.verdicts f.tests
  pub in_order : TakenInOrder f
  pub credited : CreditsAll f
  pub hold : (number : ℕ) (t : Test) → numbered f.tests number ≡ Some t → Holds f.program f.bounds t
  pub tight : (number : ℕ) (t : Test) → numbered f.tests number ≡ Some t → Tight f.program f.bounds t
  pub log : LawfulSoFar f.program f.bounds f.tests f.log

-- Right as a whole: what is undecided is so because its budget was spent.
pub record AreRight (f : Findings) : Type 0 where
  pub so_far : RightSoFar f
  pub lawful : Lawful f.program f.bounds f.verdicts f.tests f.log

-- a verdict or a nibble is undecided
abbrev pub IsUndecided : Findings → Type 0
IsUndecided f = Contains f.verdicts Undecided
    ⊎ ((number : ℕ) × (t : Test) × (numbered f.tests number ≡ Some t) × HasUndecided t.expected)

-- a text begins so
pub record IsPrefix (prefix whole : List ℕ) : Type 0 where
  pub rest : List ℕ
  pub whole_is : whole ≡ prefix ++ rest

-- What a call that is cut short has had taken of each output is a prefix of a right text: of the text of a test or of the log
-- that was found so far, or of the report of findings that are right as a whole.
pub record IsRightPrefix (p : Program) (b : Bounds) (taken : Out → List ℕ) : Type 0 where
  pub findings : Findings
  pub program : findings.program ≡ p
  pub bounds : findings.bounds ≡ b
  pub right : RightSoFar findings
  pub prefixes : (out : Out) → IsPrefix (taken out) (text_of findings out)
  pub report : (taken out.Report ≡ []) ⊎ AreRight findings
