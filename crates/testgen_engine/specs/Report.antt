-- The report: the bounds, a line for each statement, a line for each undecided nibble, and the counts.
use Rattle.std.specs.Prelude.{ℕ, ◌+◌, Bool, true, false, List, [], ◌∷◌, ◌++◌, length, codes, count_by, if◌then◌else◌}
use Prim.Native.Nat.{suc}
use Rattle.std.specs.Fmt.{decimal}
use Rattle.std.specs.List.{concat}
use Rattle.tg_base.specs.declared.place.Span.{Span}
use Rattle.p4_program.specs.declared.bounds.Bounds.{Bounds}
use Rattle.p4_program.specs.declared.program.Program.{Program}
use Rattle.p4_program.specs.Blocks.{places_of}
use Rattle.p4_meaning.specs.declared.test.Expected.{Expected}
use Rattle.p4_meaning.specs.declared.test.Expected.TheVariants.{Drop, Packet}
use Rattle.p4_meaning.specs.declared.test.Nibble.{Nibble}
use Rattle.p4_meaning.specs.declared.test.Nibble.TheVariants as nibble
use Rattle.p4_meaning.specs.declared.test.Test.{Test}
use Rattle.testgen_engine.specs.declared.report.Counts.{Counts}
use Rattle.p4_meaning.specs.VerdictText.{verdict_text}
use Rattle.p4_meaning.specs.declared.verdict.Verdict.{Verdict}
use Rattle.p4_meaning.specs.declared.verdict.Verdict.TheVariants.{Covered, Unreachable, Unsteady, Undecided}

-- `bounds bytes L steps K entries E budget B`
abbrev pub bounds_line : Bounds → List ℕ
bounds_line b = concat (codes "bounds bytes " ∷ decimal b.bytes ∷ codes " steps " ∷ decimal b.steps
    ∷ codes " entries " ∷ decimal b.entries ∷ codes " budget " ∷ decimal b.budget ∷ codes "\n" ∷ [])

-- `N LINE:COLUMN VERDICT`
abbrev pub statement_line : ℕ → Span → Verdict → List ℕ
statement_line number place verdict = concat (decimal number ∷ codes " " ∷ decimal place.line ∷ codes ":"
    ∷ decimal place.column ∷ codes " " ∷ verdict_text verdict ∷ codes "\n" ∷ [])

-- the lines of statements at these places and of their verdicts, the first statement having this number
abbrev pub statement_lines : ℕ → List Span → List Verdict → List ℕ
statement_lines number [] verdicts = []
statement_lines number (place ∷ places) [] = []
statement_lines number (place ∷ places) (verdict ∷ verdicts) =
    statement_line number place verdict ++ statement_lines (suc number) places verdicts

abbrev pub is_undecided_nibble : Nibble → Bool
is_undecided_nibble nibble.Undecided = true
is_undecided_nibble _ = false

-- `test T nibble I undecided`
abbrev pub nibble_line : ℕ → ℕ → List ℕ
nibble_line test place = concat (codes "test " ∷ decimal test ∷ codes " nibble " ∷ decimal place ∷ codes " undecided\n" ∷ [])

-- the lines of a test's undecided nibbles, the first nibble having this place
abbrev pub nibble_lines : ℕ → ℕ → List Nibble → List ℕ
nibble_lines test place [] = []
nibble_lines test place (n ∷ nibbles) =
    (if is_undecided_nibble n then nibble_line test place else []) ++ nibble_lines test (suc place) nibbles

-- what is expected of the nibbles of a packet, and nothing where none is expected
abbrev pub nibbles_of : Expected → List Nibble
nibbles_of Drop = []
nibbles_of (Packet port nibbles) = nibbles

-- the lines of the tests' undecided nibbles, the first test having this number
abbrev pub undecided_lines : ℕ → List Test → List ℕ
undecided_lines number [] = []
undecided_lines number (test ∷ tests) = nibble_lines number 0 (nibbles_of test.expected) ++ undecided_lines (suc number) tests

-- how many nibbles of the tests are undecided
abbrev pub undecided_nibbles : List Test → ℕ
undecided_nibbles [] = 0
undecided_nibbles (test ∷ tests) = count_by is_undecided_nibble (nibbles_of test.expected) + undecided_nibbles tests

abbrev pub is_covered : Verdict → Bool
is_covered (Covered test) = true
is_covered _ = false

abbrev pub is_unreachable : Verdict → Bool
is_unreachable Unreachable = true
is_unreachable _ = false

abbrev pub is_unsteady : Verdict → Bool
is_unsteady Unsteady = true
is_unsteady _ = false

abbrev pub is_undecided : Verdict → Bool
is_undecided Undecided = true
is_undecided _ = false

-- what the last line counts
abbrev pub counts_of : List Verdict → List Test → Counts
counts_of verdicts tests = record {
  statements = length verdicts;
  covered = count_by is_covered verdicts;
  unreachable = count_by is_unreachable verdicts;
  unsteady = count_by is_unsteady verdicts;
  undecided = count_by is_undecided verdicts;
  tests = length tests;
  nibbles = undecided_nibbles tests;
}

-- `statements S covered C unreachable U unsteady Y undecided D` and `tests T nibbles X`
abbrev pub verdict_counts : Counts → List ℕ
verdict_counts n = concat (codes "statements " ∷ decimal n.statements ∷ codes " covered " ∷ decimal n.covered
    ∷ codes " unreachable " ∷ decimal n.unreachable ∷ codes " unsteady " ∷ decimal n.unsteady
    ∷ codes " undecided " ∷ decimal n.undecided ∷ codes " " ∷ [])

abbrev pub test_counts : Counts → List ℕ
test_counts n = concat (codes "tests " ∷ decimal n.tests ∷ codes " nibbles " ∷ decimal n.nibbles ∷ codes "\n" ∷ [])

abbrev pub counts_line : Counts → List ℕ
counts_line n = verdict_counts n ++ test_counts n

abbrev pub report_text : Bounds → Program → List Verdict → List Test → List ℕ
report_text b p verdicts tests =
    bounds_line b ++ (statement_lines 1 (places_of p) verdicts ++ (undecided_lines 1 tests ++ counts_line (counts_of verdicts tests)))
