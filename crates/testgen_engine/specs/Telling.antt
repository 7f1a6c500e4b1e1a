-- What the texts of the outputs tell of what was found.
use Rattle.std.specs.Prelude.{◌≡◌, ℕ, ◌^◌, ◌<◌, List, [], ◌∷◌, length, map, All, if◌then◌else◌}
use Prim.Native.Nat.{suc}
use Rattle.p4_program.specs.Blocks.{places_of}
use Rattle.p4_program.specs.Placed.{PlaceFits}
use Rattle.p4_meaning.specs.declared.test.Expected.{Expected}
use Rattle.p4_meaning.specs.declared.test.Expected.TheVariants.{Drop, Packet}
use Rattle.p4_meaning.specs.declared.test.Nibble.{Nibble}
use Rattle.p4_meaning.specs.declared.test.Nibble.TheVariants as nibble
use Rattle.p4_meaning.specs.declared.test.Test.{Test}
use Rattle.p4_meaning.specs.declared.verdict.Verdict.{Verdict}
use Rattle.p4_meaning.specs.declared.verdict.Verdict.TheVariants.{Covered, Unreachable, Unsteady, Undecided}
use Rattle.testgen_engine.specs.Findings.{Findings}
use Rattle.testgen_engine.specs.Report.{is_undecided_nibble, nibbles_of}

-- the number of a test has 32 bits
abbrev pub VerdictFits : Verdict → Type 0
VerdictFits (Covered test) = test < 2 ^ 32
VerdictFits Unreachable = Unit {0}
VerdictFits Unsteady = Unit {0}
VerdictFits Undecided = Unit {0}

-- the port of the input has 16 bits, its packet is of bytes, and the nibbles can be counted in 64 bits
pub record TestFits (t : Test) : Type 0 where
  pub port : t.input.port < 2 ^ 16
  pub packet : All (λ byte. byte < 256) t.input.packet
  pub nibbles : length (nibbles_of t.expected) < 2 ^ 64

-- There is one verdict for each place, each number is in the range of its type, and the tests can be counted in 64 bits.
pub record FindingsFit (f : Findings) : Type 0 where
  pub one_each : length f.verdicts ≡ length (places_of f.program)
  pub places : All PlaceFits (places_of f.program)
  pub verdicts : All VerdictFits f.verdicts
  pub tests : All TestFits f.tests
  pub count : length f.tests < 2 ^ 64

-- the places of the undecided nibbles, the first nibble having this place
abbrev pub undecided_from : ℕ → List Nibble → List ℕ
undecided_from place [] = []
undecided_from place (n ∷ nibbles) =
    if is_undecided_nibble n then place ∷ undecided_from (suc place) nibbles else undecided_from (suc place) nibbles

-- the places of a test's undecided nibbles
abbrev pub undecided_places : Test → List ℕ
undecided_places t = undecided_from 0 (nibbles_of t.expected)

-- how a test shows a nibble: one that is undecided as a masked one
abbrev pub shown_nibble : Nibble → Nibble
shown_nibble (nibble.Fixed digit) = nibble.Fixed digit
shown_nibble nibble.Masked = nibble.Masked
shown_nibble nibble.Undecided = nibble.Masked

-- how a test shows what is expected
abbrev pub shown_expected : Expected → Expected
shown_expected Drop = Drop
shown_expected (Packet port nibbles) = Packet port (map shown_nibble nibbles)

-- what a report tells of two findings is the same
pub record SameReport (f g : Findings) : Type 0 where
  pub bounds : f.bounds ≡ g.bounds
  pub places : places_of f.program ≡ places_of g.program
  pub verdicts : f.verdicts ≡ g.verdicts
  pub count : length f.tests ≡ length g.tests
  pub undecided : map undecided_places f.tests ≡ map undecided_places g.tests

-- what the texts of two tests, with their numbers and credits, tell is the same
pub record SameTest (m n : ℕ) (ss ts : List ℕ) (t u : Test) : Type 0 where
  pub number : m ≡ n
  pub credits : ss ≡ ts
  pub input : t.input ≡ u.input
  pub expected : shown_expected t.expected ≡ shown_expected u.expected

-- what all outputs tell of two findings is the same: all but what the statements of the program do
pub record SameFindings (f g : Findings) : Type 0 where
  pub bounds : f.bounds ≡ g.bounds
  pub places : places_of f.program ≡ places_of g.program
  pub verdicts : f.verdicts ≡ g.verdicts
  pub tests : f.tests ≡ g.tests
  pub log : f.log ≡ g.log
