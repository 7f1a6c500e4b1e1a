-- What a test promises of every run of its input.
use Rattle.std.specs.Prelude.{◌≡◌, ◌≢◌, ℕ, List, Some, slice_get}
use Rattle.p4_program.specs.declared.bounds.Bounds.{Bounds}
use Rattle.p4_program.specs.declared.input.Input.{Input}
use Rattle.p4_program.specs.declared.program.Program.{Program}
use Rattle.p4_program.specs.Input.{Bounded}
use Rattle.p4_program.specs.declared.outcome.Outcome.{Outcome}
use Rattle.p4_program.specs.declared.outcome.Outcome.TheVariants as outcome
use Rattle.p4_meaning.specs.declared.test.Expected.{Expected}
use Rattle.p4_meaning.specs.declared.test.Expected.TheVariants as expected
use Rattle.p4_meaning.specs.declared.test.Nibble.TheVariants.{Masked}
use Rattle.p4_meaning.specs.declared.test.Test.{Test}
use Rattle.p4_meaning.specs.Expected.{AllowsAll, digits_of}
use Rattle.p4_meaning.specs.Run.{Run}

-- A run agrees with what is expected: no packet leaves, or one leaves at the port with a digit that is allowed
-- at each nibble, and no more digits.
abbrev pub Agrees : Expected → Outcome → Type 0
Agrees expected.Drop o = o ≡ outcome.Dropped
Agrees (expected.Packet port nibbles) o =
    (bytes : List ℕ) × (o ≡ outcome.Sent port bytes) × AllowsAll nibbles (digits_of bytes)

-- the input is bounded, and every run of it agrees with what is expected
pub record Holds (p : Program) (b : Bounds) (t : Test) : Type 0 where
  pub bounded : Bounded p b t.input
  pub each : (o : Outcome) (marks : List ℕ) → Run p b t.input o marks → Agrees t.expected o

-- some run of the input sends a packet with this digit at this nibble
pub record Sends (p : Program) (b : Bounds) (x : Input) (nibble digit : ℕ) : Type 0 where
  pub port : ℕ
  pub bytes : List ℕ
  pub marks : List ℕ
  pub run : Run p b x (outcome.Sent port bytes) marks
  pub has : slice_get (digits_of bytes) nibble ≡ Some digit

-- two runs of the input send packets with different digits at this nibble
pub record Differs (p : Program) (b : Bounds) (x : Input) (nibble : ℕ) : Type 0 where
  pub first : ℕ
  pub first_sent : Sends p b x nibble first
  pub second : ℕ
  pub second_sent : Sends p b x nibble second
  pub differ : first ≢ second

-- at each masked nibble of what is expected, two runs of the input differ
abbrev pub TightFor : Program → Bounds → Input → Expected → Type 0
TightFor p b x expected.Drop = Unit {0}
TightFor p b x (expected.Packet port nibbles) =
    (nibble : ℕ) → slice_get nibbles nibble ≡ Some Masked → Differs p b x nibble

abbrev pub Tight : Program → Bounds → Test → Type 0
Tight p b t = TightFor p b t.input t.expected
