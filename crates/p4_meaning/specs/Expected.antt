-- What a test expects of the packet that leaves.
use Rattle.std.specs.Prelude.{◌≡◌, ℕ, ◌/◌, ◌%◌, ◌==◌, Bool, true, ◌&&◌, nat_le, nat_lt, List, [], ◌∷◌, length}
use Rattle.std.specs.List.{list_all}
use Rattle.p4_program.specs.declared.input.TheConstants.{MAX_PORT}
use Rattle.p4_meaning.specs.declared.test.Expected.{Expected}
use Rattle.p4_meaning.specs.declared.test.Expected.TheVariants.{Drop, Packet}
use Rattle.p4_meaning.specs.declared.test.Nibble.{Nibble}
use Rattle.p4_meaning.specs.declared.test.Nibble.TheVariants.{Fixed, Masked, Undecided}

-- a digit has four bits
abbrev pub is_digit : Nibble → Bool
is_digit (Fixed digit) = nat_lt digit 16
is_digit Masked = true
is_digit Undecided = true

-- the port is one that a packet can leave at, and the nibbles are those of whole bytes
abbrev pub is_printable : Expected → Bool
is_printable Drop = true
is_printable (Packet port nibbles) = nat_le port MAX_PORT && (length nibbles % 2 == 0) && list_all is_digit nibbles

-- the digits of bytes: the high half of each, then its low half
abbrev pub digits_of : List ℕ → List ℕ
digits_of [] = []
digits_of (byte ∷ bytes) = (byte / 16) ∷ (byte % 16) ∷ digits_of bytes

-- a nibble allows a digit
abbrev pub Allows : Nibble → ℕ → Type 0
Allows (Fixed digit) d = d ≡ digit
Allows Masked d = Unit {0}
Allows Undecided d = Unit {0}

-- there are as many nibbles as digits, and each allows the digit of its place
abbrev pub AllowsAll : List Nibble → List ℕ → Type 0
AllowsAll [] [] = Unit {0}
AllowsAll (nibble ∷ nibbles) (digit ∷ digits) = Allows nibble digit × AllowsAll nibbles digits
AllowsAll [] (digit ∷ digits) = ⊥
AllowsAll (nibble ∷ nibbles) [] = ⊥
