-- A number as the list of its bits, least significant first, and the two readings between them.
use Rattle.std.specs.Prelude.{ℕ, suc, zero, ◌+◌, ◌-◌, ◌*◌, ◌/◌, ◌%◌, Bool, false, ◌==◌, if◌then◌else◌, List, [], ◌∷◌, length, slice_index_or}

abbrev pub bit_value : Bool → ℕ
bit_value b = if b then 1 else 0

-- from bits to their number
abbrev pub number_of : List Bool → ℕ
number_of [] = 0
number_of (b ∷ bs) = bit_value b + 2 * number_of bs

-- from a number to its w lowest bits
unfoldable pub bits_of : ℕ → ℕ → List Bool
bits_of zero x = []
bits_of (suc w) x = (x % 2 == 1) ∷ bits_of w (x / 2)

-- the bit that tells a negative number in two's complement
abbrev pub sign_bit : List Bool → Bool
sign_bit bs = slice_index_or bs (length bs - 1) false
