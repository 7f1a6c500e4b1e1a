-- Sums and products by the bits of their operands, where the bit of a number at a place is the standard library's
-- `bit_at`, and numbers that have the same lowest bits.
use Rattle.std.specs.Prelude.{ℕ, zero, suc, ◌+◌, ◌*◌, ◌/◌, ◌%◌, ◌^◌, ◌≡◌}
use Rattle.std.specs.Int.{bit_at}

-- the carry into a place of x + y + c: out of the full adder of the place below, and c into the lowest
unfoldable pub carry_into : ℕ → ℕ → ℕ → ℕ → ℕ
carry_into zero x y c = c
carry_into (suc i) x y c = (bit_at x i + bit_at y i + carry_into i x y c) / 2

-- the sum of x times 2^i, for each of the n lowest places i at which y has a bit
unfoldable pub partial_product : ℕ → ℕ → ℕ → ℕ
partial_product zero x y = 0
partial_product (suc i) x y = partial_product i x y + bit_at y i * (x * 2 ^ i)

-- the n lowest bits of the two are the same
abbrev pub SameBelow : ℕ → ℕ → ℕ → Type 0
SameBelow n x y = x % 2 ^ n ≡ y % 2 ^ n
