-- Compile-time integers: `int` without a width, whose values this profile ends at 128 bits.
use Rattle.std.specs.Prelude.{ℕ, ◌-◌, ◌^◌, ℤ, pos, neg_ℤ, ◌*ℤ◌, int_lt, int_le, nat_le, nat_lt, min, Bool, ◌&&◌, unsigned_abs, if◌then◌else◌}
use Rattle.std.specs.Int.{int_div_euclid, int_rem_euclid}
use Rattle.tg_base.specs.declared.place.Code.TheVariants.{Constant}
use Rattle.tg_base.specs.declared.place.Span.{Span}
use Rattle.p4_rules.specs.declared.faults.Pass.{Pass}
use Rattle.p4_rules.specs.Faults.{Checked, Right, fault_at}

-- the widest number, in bits
abbrev pub widest : ℕ
widest = 128

-- "Infinite-precision integers", cut to what this profile keeps: from -(2^128 - 1) to 2^128 - 1
abbrev pub is_kept : ℤ → Bool
is_kept z = nat_lt (unsigned_abs z) (2 ^ widest)

-- a compile-time integer that leaves this range is refused at its expression
abbrev pub kept : Pass → Span → ℤ → Checked ℤ
kept pass place z = if is_kept z then Right z else fault_at pass Constant place

-- a type of bits has from 1 bit to as many as the widest number
abbrev pub is_width : ℕ → Bool
is_width w = nat_le 1 w && nat_le w widest

-- "Explicit casts" and "Implicit casts": the integers that `bit<w>` has
abbrev pub fits_bit : ℕ → ℤ → Bool
fits_bit w z = is_width w && int_le (pos 0) z && int_lt z (pos (2 ^ w))

-- the integers that `int<w>` has
abbrev pub fits_int : ℕ → ℤ → Bool
fits_int w z = is_width w && int_le (neg_ℤ (pos (2 ^ (w - 1)))) z && int_lt z (pos (2 ^ (w - 1)))

abbrev pub is_negative : ℤ → Bool
is_negative z = int_lt z (pos 0)

-- "Operations on arbitrary-precision integers": `a << b` is a * 2^b. An amount past 129 takes every a but 0 out of the range,
-- as 129 does.
abbrev pub shifted_left : ℤ → ℕ → ℤ
shifted_left a amount = a *ℤ pos (2 ^ min amount 129)

-- `a >> b` is the floor of a / 2^b; an amount past 128 leaves 0 or -1, as 128 does
abbrev pub shifted_right : ℤ → ℕ → ℤ
shifted_right a amount = int_div_euclid a (pos (2 ^ min amount 128))

-- `/` and `%` stand between integers that are not negative, the second above 0
abbrev pub quotient : ℤ → ℤ → ℤ
quotient a b = int_div_euclid a b

abbrev pub remainder : ℤ → ℤ → ℤ
remainder a b = int_rem_euclid a b
