-- The numbers that bits stand for, unsigned and in two's complement, and the parts of a number. Each names the section of
-- the P4-16 language specification that it restates.
use Rattle.std.specs.Prelude.{ℕ, ◌+◌, ◌-◌, ◌/◌, ◌%◌, ◌^◌, ℤ, pos, ◌-ℤ◌, Bool, nat_lt, if◌then◌else◌, unsigned_abs}
use Rattle.std.specs.Int.{int_rem_euclid}

-- "Signed integers": x in two's complement at w bits, where the highest bit counts -2^(w-1) in place of 2^(w-1)
abbrev pub signed_value : ℕ → ℕ → ℤ
signed_value w x = if nat_lt x (2 ^ (w - 1)) then pos x else pos x -ℤ pos (2 ^ w)

-- the w bits of an integer: its remainder modulo 2^w, which is never negative
abbrev pub wrapped : ℕ → ℤ → ℕ
wrapped w z = unsigned_abs (int_rem_euclid z (pos (2 ^ w)))

-- "Operations on fixed-width bit types": x[high:low], the bits of x from place `high` down to place `low`
abbrev pub slice_value : ℕ → ℕ → ℕ → ℕ
slice_value x high low = x / 2 ^ low % 2 ^ (high - low + 1)

-- "Explicit casts": x of w bits at another width, where `int<W>` keeps the sign and `bit<W>` has none. The value that the
-- type reads is cut to the new width, so a wider one gets zeros or copies of the sign bit.
abbrev pub extend_value : Bool → ℕ → ℕ → ℕ → ℕ
extend_value signed w x width = wrapped width (if signed then signed_value w x else pos x)
