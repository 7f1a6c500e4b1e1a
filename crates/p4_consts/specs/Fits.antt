-- The values that a type has.
use Rattle.std.specs.Prelude.{ℕ, ◌^◌, nat_lt, Bool, true, ◌&&◌}
use Rattle.p4_rules.specs.declared.types.SourceType.{SourceType}
use Rattle.p4_rules.specs.declared.types.SourceType.TheVariants.{Bit, Signed, Boolean, BitEnumeration}
use Rattle.p4_rules.specs.Integers.{is_width}

-- a number of w bits, of which there are from 1 to 128
abbrev pub bits_fit : ℕ → ℕ → Bool
bits_fit w value = is_width w && nat_lt value (2 ^ w)

abbrev pub value_fits : SourceType → ℕ → Bool
value_fits (Bit w) value = bits_fit w value
value_fits (Signed w) value = bits_fit w value
value_fits (BitEnumeration n w) value = bits_fit w value
value_fits Boolean value = nat_lt value 2
value_fits _ value = true
