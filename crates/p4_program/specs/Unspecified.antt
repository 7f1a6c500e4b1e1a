-- What a read of an unspecified value may give (P4-16, "Reading uninitialized values and writing fields of invalid headers").
use Rattle.std.specs.Prelude.{ℕ, ◌-◌, ◌%◌, ◌^◌, ◌<◌, ◌≤◌, min}
use Rattle.p4_program.specs.declared.typed.types.Scalar.{Scalar}
use Rattle.p4_program.specs.declared.typed.types.Scalar.TheVariants.{Sized, Members}

-- A read gives some value of the type: one of all numbers of so many bits or, for an error or an enum without a width, the number
-- of a member, which is at most that of the last.
abbrev pub IsAmong : Scalar → ℕ → Type 0
IsAmong (Sized width) value = value < 2 ^ width
IsAmong (Members count) value = value ≤ count - 1

-- A number made a value of the type: its lowest bits, which for a member are 8; past the last member is the last member.
abbrev pub clipped : Scalar → ℕ → ℕ
clipped (Sized width) number = number % 2 ^ width
clipped (Members count) number = min (number % 2 ^ 8) (count - 1)
