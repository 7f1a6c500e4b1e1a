-- The signed type's ends as bits.
use Rattle.std.specs.Prelude.{◌≡◌, min, Bool, not, ◌&&◌, if◌then◌else◌, List, length, replicate}
use Rattle.bits_core.specs.BitList.{sign_bit}
use Rattle.bits_core.specs.Circuit.{exclusive_or}
use Rattle.bit_blaster.specs.declared.shifter.Direction.TheVariants.{Right}
use Rattle.bit_blaster.specs.declared.wire.Wire.{Wire}
use Rattle.bit_blaster.specs.Netlist.{Netlist, HasWord, StandsFor, CarriesBits}
use Rattle.bit_blaster.specs.Shifter.{shifted}

-- the end of the type on the side of xs: its sign, and below it the opposite at each place
abbrev pub end_bits : List Bool → List Bool
end_bits xs = shifted Right (sign_bit xs) (min 1 (length xs)) (replicate (length xs) (not (sign_bit xs)))

-- the end on the side of xs where ys is bound to its sign and has another, and else ys
abbrev pub or_end : Bool → List Bool → List Bool → List Bool
or_end bound xs ys = if bound && exclusive_or (sign_bit xs) (sign_bit ys) then end_bits xs else ys

-- the new word carries the second, or the end on the first's side
pub record GivesOrEnd (old new : Netlist) (a b : List Wire) (bound : Wire) (r : List Wire) : Type 0 where
  pub has : HasWord new r
  pub long : length r ≡ length a
  pub value : (inputs xs ys : List Bool) (c : Bool) → CarriesBits old inputs a xs → CarriesBits old inputs b ys
      → StandsFor old inputs bound c → CarriesBits new inputs r (or_end c xs ys)
