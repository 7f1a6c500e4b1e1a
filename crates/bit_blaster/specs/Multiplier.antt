-- What a multiplier's parts give.
use Rattle.std.specs.Prelude.{◌≡◌, ℕ, Bool, false, ◌&&◌, List, length, map, drop, replicate}
use Rattle.bits_core.specs.Circuit.{shift_and_add}
use Rattle.bit_blaster.specs.declared.wire.Wire.{Wire}
use Rattle.bit_blaster.specs.Netlist.{Netlist, HasWord, StandsFor, CarriesBits}

-- the new word carries the word's bits where the bit is true, and else zeros
pub record GivesGated (old new : Netlist) (bit : Wire) (word r : List Wire) : Type 0 where
  pub has : HasWord new r
  pub long : length r ≡ length word
  pub value : (inputs xs : List Bool) (y : Bool) → StandsFor old inputs bit y → CarriesBits old inputs word xs
      → CarriesBits new inputs r (map (λ x. y && x) xs)

-- the words carry a sum so far and the first factor at the next place, from which the rest of the second gives the product
pub record IsUnderWay (net : Netlist) (inputs : List Bool) (total place : List Wire) (rest product : List Bool) : Type 0 where
  pub sum : List Bool
  pub row : List Bool
  pub carries_sum : CarriesBits net inputs total sum
  pub carries_row : CarriesBits net inputs place row
  pub whole : shift_and_add sum row rest ≡ product

-- so it is after i rows
pub record GivesRows (i : ℕ) (old new : Netlist) (a b total place : List Wire) : Type 0 where
  pub has : HasWord new total
  pub has_place : HasWord new place
  pub long : length total ≡ length a
  pub long_place : length place ≡ length a
  pub value : (inputs xs ys : List Bool) → CarriesBits old inputs a xs → CarriesBits old inputs b ys
      → IsUnderWay new inputs total place (drop i ys) (shift_and_add (replicate (length xs) false) xs ys)
