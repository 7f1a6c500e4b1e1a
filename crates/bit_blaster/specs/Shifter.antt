-- What the parts of a shifter give, on wires and on their bits.
use Rattle.std.specs.Prelude.{◌≡◌, ℕ, suc, ◌^◌, min, Bool, false, ◌||◌, if◌then◌else◌, List, [], ◌∷◌, ◌++◌, length, take, drop, replicate}
use Rattle.bit_blaster.specs.declared.shifter.Direction.{Direction}
use Rattle.bit_blaster.specs.declared.shifter.Direction.TheVariants.{Left, Right}
use Rattle.bit_blaster.specs.declared.wire.Wire.{Wire}
use Rattle.bit_blaster.specs.Netlist.{Netlist, HasWire, HasWord, StandsFor, CarriesBits}

-- the list, lowest place first, shifted by n places, with copies of `fill` where nothing comes from
abbrev pub shifted : {X : Type 0} → Direction → X → ℕ → List X → List X
shifted Left fill n xs = take (length xs) (replicate n fill ++ xs)
shifted Right fill n xs = drop n xs ++ replicate n fill

-- stage k shifts by 2^k places where it is switched on, but by no more than there are
abbrev pub stage : Direction → Bool → ℕ → Bool → List Bool → List Bool
stage direction fill k on xs = if on then shifted direction fill (min (2 ^ k) (length xs)) xs else xs

-- stages from k on, one for each bit of an amount
abbrev pub barrel : Direction → Bool → ℕ → List Bool → List Bool → List Bool
barrel direction fill k xs [] = xs
barrel direction fill k xs (b ∷ bs) = barrel direction fill (suc k) (stage direction fill k b xs) bs

-- one of the bits is true
abbrev pub some_bit : List Bool → Bool
some_bit [] = false
some_bit (b ∷ bs) = b || some_bit bs

-- an amount's bits of the first n stages, and whether a higher one is set
abbrev pub reduced_amount : ℕ → List Bool → List Bool
reduced_amount n bs = take n bs ++ some_bit (drop n bs) ∷ []

-- the wire tells whether one of the word's bits is true, of which `cut` leaves those that count
pub record GivesSome (cut : List Bool → List Bool) (old new : Netlist) (word : List Wire) (r : Wire) : Type 0 where
  pub has : HasWire new r
  pub value : (inputs bits : List Bool) → CarriesBits old inputs word bits → StandsFor new inputs r (some_bit (cut bits))

-- the new word carries the amount's bits of so many stages, and whether a higher one is set
pub record GivesReduced (stages : ℕ) (old new : Netlist) (amount r : List Wire) : Type 0 where
  pub has : HasWord new r
  pub value : (inputs bits : List Bool) → CarriesBits old inputs amount bits → CarriesBits new inputs r (reduced_amount stages bits)

-- The new word carries the first one's bits after a stage for each bit of the amount, of which `cut` leaves those that
-- count. What the wire `fill` carries comes in.
pub record GivesShifted (direction : Direction) (cut : List Bool → List Bool) (old new : Netlist) (fill : Wire) (a amount r : List Wire) : Type 0 where
  pub has : HasWord new r
  pub long : length r ≡ length a
  pub value : (inputs xs bits : List Bool) (c : Bool) → StandsFor old inputs fill c → CarriesBits old inputs a xs
      → CarriesBits old inputs amount bits → CarriesBits new inputs r (barrel direction c 0 xs (cut bits))
