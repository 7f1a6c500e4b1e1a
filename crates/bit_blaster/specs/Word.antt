-- What word circuits give: bits from bits, lowest first.
use Rattle.std.specs.Prelude.{◌≡◌, ℕ, ◌-◌, Bool, true, false, not, map, ◌&&◌, ◌||◌, if◌then◌else◌, List, [], ◌∷◌, ◌++◌, length, take, slice_index_or}
use Rattle.bits_core.specs.Circuit.{carry_bit, exclusive_or, ripple_carry, ripple_sum}
use Rattle.bits_core.specs.Operator.{operator_value, result_width, shape_of}
use Rattle.bits_core.specs.declared.operator.Op.{Op}
use Rattle.bit_blaster.specs.declared.wire.Wire.{Wire}
use Rattle.bit_blaster.specs.declared.wire.Wire.TheVariants.{Known}
use Rattle.bit_blaster.specs.declared.words.BitGate.{BitGate}
use Rattle.bit_blaster.specs.declared.words.BitGate.TheVariants.{And, Or, Xor}
use Rattle.bit_blaster.specs.Wire.{opposite}
use Rattle.bit_blaster.specs.Netlist.{Netlist, HasWire, HasWord, StandsFor, CarriesBits, Carries}

abbrev pub bit_function : BitGate → Bool → Bool → Bool
bit_function And = λ x y. x && y
bit_function Or = λ x y. x || y
bit_function Xor = exclusive_or

-- the new word of n bits carries what f gives on what the operands carried
pub record GivesBits (n : ℕ) (f : List Bool → List Bool → List Bool) (old new : Netlist) (a b r : List Wire) : Type 0 where
  pub has : HasWord new r
  pub long : length r ≡ n
  pub value : (inputs xs ys : List Bool) → CarriesBits old inputs a xs → CarriesBits old inputs b ys
      → CarriesBits new inputs r (f xs ys)

-- the same for one wire
pub record GivesTest (f : List Bool → List Bool → Bool) (old new : Netlist) (a b : List Wire) (r : Wire) : Type 0 where
  pub has : HasWire new r
  pub value : (inputs xs ys : List Bool) → CarriesBits old inputs a xs → CarriesBits old inputs b ys
      → StandsFor new inputs r (f xs ys)

-- the last carry of a difference: whether the first number is not below the second
abbrev pub no_borrow : List Bool → List Bool → Bool
no_borrow xs ys = ripple_carry xs (map not ys) true

-- the word with its top wire turned round; of no wires one that is true
abbrev pub top_turned : List Wire → List Wire
top_turned word = take (length word - 1) word ++ opposite (slice_index_or word (length word - 1) (Known false)) ∷ []

-- the carries of a row of full adders, into each place and out of the last
abbrev pub ripple_carries : List Bool → List Bool → Bool → List Bool
ripple_carries [] ys c = c ∷ []
ripple_carries (x ∷ xs) [] c = c ∷ []
ripple_carries (x ∷ xs) (y ∷ ys) c = c ∷ ripple_carries xs ys (carry_bit x y c)

-- the word has the carries of the first n places of the operands, and the wire `last` the last of them
pub record GivesCarries (n : ℕ) (f : List Bool → List Bool) (g : List Bool → List Bool) (old new : Netlist) (a b : List Wire) (first last : Wire) (r : List Wire) : Type 0 where
  pub has : HasWord new r
  pub long : length r ≡ n
  pub has_last : HasWire new last
  pub carries : (inputs xs ys : List Bool) (c : Bool) → CarriesBits old inputs a xs → CarriesBits old inputs b ys
      → StandsFor old inputs first c → CarriesBits new inputs r (ripple_carries (f xs) (g ys) c)
  pub last_carry : (inputs xs ys : List Bool) (c : Bool) → CarriesBits old inputs a xs → CarriesBits old inputs b ys
      → StandsFor old inputs first c → StandsFor new inputs last (ripple_carry (f xs) (g ys) c)

-- the new word of n bits carries the sum of the operands and the carry, as a row of full adders has it
pub record GivesSum (n : ℕ) (old new : Netlist) (a b : List Wire) (carry : Wire) (r : List Wire) : Type 0 where
  pub has : HasWord new r
  pub long : length r ≡ n
  pub value : (inputs xs ys : List Bool) (c : Bool) → CarriesBits old inputs a xs → CarriesBits old inputs b ys
      → StandsFor old inputs carry c → CarriesBits new inputs r (ripple_sum xs ys c)

-- the wire carries the carry out of the operands' last place
pub record GivesCarryOut (old new : Netlist) (a b : List Wire) (carry r : Wire) : Type 0 where
  pub has : HasWire new r
  pub value : (inputs xs ys : List Bool) (c : Bool) → CarriesBits old inputs a xs → CarriesBits old inputs b ys
      → StandsFor old inputs carry c → StandsFor new inputs r (ripple_carry xs ys c)

-- the new word carries the first word's bits where the condition is true, and else the second's
pub record GivesChosen (n : ℕ) (f : List Bool → List Bool) (old new : Netlist) (condition : Wire) (a b r : List Wire) : Type 0 where
  pub has : HasWord new r
  pub long : length r ≡ n
  pub value : (inputs xs ys : List Bool) (c : Bool) → StandsFor old inputs condition c → CarriesBits old inputs a xs
      → CarriesBits old inputs b ys → CarriesBits new inputs r (if c then f xs else f ys)

-- the new word carries the operator's result on the numbers that the operands carried
pub record Computes (op : Op) (old new : Netlist) (a b r : List Wire) : Type 0 where
  pub has : HasWord new r
  pub width : length r ≡ result_width (shape_of op) (length a) (length b)
  pub value : (inputs : List Bool) (x y : ℕ) → Carries old inputs a x → Carries old inputs b y
      → Carries new inputs r (operator_value op (length a) x (length b) y)
