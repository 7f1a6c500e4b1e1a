-- What a circuit stands for: so many inputs, which are the first variables, and a variable for each gate after them.
use Rattle.std.specs.Prelude.{◌≡◌, ℕ, ◌+◌, Bool, List, length}
use Rattle.std.specs.List.{All, AllZip}
use Rattle.bits_core.specs.BitList.{number_of}
use Rattle.bit_blaster.specs.declared.gate.Gate.{Gate}
use Rattle.bit_blaster.specs.declared.wire.Wire.{Wire}
use Rattle.bit_blaster.specs.Gate.{all_values}
use Rattle.bit_blaster.specs.Wire.{wire_value, IsWireOf}

pub record Netlist : Type 0 where
  pub inputs : ℕ
  pub gates : List Gate

abbrev pub variable_count : Netlist → ℕ
variable_count net = net.inputs + length net.gates

-- the wire is of the circuit
abbrev pub HasWire : Netlist → Wire → Type 0
HasWire net w = IsWireOf (variable_count net) w

-- the wire carries this truth value where these are the inputs
pub record StandsFor (net : Netlist) (inputs : List Bool) (w : Wire) (truth : Bool) : Type 0 where
  pub has : HasWire net w
  pub long : length inputs ≡ net.inputs
  pub is : wire_value (all_values inputs net.gates) w ≡ truth

-- each wire of the word is of the circuit
pub record HasWord (net : Netlist) (word : List Wire) : Type 0 where
  pub each : All (HasWire net) word

-- each wire of the word carries the bit at its place, the lowest first
pub record CarriesBits (net : Netlist) (inputs : List Bool) (word : List Wire) (bits : List Bool) : Type 0 where
  pub long : length inputs ≡ net.inputs
  pub each : AllZip (StandsFor net inputs) word bits

-- the word carries this number
pub record Carries (net : Netlist) (inputs : List Bool) (word : List Wire) (x : ℕ) : Type 0 where
  pub bits : List Bool
  pub carries : CarriesBits net inputs word bits
  pub is : number_of bits ≡ x

-- What every step of building keeps: the inputs, and what each wire carries.
pub record Extends (old new : Netlist) : Type 0 where
  pub inputs : new.inputs ≡ old.inputs
  pub wires : (w : Wire) → HasWire old w → HasWire new w
  pub truths : (inputs : List Bool) (w : Wire) (truth : Bool) → StandsFor old inputs w truth → StandsFor new inputs w truth

-- the new wire carries what f gives on what the operands carried
pub record GivesOne (f : Bool → Bool) (net : Netlist) (a r : Wire) : Type 0 where
  pub has : HasWire net r
  pub value : (inputs : List Bool) (x : Bool) → StandsFor net inputs a x → StandsFor net inputs r (f x)

pub record GivesTwo (f : Bool → Bool → Bool) (old new : Netlist) (a b r : Wire) : Type 0 where
  pub has : HasWire new r
  pub value : (inputs : List Bool) (x y : Bool) → StandsFor old inputs a x → StandsFor old inputs b y
      → StandsFor new inputs r (f x y)

pub record GivesThree (f : Bool → Bool → Bool → Bool) (old new : Netlist) (a b c r : Wire) : Type 0 where
  pub has : HasWire new r
  pub value : (inputs : List Bool) (x y z : Bool) → StandsFor old inputs a x → StandsFor old inputs b y
      → StandsFor old inputs c z → StandsFor new inputs r (f x y z)
