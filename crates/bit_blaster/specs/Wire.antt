-- Wires, and what they carry.
use Rattle.std.specs.Prelude.{ℕ, Bool, not, List, ⊤}
use Rattle.cnf_core.specs.Literal.{negation}
use Rattle.bit_blaster.specs.declared.wire.Wire.{Wire}
use Rattle.bit_blaster.specs.declared.wire.Wire.TheVariants.{Known, Literal}
use Rattle.bit_blaster.specs.Gate.{IsLiteralOf, literal_value}

abbrev pub opposite : Wire → Wire
opposite (Known truth) = Known (not truth)
opposite (Literal l) = Literal (negation l)

abbrev pub wire_value : List Bool → Wire → Bool
wire_value values (Known truth) = truth
wire_value values (Literal l) = literal_value values l

-- the wire is known, or of one of the first n variables
abbrev pub IsWireOf : ℕ → Wire → Type 0
IsWireOf n (Known truth) = ⊤
IsWireOf n (Literal l) = IsLiteralOf n l
