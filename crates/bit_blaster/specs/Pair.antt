-- How two wires stand to each other.
use Rattle.std.specs.Prelude.{◌≡◌, ◌≢◌, ℕ, Bool, true, List}
use Rattle.cnf_core.specs.declared.formula.Lit.{Lit}
use Rattle.bit_blaster.specs.declared.pair.Pair.{Pair}
use Rattle.bit_blaster.specs.declared.pair.Pair.TheVariants.{FirstKnown, SecondKnown, Same, Opposite, Apart}
use Rattle.bit_blaster.specs.declared.wire.Wire.{Wire}
use Rattle.bit_blaster.specs.declared.wire.Wire.TheVariants.{Known, Literal}
use Rattle.bit_blaster.specs.Wire.{IsWireOf, opposite, wire_value}

abbrev pub IsPair : Wire → Wire → Pair → Type 0
IsPair a b (FirstKnown truth) = a ≡ Known truth
IsPair a b (SecondKnown truth) = b ≡ Known truth
IsPair a b Same = a ≡ b
IsPair a b Opposite = a ≡ opposite b
IsPair a b (Apart k l) = (a ≡ Literal k) × (b ≡ Literal l) × (k.var ≢ l.var)

-- the wire r has the value of a wherever the condition is true, and is not of the condition's variable
pub record IsSameWhere (condition a r : Wire) : Type 0 where
  pub same : (values : List Bool) → wire_value values condition ≡ true → wire_value values r ≡ wire_value values a
  pub apart : (k l : Lit) → condition ≡ Literal k → r ≡ Literal l → k.var ≢ l.var
  pub of : (n : ℕ) → IsWireOf n a → IsWireOf n r
