-- What is promised of the mask of an operator's result.
use Rattle.std.specs.Prelude.{◌≡◌, ℕ, ◌+◌, ◌<◌, ⊤}
use Rattle.std.specs.Int.{bit_at}
use Rattle.bits_core.specs.declared.operator.Op.{Op}
use Rattle.bits_core.specs.declared.operator.Op.TheVariants.{Mul, AddSatU, SubSatU, AddSatS, SubSatS, Shl, ShrU, ShrS}
use Rattle.bits_core.specs.Operator.{operator_value}
use Rattle.taint_domain.specs.declared.tainted.Tainted.{Tainted}
use Rattle.taint_domain.specs.Results.{ResultOf, MasksAll, MasksOnly}
use Rattle.taint_domain.specs.Tainted.{IsClear, IsSettledBelow, IsZeroBelow}

-- The operators whose mask is the least: all but products, saturation, and shifts by an amount that may differ.
abbrev pub HasLeastMask : Op → Tainted → Type 0
HasLeastMask Mul b = ⊥
HasLeastMask AddSatU b = ⊥
HasLeastMask SubSatU b = ⊥
HasLeastMask AddSatS b = ⊥
HasLeastMask SubSatS b = ⊥
HasLeastMask Shl b = IsClear b
HasLeastMask ShrU b = IsClear b
HasLeastMask ShrS b = IsClear b
HasLeastMask op b = ⊤

-- The mask has each bit of the result that can differ. A least mask has no other, and no mask has a bit where the operands
-- have none. A product is settled below a place where the lowest bits of each operand that may differ meet as many zeros at
-- the end of the other as reach it.
pub record IsMaskOf (op : Op) (a b : Tainted) (mask : ℕ) : Type 0 where
  pub all : MasksAll (ResultOf op a b)
      (operator_value op a.number.width a.number.value b.number.width b.number.value) mask
  pub only : HasLeastMask op b → MasksOnly (ResultOf op a b)
      (operator_value op a.number.width a.number.value b.number.width b.number.value) mask
  pub clear : IsClear a → IsClear b → mask ≡ 0
  pub product : op ≡ Mul → (i j k l place : ℕ) → IsSettledBelow a i → IsZeroBelow b j
      → IsSettledBelow b k → IsZeroBelow a l → place < i + j → place < k + l → bit_at mask place ≡ 0
