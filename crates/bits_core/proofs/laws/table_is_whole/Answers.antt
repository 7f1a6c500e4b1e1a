-- the place of each operator's row
use Rattle.std.proofs.Common.{refl, lit<}
use Rattle.std.specs.Prelude.{Contains}
use Rattle.bits_core.specs.declared.operator.TheConstants.{OPERATORS}
use Rattle.bits_core.specs.declared.operator.Op.{Op}
use Rattle.bits_core.specs.declared.operator.Op.TheVariants.{Add, Sub, Mul, AddSatU, SubSatU, AddSatS, SubSatS, And, Or, Xor, Not, Neg, Shl, ShrU, ShrS, Cat, Eq, LtU, LeU, LtS, LeS}
use Rattle.bits_core.specs.Operator.{row_of}
use Rattle.bits_core.proofs.laws.table_is_whole.Goals as goal

has_row : (op : Op) → Contains OPERATORS.rows (row_of op)
has_row Add = (0, lit< tt, refl)
has_row Sub = (1, lit< tt, refl)
has_row Mul = (2, lit< tt, refl)
has_row AddSatU = (3, lit< tt, refl)
has_row SubSatU = (4, lit< tt, refl)
has_row AddSatS = (5, lit< tt, refl)
has_row SubSatS = (6, lit< tt, refl)
has_row And = (7, lit< tt, refl)
has_row Or = (8, lit< tt, refl)
has_row Xor = (9, lit< tt, refl)
has_row Not = (10, lit< tt, refl)
has_row Neg = (11, lit< tt, refl)
has_row Shl = (12, lit< tt, refl)
has_row ShrU = (13, lit< tt, refl)
has_row ShrS = (14, lit< tt, refl)
has_row Cat = (15, lit< tt, refl)
has_row Eq = (16, lit< tt, refl)
has_row LtU = (17, lit< tt, refl)
has_row LeU = (18, lit< tt, refl)
has_row LtS = (19, lit< tt, refl)
has_row LeS = (20, lit< tt, refl)

pub returns : goal.returns
returns c = has_row
