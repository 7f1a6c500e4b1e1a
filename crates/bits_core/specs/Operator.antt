-- The operators on numbers of fixed width: what they take, and what they give. A number stands here as its width and its
-- value. Each part of the table names the section of the P4-16 language specification that it restates.
use Rattle.std.specs.Prelude.{ℕ, ◌+◌, ◌-◌, ◌*◌, ◌/◌, ◌%◌, ◌^◌, ◌≤◌, ◌≡◌, ⊤, min, pos, ◌+ℤ◌, ◌-ℤ◌, ◌==◌, Bool, false, nat_lt, nat_le, int_lt, int_le, bit_and, bit_or, bit_xor, if◌then◌else◌}
use Rattle.bits_core.specs.declared.number.TheConstants.{MAX_WIDTH}
use Rattle.std.specs.Int.{saturate_to_bits, int_div_euclid}
use Rattle.bits_core.specs.declared.operator.Op.{Op}
use Rattle.bits_core.specs.declared.operator.Op.TheVariants.{Add, Sub, Mul, AddSatU, SubSatU, AddSatS, SubSatS, And, Or, Xor, Not, Neg, Shl, ShrU, ShrS, Cat, Eq, LtU, LeU, LtS, LeS}
use Rattle.bits_core.specs.declared.operator.OpRow.{OpRow}
use Rattle.bits_core.specs.declared.operator.OpShape.{OpShape}
use Rattle.bits_core.specs.declared.operator.OpShape.TheVariants.{One, Same, Shift, Join, Test}
use Rattle.bits_core.specs.Number.{signed_value, wrapped}

-- what an operator takes and gives
abbrev pub shape_of : Op → OpShape
shape_of Add = Same
shape_of Sub = Same
shape_of Mul = Same
shape_of AddSatU = Same
shape_of SubSatU = Same
shape_of AddSatS = Same
shape_of SubSatS = Same
shape_of And = Same
shape_of Or = Same
shape_of Xor = Same
shape_of Not = One
shape_of Neg = One
shape_of Shl = Shift
shape_of ShrU = Shift
shape_of ShrS = Shift
shape_of Cat = Join
shape_of Eq = Test
shape_of LtU = Test
shape_of LeU = Test
shape_of LtS = Test
shape_of LeS = Test

-- the row of the table that an operator stands in
abbrev pub row_of : Op → OpRow
row_of op = record { op = op; shape = shape_of op }

-- operands of w and v bits may stand under an operator of this shape
abbrev pub WidthsFit : OpShape → ℕ → ℕ → Type 0
WidthsFit One w v = ⊤
WidthsFit Same w v = w ≡ v
WidthsFit Shift w v = ⊤
WidthsFit Join w v = w + v ≤ MAX_WIDTH
WidthsFit Test w v = w ≡ v

-- the width of the result
abbrev pub result_width : OpShape → ℕ → ℕ → ℕ
result_width One w v = w
result_width Same w v = w
result_width Shift w v = w
result_width Join w v = w + v
result_width Test w v = 1

-- Whether the comparison holds of x and y, both of w bits; no other operator is one. In "Operations on fixed-width bit
-- types" and "Operations on fixed-width signed integers".
abbrev pub test_value : Op → ℕ → ℕ → ℕ → Bool
test_value Eq w x y = x == y
test_value LtU w x y = nat_lt x y
test_value LeU w x y = nat_le x y
test_value LtS w x y = int_lt (signed_value w x) (signed_value w y)
test_value LeS w x y = int_le (signed_value w x) (signed_value w y)
test_value op w x y = false

-- The value of the operator's result on x of w bits and y of v bits. What is said of `signed_value` is of type `int<W>`.
abbrev pub operator_value : Op → ℕ → ℕ → ℕ → ℕ → ℕ
-- "Operations on fixed-width bit types" and "Operations on fixed-width signed integers": `+`, `-` and `*` wrap. The bits
-- that wrap are the same for both types.
operator_value Add w x v y = (x + y) % 2 ^ w
operator_value Sub w x v y = wrapped w (pos x -ℤ pos y)
operator_value Mul w x v y = (x * y) % 2 ^ w
-- In the same sections: `|+|` and `|-|` saturate. On naturals `-` stops at 0; `saturate_to_bits h z` is the integer from
-- -2^h to 2^h - 1 that is nearest to z.
operator_value AddSatU w x v y = min (x + y) (2 ^ w - 1)
operator_value SubSatU w x v y = x - y
operator_value AddSatS w x v y =
    wrapped w (saturate_to_bits (w - 1) (signed_value w x +ℤ signed_value w y))
operator_value SubSatS w x v y =
    wrapped w (saturate_to_bits (w - 1) (signed_value w x -ℤ signed_value w y))
-- In the same sections: `&`, `|`, `^` and `~` work bit by bit, and the unary `-` is 0 less its operand.
operator_value And w x v y = bit_and x y
operator_value Or w x v y = bit_or x y
operator_value Xor w x v y = bit_xor x y
operator_value Not w x v y = 2 ^ w - 1 - x
operator_value Neg w x v y = wrapped w (pos 0 -ℤ pos x)
-- "A note about shifts": a shift is a product with a power of two, or a quotient by one, rounded down, of the value that
-- the type reads. An amount of w or more leaves what w leaves: nothing of x, but for copies of a sign.
operator_value Shl w x v y = (x * 2 ^ min y w) % 2 ^ w
operator_value ShrU w x v y = x / 2 ^ min y w
operator_value ShrS w x v y = wrapped w (int_div_euclid (signed_value w x) (pos (2 ^ min y w)))
-- "Concatenation": `++` puts the bits of x above those of y.
operator_value Cat w x v y = x * 2 ^ v + y
-- A comparison's Boolean is here a number of one bit.
operator_value Eq w x v y = if test_value Eq w x y then 1 else 0
operator_value LtU w x v y = if test_value LtU w x y then 1 else 0
operator_value LeU w x v y = if test_value LeU w x y then 1 else 0
operator_value LtS w x v y = if test_value LtS w x y then 1 else 0
operator_value LeS w x v y = if test_value LeS w x y then 1 else 0
