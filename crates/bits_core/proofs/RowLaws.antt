-- Laws of the operators' table.
use Rattle.std.proofs.Common.{◌≡◌, ℕ, ◌+◌, ◌-◌, ◌*◌, ◌%◌, ◌^◌, ◌<◌, Bool, true, false, pos, refl, sym, ap, ◌∙◌, subst, arith}
use Rattle.std.specs.Prelude.{◌-ℤ◌, min, if◌then◌else◌, ◌==◌}
use Rattle.std.proofs.Math.Nat.{div-le_self, add-mod-mod}
use Rattle.std.proofs.lemmas.Nat.{pow_pos, mod_below, and_le_l, or_lt, xor_lt}
use Rattle.bits_core.specs.declared.operator.Op.{Op}
use Rattle.bits_core.specs.declared.operator.Op.TheVariants.{Add, Sub, Mul, AddSatU, SubSatU, AddSatS, SubSatS, And, Or, Xor, Not, Neg, Shl, ShrU, ShrS, Cat, Eq, LtU, LeU, LtS, LeS}
use Rattle.bits_core.specs.declared.operator.OpShape.TheVariants.{Test}
use Rattle.bits_core.specs.Number.{wrapped}
use Rattle.bits_core.specs.Operator.{WidthsFit, shape_of, result_width, operator_value, test_value}
use Rattle.bits_core.proofs.WidthLaws.{wrapped_below, mod_sub, cat_below}

truth_below : (b : Bool) → (if b then 1 else 0) < 2
truth_below true = omega arith
truth_below false = omega arith

-- what fits under one width fits under an equal one
moved : (w v y : ℕ) → w ≡ v → y < 2 ^ v → y < 2 ^ w
moved w v y e fits = subst (λ (n : ℕ). y < 2 ^ n) (sym e) fits

-- a result always fits the width that its row gives it
pub operator_value_below : (op : Op) (w x v y : ℕ) → WidthsFit (shape_of op) w v → x < 2 ^ w → y < 2 ^ v →
    operator_value op w x v y < 2 ^ result_width (shape_of op) w v
operator_value_below Add w x v y e p q = mod_below (x + y) (2 ^ w) (pow_pos w)
operator_value_below Sub w x v y e p q = wrapped_below w (pos x -ℤ pos y)
operator_value_below Mul w x v y e p q = mod_below (x * y) (2 ^ w) (pow_pos w)
operator_value_below AddSatU w x v y e p q = omega (arith, pow_pos w)
operator_value_below SubSatU w x v y e p q = omega arith
operator_value_below AddSatS w x v y e p q = wrapped_below w _
operator_value_below SubSatS w x v y e p q = wrapped_below w _
operator_value_below And w x v y e p q = omega (arith, and_le_l x y)
operator_value_below Or w x v y e p q = or_lt w x y p (moved w v y e q)
operator_value_below Xor w x v y e p q = xor_lt w x y p (moved w v y e q)
operator_value_below Not w x v y e p q = omega arith
operator_value_below Neg w x v y e p q = wrapped_below w (pos 0 -ℤ pos x)
operator_value_below Shl w x v y e p q = mod_below (x * 2 ^ min y w) (2 ^ w) (pow_pos w)
operator_value_below ShrU w x v y e p q = omega (arith, div-le_self x (2 ^ min y w))
operator_value_below ShrS w x v y e p q = wrapped_below w _
operator_value_below Cat w x v y e p q = cat_below x w y v p q
operator_value_below Eq w x v y e p q = truth_below _
operator_value_below LtU w x v y e p q = truth_below _
operator_value_below LeU w x v y e p q = truth_below _
operator_value_below LtS w x v y e p q = truth_below _
operator_value_below LeS w x v y e p q = truth_below _

zero_and : (n : ℕ) → 0 + n ≡ n
zero_and n = omega arith

-- a difference is the sum with the negated operand
pub sub_is_add_neg : (w x v y z : ℕ) → y < 2 ^ w →
    operator_value Sub w x v y ≡ operator_value Add w x v (operator_value Neg w y v z)
sub_is_add_neg w x v y z fits =
    let p = 2 ^ w in
    let negated : wrapped w (pos 0 -ℤ pos y) ≡ (p - y) % p = sym (mod_sub w 0 y (omega arith)) ∙ ap (λ (n : ℕ). n % p) (zero_and (p - y)) in
    sym (ap (λ (n : ℕ). (x + n) % p) negated ∙ add-mod-mod x (p - y) p ∙ mod_sub w x y (omega arith))

-- ---- the comparisons, as a number of one bit and as a truth value

pub operator_value_test : (op : Op) (w x v y : ℕ) → shape_of op ≡ Test →
    operator_value op w x v y ≡ (if test_value op w x y then 1 else 0)
operator_value_test Eq w x v y e = refl
operator_value_test LtU w x v y e = refl
operator_value_test LeU w x v y e = refl
operator_value_test LtS w x v y e = refl
operator_value_test LeS w x v y e = refl
operator_value_test op w x v y e = grind arith

one_is : (b : Bool) → ((if b then 1 else 0) == 1) ≡ b
one_is true = refl
one_is false = refl

pub test_value_is_one : (op : Op) (w x v y : ℕ) → shape_of op ≡ Test → (operator_value op w x v y == 1) ≡ test_value op w x y
test_value_is_one op w x v y e =
    ap (λ (n : ℕ). n == 1) (operator_value_test op w x v y e) ∙ one_is (test_value op w x y)
