-- One wrapping row serves both readings: sums, differences, products and negations of the signed values have the same bits.
use Rattle.std.proofs.Common.{◌≡◌, ℕ, suc, ◌+◌, ◌-◌, ◌*◌, ◌%◌, ◌^◌, ◌<◌, ◌≤◌, ℤ, pos, sym, ap, subst, ◌∙◌, arith, ⊎_elim}
use Rattle.std.specs.Prelude.{negsuc, neg_ℤ, ◌+ℤ◌, ◌-ℤ◌, ◌*ℤ◌}
use Rattle.std.proofs.Math.IntN.{pos-*ℤ-negsuc, negsuc-*ℤ-pos, negsuc-*ℤ-negsuc, pos-*ℤ-pos}
use Rattle.std.proofs.Math.Nat.{add-mul-mod_self_right}
use Rattle.std.proofs.lemmas.Bool.{cases_lt}
use Rattle.std.proofs.lemmas.Int.{ints}
use Rattle.bits_core.specs.declared.operator.Op.TheVariants.{Add, Sub, Mul, Neg}
use Rattle.bits_core.specs.Number.{signed_value, wrapped}
use Rattle.bits_core.specs.Operator.{operator_value}
use Rattle.bits_core.proofs.SignLaws.{signed_value_low, signed_value_high, signed_value_negsuc}
use Rattle.bits_core.proofs.WidthLaws.{wrapped_is, mod_sub}

-- by the two cases of a signed value
by_sign : (w x : ℕ) (P : ℤ → Type 0) → x < 2 ^ w → P (pos x) → P (pos x -ℤ pos (2 ^ w)) → P (signed_value w x)
by_sign w x P fits low high =
    ⊎_elim
    (λ (below : x < 2 ^ (w - 1)). subst P (sym (signed_value_low w x below)) low)
    (λ (above : 2 ^ (w - 1) ≤ x). subst P (sym (signed_value_high w x above)) high)
    (cases_lt x (2 ^ (w - 1)))

pub add_signed : (w x v y : ℕ) → x < 2 ^ w → y < 2 ^ w →
    wrapped w (signed_value w x +ℤ signed_value w y) ≡ operator_value Add w x v y
add_signed w x v y p q =
    let m = x + y in
    let none : (pos x +ℤ pos y) +ℤ pos (0 * 2 ^ w) ≡ pos m = omega (arith, ints) in
    let left : ((pos x -ℤ pos (2 ^ w)) +ℤ pos y) +ℤ pos (1 * 2 ^ w) ≡ pos m = omega (arith, ints) in
    let right : (pos x +ℤ (pos y -ℤ pos (2 ^ w))) +ℤ pos (1 * 2 ^ w) ≡ pos m = omega (arith, ints) in
    let both : ((pos x -ℤ pos (2 ^ w)) +ℤ (pos y -ℤ pos (2 ^ w))) +ℤ pos (2 * 2 ^ w) ≡ pos m = omega (arith, ints) in
    by_sign w x (λ z. wrapped w (z +ℤ signed_value w y) ≡ m % 2 ^ w) p
    (by_sign w y (λ z. wrapped w (pos x +ℤ z) ≡ m % 2 ^ w) q (wrapped_is w (pos x +ℤ pos y) 0 m none) (wrapped_is w (pos x +ℤ (pos y -ℤ pos (2 ^ w))) 1 m right))
    (by_sign w y (λ z. wrapped w ((pos x -ℤ pos (2 ^ w)) +ℤ z) ≡ m % 2 ^ w) q (wrapped_is w ((pos x -ℤ pos (2 ^ w)) +ℤ pos y) 1 m left)
    (wrapped_is w ((pos x -ℤ pos (2 ^ w)) +ℤ (pos y -ℤ pos (2 ^ w))) 2 m both))

pub subtract_signed : (w x v y : ℕ) → x < 2 ^ w → y < 2 ^ w →
    wrapped w (signed_value w x -ℤ signed_value w y) ≡ operator_value Sub w x v y
subtract_signed w x v y p q =
    let m = x + (2 ^ w - y) in
    let none : (pos x -ℤ pos y) +ℤ pos (1 * 2 ^ w) ≡ pos m = omega (arith, ints) in
    let left : ((pos x -ℤ pos (2 ^ w)) -ℤ pos y) +ℤ pos (2 * 2 ^ w) ≡ pos m = omega (arith, ints) in
    let right : (pos x -ℤ (pos y -ℤ pos (2 ^ w))) +ℤ pos (0 * 2 ^ w) ≡ pos m = omega (arith, ints) in
    let both : ((pos x -ℤ pos (2 ^ w)) -ℤ (pos y -ℤ pos (2 ^ w))) +ℤ pos (1 * 2 ^ w) ≡ pos m = omega (arith, ints) in
    by_sign w x (λ z. wrapped w (z -ℤ signed_value w y) ≡ m % 2 ^ w) p
    (by_sign w y (λ z. wrapped w (pos x -ℤ z) ≡ m % 2 ^ w) q (wrapped_is w (pos x -ℤ pos y) 1 m none) (wrapped_is w (pos x -ℤ (pos y -ℤ pos (2 ^ w))) 0 m right))
    (by_sign w y (λ z. wrapped w ((pos x -ℤ pos (2 ^ w)) -ℤ z) ≡ m % 2 ^ w) q (wrapped_is w ((pos x -ℤ pos (2 ^ w)) -ℤ pos y) 2 m left)
    (wrapped_is w ((pos x -ℤ pos (2 ^ w)) -ℤ (pos y -ℤ pos (2 ^ w))) 1 m both))
    ∙ mod_sub w x y (omega arith)

pub negate_signed : (w x v y : ℕ) → x < 2 ^ w → wrapped w (pos 0 -ℤ signed_value w x) ≡ operator_value Neg w x v y
negate_signed w x v y p =
    let m = 0 + (2 ^ w - x) in
    let low : (pos 0 -ℤ pos x) +ℤ pos (1 * 2 ^ w) ≡ pos m = omega (arith, ints) in
    let high : (pos 0 -ℤ (pos x -ℤ pos (2 ^ w))) +ℤ pos (0 * 2 ^ w) ≡ pos m = omega (arith, ints) in
    by_sign w x (λ z. wrapped w (pos 0 -ℤ z) ≡ m % 2 ^ w) p
    (wrapped_is w (pos 0 -ℤ pos x) 1 m low) (wrapped_is w (pos 0 -ℤ (pos x -ℤ pos (2 ^ w))) 0 m high)
    ∙ mod_sub w 0 x (omega arith)

-- ---- products: a negative value is -(a + 1), where a is what its bits lack to all ones

negated : (a b c : ℕ) → a + b ≡ c → neg_ℤ (pos a) +ℤ pos c ≡ pos b
negated a b c e = omega (arith, ints)

mixed : (a x y : ℕ) → suc a * y + x * y ≡ y * (suc a + x)
mixed a x y = omega arith

mixed_turned : (a x y : ℕ) → y * suc a + y * x ≡ y * (suc a + x)
mixed_turned a x y = omega arith

-- with p = a + x = b + y
both : (a b x y : ℕ) → a + x ≡ b + y → a * b + (x + y) * (a + x) ≡ x * y + (a + x) * (a + x)
both a b x y e =
    let swapped : x * (b + y) ≡ x * (a + x) = ap (λ (n : ℕ). x * n) (sym e) in
    let squared : (a + x) * (b + y) ≡ (a + x) * (a + x) = ap (λ (n : ℕ). (a + x) * n) (sym e) in
    omega arith

by_bits : (w x : ℕ) (P : ℤ → Type 0) → x < 2 ^ w → P (pos x) → P (negsuc (2 ^ w - 1 - x)) → P (signed_value w x)
by_bits w x P fits low high =
    ⊎_elim
    (λ (below : x < 2 ^ (w - 1)). subst P (sym (signed_value_low w x below)) low)
    (λ (above : 2 ^ (w - 1) ≤ x). subst P (sym (signed_value_negsuc w x above fits)) high)
    (cases_lt x (2 ^ (w - 1)))

pub multiply_signed : (w x v y : ℕ) → x < 2 ^ w → y < 2 ^ w →
    wrapped w (signed_value w x *ℤ signed_value w y) ≡ operator_value Mul w x v y
multiply_signed w x v y p q =
    let n = 2 ^ w in
    let a = n - 1 - x in
    let b = n - 1 - y in
    let whole : suc a + x ≡ n = omega arith in
    let other : suc b + y ≡ n = omega arith in
    let left : neg_ℤ (pos (suc a * y)) +ℤ pos (y * n) ≡ pos (x * y) =
    negated (suc a * y) (x * y) (y * n) (mixed a x y ∙ ap (λ (m : ℕ). y * m) whole) in
    let right : neg_ℤ (pos (x * suc b)) +ℤ pos (x * n) ≡ pos (x * y) =
    negated (x * suc b) (x * y) (x * n) (mixed_turned b y x ∙ ap (λ (m : ℕ). x * m) other) in
    let sum : suc a * suc b + (x + y) * n ≡ x * y + n * n =
    ap (λ (m : ℕ). suc a * suc b + (x + y) * m) (sym whole) ∙ both (suc a) (suc b) x y (whole ∙ sym other) ∙ ap (λ (m : ℕ). x * y + m * m) whole in
    let square : (suc a * suc b) % n ≡ (x * y) % n =
    sym (add-mul-mod_self_right (suc a * suc b) (x + y) n) ∙ ap (λ (m : ℕ). m % n) sum ∙ add-mul-mod_self_right (x * y) n n in
    by_bits w x (λ z. wrapped w (z *ℤ signed_value w y) ≡ (x * y) % n) p
    (by_bits w y (λ z. wrapped w (pos x *ℤ z) ≡ (x * y) % n) q
    (ap (wrapped w) (pos-*ℤ-pos x y))
    (ap (wrapped w) (pos-*ℤ-negsuc x b) ∙ wrapped_is w (neg_ℤ (pos (x * suc b))) x (x * y) right))
    (by_bits w y (λ z. wrapped w (negsuc a *ℤ z) ≡ (x * y) % n) q
    (ap (wrapped w) (negsuc-*ℤ-pos a y) ∙ wrapped_is w (neg_ℤ (pos (suc a * y))) y (x * y) left)
    (ap (wrapped w) (negsuc-*ℤ-negsuc a b) ∙ square))
