-- Sums, products, shifts and quotients of integers, by sign and magnitude.
use Rattle.std.proofs.Common.{◌≡◌, ℕ, zero, suc, ◌+◌, ◌-◌, ◌*◌, ◌/◌, ◌%◌, ◌^◌, ◌≤◌, ◌<◌, ◌==◌, min, Bool, true, false, not, refl, ap, sym, ◌∙◌, None, Some, add-one, arith}
use Rattle.std.specs.Prelude.{ℤ, pos, neg_ℤ, ◌+ℤ◌, ◌-ℤ◌, ◌*ℤ◌, unsigned_abs, nat_lt, if◌then◌else◌}
use Rattle.std.proofs.lemmas.Bool.Decides.{nat_tests}
use Rattle.std.proofs.lemmas.Int.{ints}
use Rattle.bits_core.proofs.WidthLaws.{pow_le}
use Rattle.p4_rules.specs.Integers.{is_negative, shifted_left, shifted_right, quotient, remainder}
use Rattle.p4_consts.specs.Integers.{signed, kept_or_none}

pub abs_signed : (b : Bool) (m : ℕ) → unsigned_abs (signed b m) ≡ m
abs_signed false m = refl
abs_signed true zero = refl
abs_signed true (suc m) = refl

kept_below : (z : ℤ) (m : ℕ) → unsigned_abs z ≡ m → m < 2 ^ 128 → kept_or_none z ≡ Some z
kept_below z m e h =
    let t : nat_lt (unsigned_abs z) (2 ^ 128) ≡ true = grind (arith, nat_tests) in
    ap (λ (b : Bool). if b then Some z else None) t

none_above : (z : ℤ) (m : ℕ) → unsigned_abs z ≡ m → 2 ^ 128 ≤ m → kept_or_none z ≡ None
none_above z m e h =
    let t : nat_lt (unsigned_abs z) (2 ^ 128) ≡ false = grind (arith, nat_tests) in
    ap (λ (b : Bool). if b then Some z else None) t

pub kept_signed : (b : Bool) (m : ℕ) → m < 2 ^ 128 → kept_or_none (signed b m) ≡ Some (signed b m)
kept_signed b m h = kept_below (signed b m) m (abs_signed b m) h

pub too_large_signed : (b : Bool) (m : ℕ) → 2 ^ 128 ≤ m → kept_or_none (signed b m) ≡ None
too_large_signed b m h = none_above (signed b m) m (abs_signed b m) h

pub negated_signed : (b : Bool) (m : ℕ) → signed (not b) m ≡ neg_ℤ (signed b m)
negated_signed false m = refl
negated_signed true zero = refl
negated_signed true (suc m) = refl

-- ---- sums

of_same_sign : (b : Bool) (m n : ℕ) → signed b m +ℤ signed b n ≡ signed b (m + n)
of_same_sign false m n = refl
of_same_sign true zero zero = refl
of_same_sign true zero (suc n) = omega (arith, ints)
of_same_sign true (suc m) zero = omega (arith, ints)
of_same_sign true (suc m) (suc n) = omega (arith, ints)

pub sum_alike : (b c : Bool) (m n : ℕ) → b ≡ c → signed b m +ℤ signed c n ≡ signed b (m + n)
sum_alike b c m n e = ap (λ (d : Bool). signed b m +ℤ signed d n) (sym e) ∙ of_same_sign b m n

negated_is : (m : ℕ) → neg_ℤ (pos m) ≡ pos 0 -ℤ pos m
negated_is zero = refl
negated_is (suc m) = omega (arith, ints)

pub sum_left : (b c : Bool) (m n : ℕ) → (b ≡ c → ⊥) → n ≤ m → signed b m +ℤ signed c n ≡ signed b (m - n)
sum_left false false m n e h = absurd (e refl)
sum_left true true m n e h = absurd (e refl)
sum_left false true m n e h = omega (arith, ints, negated_is n)
sum_left true false m n e h = omega (arith, ints, negated_is m, negated_is (m - n))

pub sum_right : (b c : Bool) (m n : ℕ) → (b ≡ c → ⊥) → m < n → signed b m +ℤ signed c n ≡ signed c (n - m)
sum_right false false m n e h = absurd (e refl)
sum_right true true m n e h = absurd (e refl)
sum_right false true m n e h = omega (arith, ints, negated_is n, negated_is (n - m))
sum_right true false m n e h = omega (arith, ints, negated_is m)

-- ---- products

pub product_signed : (b c : Bool) (m n : ℕ) → signed b m *ℤ signed c n ≡ signed (if b then not c else c) (m * n)
product_signed false false m n = refl
product_signed false true zero zero = refl
product_signed false true zero (suc n) = grind (arith, ints)
product_signed false true (suc m) zero = grind (arith, ints)
product_signed false true (suc m) (suc n) = grind (arith, ints)
product_signed true false zero zero = refl
product_signed true false zero (suc n) = grind (arith, ints)
product_signed true false (suc m) zero = grind (arith, ints)
product_signed true false (suc m) (suc n) = grind (arith, ints)
product_signed true true zero zero = refl
product_signed true true zero (suc n) = grind (arith, ints)
product_signed true true (suc m) zero = grind (arith, ints)
product_signed true true (suc m) (suc n) = grind (arith, ints)

-- ---- shifts

pub left_within : (z : ℤ) (k : ℕ) → k < 128 → shifted_left z k ≡ z *ℤ pos (2 ^ k)
left_within z k h = let e : min k 129 ≡ k = omega arith in ap (λ (n : ℕ). z *ℤ pos (2 ^ n)) e

left_is : (b : Bool) (m k : ℕ) → shifted_left (signed b m) k ≡ signed (if b then not false else false) (m * 2 ^ min k 129)
left_is b m k = product_signed b false m (2 ^ min k 129)

pub left_of_none : (b : Bool) (m k : ℕ) → m ≡ 0 → kept_or_none (shifted_left (signed b m) k) ≡ Some (signed b m)
left_of_none false zero k h = let e : 0 * 2 ^ min k 129 ≡ 0 = omega arith in ap (λ (n : ℕ). kept_or_none (pos n)) e
left_of_none true zero k h = let e : 0 * 2 ^ min k 129 ≡ 0 = omega arith in ap (λ (n : ℕ). kept_or_none (pos n)) e
left_of_none b (suc m) k h = absurd (omega arith)

at_least : (m x : ℕ) → (m ≡ 0 → ⊥) → x ≤ m * x
at_least zero x h = absurd (h refl)
at_least (suc m) x h = grind arith

pub left_past : (b : Bool) (m k : ℕ) → (m ≡ 0 → ⊥) → 128 ≤ k → kept_or_none (shifted_left (signed b m) k) ≡ None
left_past b m k h long =
    let e : unsigned_abs (shifted_left (signed b m) k) ≡ m * 2 ^ min k 129
    = ap unsigned_abs (left_is b m k) ∙ abs_signed (if b then not false else false) (m * 2 ^ min k 129) in
    let wide : 2 ^ 128 ≤ 2 ^ min k 129 = pow_le 128 (min k 129) (omega arith) in
    none_above (shifted_left (signed b m) k) (m * 2 ^ min k 129) e (omega (arith, at_least m (2 ^ min k 129) h))

pub right_below : (b : Bool) (m k : ℕ) → b ≡ true → 0 < m → signed true ((m - 1) / 2 ^ min k 128 + 1) ≡ shifted_right (signed b m) k
right_below b zero k e h = absurd (omega arith)
right_below false (suc m) k e h = cc
right_below true (suc m) k e h =
    let before : suc m - 1 ≡ m = omega arith in
    ap (λ (n : ℕ). signed true (n / 2 ^ min k 128 + 1)) before ∙ ap (λ (n : ℕ). neg_ℤ (pos n)) (add-one (m / 2 ^ min k 128))

pub right_natural : (b : Bool) (m k : ℕ) → is_negative (signed b m) ≡ false → pos (m / 2 ^ min k 128) ≡ shifted_right (signed b m) k
right_natural false m k e = refl
right_natural true zero k e = refl
right_natural true (suc m) k e = cc

-- ---- quotients

natural_signed : (b : Bool) (m : ℕ) → is_negative (signed b m) ≡ false → signed b m ≡ pos m
natural_signed false m e = refl
natural_signed true zero e = refl
natural_signed true (suc m) e = cc

pub quotient_signed : (b c : Bool) (m n : ℕ) → is_negative (signed b m) ≡ false → is_negative (signed c n) ≡ false →
    pos (m / n) ≡ quotient (signed b m) (signed c n)
quotient_signed b c m n p q = sym (ap (λ (z : ℤ). quotient z (signed c n)) (natural_signed b m p) ∙ ap (quotient (pos m)) (natural_signed c n q))

pub remainder_signed : (b c : Bool) (m n : ℕ) → is_negative (signed b m) ≡ false → is_negative (signed c n) ≡ false →
    pos (m % n) ≡ remainder (signed b m) (signed c n)
remainder_signed b c m n p q = sym (ap (λ (z : ℤ). remainder z (signed c n)) (natural_signed b m p) ∙ ap (remainder (pos m)) (natural_signed c n q))

pub some_signed : (b : Bool) (m : ℕ) → (unsigned_abs (signed b m) == 0) ≡ false → 0 < m
some_signed false zero e = cc
some_signed true zero e = cc
some_signed b (suc m) e = omega arith
