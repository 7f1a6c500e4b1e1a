-- For comparators and saturating adders over lists of bits.
use Rattle.std.proofs.Common.{◌≡◌, ℕ, ◌+◌, ◌-◌, ◌*◌, ◌^◌, ◌<◌, ◌≤◌, Bool, true, false, List, [], ◌∷◌, length, take, ℤ, pos, refl, sym, ap, ◌∙◌, subst, arith}
use Rattle.std.specs.Prelude.{not, map, ◌==◌, ◌&&◌, nat_lt, nat_le, int_lt, int_le, ◌+ℤ◌, ◌-ℤ◌}
use Rattle.std.proofs.lemmas.Int.{ints}
use Rattle.std.proofs.lemmas.List.{length-take-le}
use Rattle.bits_core.specs.BitList.{bit_value, number_of, sign_bit}
use Rattle.bits_core.specs.Circuit.{exclusive_or, ripple_carry, equal_bits, sign_turned}
use Rattle.bits_core.specs.Number.{signed_value}
use Rattle.bits_core.proofs.AdderLaws.{less_equal_by_ripple}
use Rattle.bits_core.proofs.BitListLaws.{number_of_append, number_of_below, parts, top_bit, number_of_drop}
use Rattle.bits_core.proofs.SignLaws.{signed_value_low, signed_value_high, half_twice, int_lt_biased, int_le_biased}

-- ---- equality

equal_step : (x y : Bool) (m n : ℕ) → (not (exclusive_or x y) && (m == n)) ≡ ((bit_value x + 2 * m) == (bit_value y + 2 * n))
equal_step true true m n = grind arith
equal_step true false m n = grind arith
equal_step false true m n = grind arith
equal_step false false m n = grind arith

pub equal_by_bits : (xs ys : List Bool) → length xs ≡ length ys → equal_bits xs ys ≡ (number_of xs == number_of ys)
equal_by_bits [] [] e = refl
equal_by_bits [] (y ∷ ys) e = absurd (omega arith)
equal_by_bits (x ∷ xs) [] e = absurd (omega arith)
equal_by_bits (x ∷ xs) (y ∷ ys) e =
    ap (λ (b : Bool). not (exclusive_or x y) && b) (equal_by_bits xs ys (omega arith)) ∙ equal_step x y (number_of xs) (number_of ys)

-- ---- order of unsigned numbers: x < y where x - y borrows

not_le : (m n : ℕ) → not (nat_le n m) ≡ nat_lt m n
not_le m n = grind arith

pub less_by_ripple : (xs ys : List Bool) → length xs ≡ length ys →
    not (ripple_carry xs (map not ys) true) ≡ nat_lt (number_of xs) (number_of ys)
less_by_ripple xs ys e = ap not (less_equal_by_ripple xs ys e) ∙ not_le (number_of xs) (number_of ys)

-- ---- order of signed numbers: that of the numbers with the sign bit turned round

biased_low : (x h : ℕ) → pos (1 * h + x) ≡ pos x +ℤ pos h
biased_low x h = omega (arith, ints)

biased_high : (x r h p : ℕ) → 2 * h ≡ p → x ≡ 1 * h + r → pos (0 * h + r) ≡ (pos x -ℤ pos p) +ℤ pos h
biased_high x r h p twice e = omega (arith, ints)

-- the number under the sign bit
lower : List Bool → ℕ
lower xs = number_of (take (length xs - 1) xs)

split : (xs : List Bool) → 1 ≤ length xs → number_of xs ≡ bit_value (sign_bit xs) * 2 ^ (length xs - 1) + lower xs
unfolding lower
split xs some =
    parts (length xs - 1) xs (omega arith)
    ∙ ap (λ (n : ℕ). n * 2 ^ (length xs - 1) + number_of (take (length xs - 1) xs)) (number_of_drop (length xs - 1) xs ∙ top_bit xs some)

turned : (xs : List Bool) → 1 ≤ length xs → number_of (sign_turned xs) ≡ bit_value (not (sign_bit xs)) * 2 ^ (length xs - 1) + lower xs
unfolding lower
turned xs some =
    let front = take (length xs - 1) xs in
    let kept : length front ≡ length xs - 1 = length-take-le (length xs - 1) xs (omega arith) in
    let alone : number_of (not (sign_bit xs) ∷ []) ≡ bit_value (not (sign_bit xs)) = omega arith in
    number_of_append front (not (sign_bit xs) ∷ [])
    ∙ ap (λ (n : ℕ). n * 2 ^ length front + number_of front) alone
    ∙ ap (λ (n : ℕ). bit_value (not (sign_bit xs)) * 2 ^ n + number_of front) kept

lower_below : (xs : List Bool) → 1 ≤ length xs → lower xs < 2 ^ (length xs - 1)
unfolding lower
lower_below xs some =
    subst (λ (n : ℕ). number_of (take (length xs - 1) xs) < 2 ^ n) (length-take-le (length xs - 1) xs (omega arith)) (number_of_below (take (length xs - 1) xs))

biased_cases : (w x r : ℕ) (sign : Bool) → 1 ≤ w → r < 2 ^ (w - 1) → x ≡ bit_value sign * 2 ^ (w - 1) + r →
    pos (bit_value (not sign) * 2 ^ (w - 1) + r) ≡ signed_value w x +ℤ pos (2 ^ (w - 1))
biased_cases w x r false some below e =
    let same : x ≡ r = omega arith in
    let low : x < 2 ^ (w - 1) = omega arith in
    ap (λ (n : ℕ). pos (1 * 2 ^ (w - 1) + n)) (sym same) ∙ biased_low x (2 ^ (w - 1))
    ∙ ap (λ (z : ℤ). z +ℤ pos (2 ^ (w - 1))) (sym (signed_value_low w x low))
biased_cases w x r true some below e =
    let high : 2 ^ (w - 1) ≤ x = omega arith in
    biased_high x r (2 ^ (w - 1)) (2 ^ w) (half_twice w some) e
    ∙ ap (λ (z : ℤ). z +ℤ pos (2 ^ (w - 1))) (sym (signed_value_high w x high))

pub number_of_sign_turned : (xs : List Bool) → 1 ≤ length xs →
    pos (number_of (sign_turned xs)) ≡ signed_value (length xs) (number_of xs) +ℤ pos (2 ^ (length xs - 1))
number_of_sign_turned xs some =
    ap pos (turned xs some) ∙ biased_cases (length xs) (number_of xs) (lower xs) (sign_bit xs) some (lower_below xs some) (split xs some)

pub less_by_sign_turned : (xs ys : List Bool) → 1 ≤ length xs → length xs ≡ length ys →
    nat_lt (number_of (sign_turned xs)) (number_of (sign_turned ys))
    ≡ int_lt (signed_value (length xs) (number_of xs)) (signed_value (length ys) (number_of ys))
less_by_sign_turned xs ys some e =
    let h = 2 ^ (length xs - 1) in
    let other = number_of_sign_turned ys (omega arith) ∙ ap (λ (w : ℕ). signed_value (length ys) (number_of ys) +ℤ pos (2 ^ (w - 1))) (sym e) in
    sym (int_lt_biased h _ _ (number_of (sign_turned xs)) (number_of (sign_turned ys)) (number_of_sign_turned xs some) other)

pub less_equal_by_sign_turned : (xs ys : List Bool) → 1 ≤ length xs → length xs ≡ length ys →
    nat_le (number_of (sign_turned xs)) (number_of (sign_turned ys))
    ≡ int_le (signed_value (length xs) (number_of xs)) (signed_value (length ys) (number_of ys))
less_equal_by_sign_turned xs ys some e =
    let h = 2 ^ (length xs - 1) in
    let other = number_of_sign_turned ys (omega arith) ∙ ap (λ (w : ℕ). signed_value (length ys) (number_of ys) +ℤ pos (2 ^ (w - 1))) (sym e) in
    sym (int_le_biased h _ _ (number_of (sign_turned xs)) (number_of (sign_turned ys)) (number_of_sign_turned xs some) other)
