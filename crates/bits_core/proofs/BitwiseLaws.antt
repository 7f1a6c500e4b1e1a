-- For circuits that work place by place, or only move bits: the bitwise rows, joins, slices and extensions over lists of bits.
use Rattle.std.proofs.Common.{◌≡◌, ℕ, zero, suc, ◌+◌, ◌-◌, ◌*◌, ◌%◌, ◌^◌, ◌<◌, ◌≤◌, Bool, true, false, List, [], ◌∷◌, ◌++◌, length, take, drop, replicate, refl, sym, ap, ◌∙◌, arith}
use Rattle.std.specs.Prelude.{not, map, ◌&&◌, ◌||◌, bit_and, bit_or, bit_xor}
use Rattle.std.proofs.Math.Nat.{mod-eq_of_lt, mul_comm, pow-succ'}
use Rattle.std.proofs.lemmas.Nat.{and_block, or_block, xor_block, pow-add, pow_pos}
use Rattle.bits_core.specs.declared.operator.Op.TheVariants.{And, Or, Xor, Not, Cat}
use Rattle.bits_core.specs.BitList.{bit_value, number_of, sign_bit}
use Rattle.bits_core.specs.Circuit.{exclusive_or, bitwise}
use Rattle.bits_core.specs.Number.{slice_value, extend_value, wrapped}
use Rattle.bits_core.specs.Operator.{operator_value}
use Rattle.bits_core.proofs.BitListLaws.{number_of_append, number_of_below, number_of_drop, number_of_not, number_of_take, number_of_zeros, sign_bit_high, sign_bit_low}
use Rattle.bits_core.proofs.SignLaws.{signed_value_low, signed_value_negsuc}
use Rattle.bits_core.proofs.PartLaws.{extend_value_cut}
use Rattle.bits_core.proofs.WidthLaws.{pow_le}

-- the order of the sum in a list's number
low_first : (b n : ℕ) → n * 2 ^ 1 + b ≡ b + 2 * n
low_first b n = omega arith

module _ (f : ℕ → ℕ → ℕ) (g : Bool → Bool → Bool)
    (zeros : f 0 0 ≡ 0)
    (bits : (x y : Bool) → f (bit_value x) (bit_value y) ≡ bit_value (g x y))
    (block : (k a b r s : ℕ) → r < 2 ^ k → s < 2 ^ k → f (a * 2 ^ k + r) (b * 2 ^ k + s) ≡ f a b * 2 ^ k + f r s) where
  below_two : (b : Bool) → bit_value b < 2 ^ 1
  below_two true = omega arith
  below_two false = omega arith

  place_by_place : (xs ys : List Bool) → length xs ≡ length ys → number_of (bitwise g xs ys) ≡ f (number_of xs) (number_of ys)
  place_by_place [] [] e = sym zeros
  place_by_place [] (y ∷ ys) e = absurd (omega arith)
  place_by_place (x ∷ xs) [] e = absurd (omega arith)
  place_by_place (x ∷ xs) (y ∷ ys) e =
      ap (λ (n : ℕ). bit_value (g x y) + 2 * n) (place_by_place xs ys (omega arith))
      ∙ ap (λ (n : ℕ). n + 2 * f (number_of xs) (number_of ys)) (sym (bits x y))
      ∙ sym (low_first (f (bit_value x) (bit_value y)) (f (number_of xs) (number_of ys)))
      ∙ sym (block 1 (number_of xs) (number_of ys) (bit_value x) (bit_value y) (below_two x) (below_two y))
      ∙ ap (λ (n : ℕ). f n (number_of ys * 2 ^ 1 + bit_value y)) (low_first (bit_value x) (number_of xs))
      ∙ ap (λ (n : ℕ). f (bit_value x + 2 * number_of xs) n) (low_first (bit_value y) (number_of ys))

and_bits : (x y : Bool) → bit_and (bit_value x) (bit_value y) ≡ bit_value (x && y)
and_bits true true = refl
and_bits true false = refl
and_bits false true = refl
and_bits false false = refl

or_bits : (x y : Bool) → bit_or (bit_value x) (bit_value y) ≡ bit_value (x || y)
or_bits true true = refl
or_bits true false = refl
or_bits false true = refl
or_bits false false = refl

xor_bits : (x y : Bool) → bit_xor (bit_value x) (bit_value y) ≡ bit_value (exclusive_or x y)
xor_bits true true = refl
xor_bits true false = refl
xor_bits false true = refl
xor_bits false false = refl

pub and_by_bits : (xs ys : List Bool) → length xs ≡ length ys →
    number_of (bitwise (λ x y. x && y) xs ys) ≡ operator_value And (length xs) (number_of xs) (length ys) (number_of ys)
and_by_bits = place_by_place bit_and (λ x y. x && y) refl and_bits and_block

pub or_by_bits : (xs ys : List Bool) → length xs ≡ length ys →
    number_of (bitwise (λ x y. x || y) xs ys) ≡ operator_value Or (length xs) (number_of xs) (length ys) (number_of ys)
or_by_bits = place_by_place bit_or (λ x y. x || y) refl or_bits or_block

pub xor_by_bits : (xs ys : List Bool) → length xs ≡ length ys →
    number_of (bitwise exclusive_or xs ys) ≡ operator_value Xor (length xs) (number_of xs) (length ys) (number_of ys)
xor_by_bits = place_by_place bit_xor exclusive_or refl xor_bits xor_block

pub not_by_bits : (xs : List Bool) → number_of (map not xs) ≡ operator_value Not (length xs) (number_of xs) 0 0
not_by_bits = number_of_not

-- ---- bits that only move

pub cat_by_append : (xs ys : List Bool) → number_of (ys ++ xs) ≡ operator_value Cat (length xs) (number_of xs) (length ys) (number_of ys)
cat_by_append xs ys = number_of_append ys xs

pub slice_by_take : (high low : ℕ) (xs : List Bool) → number_of (take (high - low + 1) (drop low xs)) ≡ slice_value (number_of xs) high low
slice_by_take high low xs =
    number_of_take (high - low + 1) (drop low xs) ∙ ap (λ (n : ℕ). n % 2 ^ (high - low + 1)) (number_of_drop low xs)

pub cut_by_take : (signed : Bool) (n : ℕ) (xs : List Bool) → n ≤ length xs → number_of (take n xs) ≡ extend_value signed (length xs) (number_of xs) n
cut_by_take signed n xs within =
    number_of_take n xs ∙ sym (extend_value_cut signed (length xs) (number_of xs) n within (number_of_below xs))

none_above : (p x : ℕ) → 0 * p + x ≡ x
none_above p x = omega arith

pub widen_by_zeros : (n : ℕ) (xs : List Bool) → number_of (xs ++ replicate n false) ≡ extend_value false (length xs) (number_of xs) (length xs + n)
widen_by_zeros n xs =
    number_of_append xs (replicate n false)
    ∙ ap (λ (m : ℕ). m * 2 ^ length xs + number_of xs) (number_of_zeros n)
    ∙ none_above (2 ^ length xs) (number_of xs)
    ∙ sym (mod-eq_of_lt (omega (arith, number_of_below xs, pow_le (length xs) (length xs + n) (omega arith))))

number_of_ones : (n : ℕ) → number_of (replicate n true) ≡ 2 ^ n - 1
number_of_ones zero = refl
number_of_ones (suc n) = omega (arith, number_of_ones n, pow-succ' 2 n, pow_pos n)

ones_over : (r q x : ℕ) → x < q → r * q + x ≡ (r + 1) * q - 1 - (q - 1 - x)
ones_over r q x below = omega arith

-- p is the power of the upper part, q that of the lower
ones_above : (p q x : ℕ) → 0 < p → x < q → (p - 1) * q + x ≡ p * q - 1 - (q - 1 - x)
ones_above p q x some below =
    let back : p - 1 + 1 ≡ p = omega arith in
    ones_over (p - 1) q x below ∙ ap (λ (n : ℕ). n * q - 1 - (q - 1 - x)) back

widen_cases : (n : ℕ) (xs : List Bool) → 1 ≤ length xs → (sign : Bool) → sign_bit xs ≡ sign →
    number_of (xs ++ replicate n sign) ≡ extend_value true (length xs) (number_of xs) (length xs + n)
widen_cases n xs some false e =
    widen_by_zeros n xs ∙ ap (wrapped (length xs + n)) (sym (signed_value_low (length xs) (number_of xs) (sign_bit_low xs some e)))
widen_cases n xs some true e =
    let w = length xs in
    let x = number_of xs in
    let fits : x < 2 ^ w = number_of_below xs in
    let lacking : 2 ^ w - 1 - x < 2 ^ (w + n) = omega (arith, pow_le w (w + n) (omega arith)) in
    let powers : 2 ^ n * 2 ^ w ≡ 2 ^ (w + n) = mul_comm (2 ^ n) (2 ^ w) ∙ sym (pow-add 2 w n) in
    number_of_append xs (replicate n true)
    ∙ ap (λ (m : ℕ). m * 2 ^ w + x) (number_of_ones n)
    ∙ ones_above (2 ^ n) (2 ^ w) x (pow_pos n) fits
    ∙ ap (λ (m : ℕ). m - 1 - (2 ^ w - 1 - x)) powers
    ∙ ap (λ (m : ℕ). 2 ^ (w + n) - 1 - m) (sym (mod-eq_of_lt lacking))
    ∙ ap (wrapped (w + n)) (sym (signed_value_negsuc w x (sign_bit_high xs some e) fits))

pub widen_by_sign : (n : ℕ) (xs : List Bool) → 1 ≤ length xs →
    number_of (xs ++ replicate n (sign_bit xs)) ≡ extend_value true (length xs) (number_of xs) (length xs + n)
widen_by_sign n xs some = widen_cases n xs some (sign_bit xs) refl
