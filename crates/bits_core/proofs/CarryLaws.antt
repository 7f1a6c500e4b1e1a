-- The bit at a place of sums and differences, from the carry into the place, of negations, and of products.
use Rattle.std.proofs.Common.{◌≡◌, ◌≢◌, ℕ, zero, suc, ◌+◌, ◌-◌, ◌*◌, ◌/◌, ◌%◌, ◌^◌, ◌<◌, ◌≤◌, refl, sym, ap, ◌∙◌, arith, subst, Bool, List, length, take}
use Rattle.std.specs.Prelude.{◌==◌, if◌then◌else◌}
use Rattle.std.specs.Int.{bit_at}
use Rattle.std.proofs.Common.{add-zero}
use Rattle.std.proofs.Math.Nat.{add-mul-div_right, add-mul-mod_self_right, div-eq_of_lt}
use Rattle.std.proofs.lemmas.Bool.{cond_both, eqb-true, eqb-false}
use Rattle.std.proofs.lemmas.List.{length-take-le}
use Rattle.std.proofs.lemmas.Nat.{shr_high, pow_pos, shr-shr, div-add-mod', mod-pow-add, mod_below}
use Rattle.std.proofs.lemmas.Nat.Bits.{bit_at-lt, bit_at-zero, same_from_bits_below}
use Rattle.bits_core.specs.declared.operator.Op.TheVariants.{Add, Sub, Mul, Neg}
use Rattle.bits_core.specs.Operator.{operator_value}
use Rattle.bits_core.specs.BitList.{bit_value, number_of}
use Rattle.bits_core.specs.Circuit.{ripple_sum, ripple_carry}
use Rattle.bits_core.specs.Place.{carry_into, partial_product}
use Rattle.bits_core.proofs.AdderLaws.{not_and_one, number_of_ripple_sum_carry, sum_below, carry_first}
use Rattle.bits_core.proofs.BitListLaws.{number_of_take}
use Rattle.bits_core.proofs.PlaceLaws.{bit_at_mod, bit_at_turned}
use Rattle.bits_core.proofs.WidthLaws.{mod_sub}

-- ---- the carry

pub carry_into_zero : (x y c : ℕ) → carry_into 0 x y c ≡ c
unfolding carry_into
carry_into_zero x y c = refl

pub carry_into_suc : (i x y c : ℕ) → carry_into (suc i) x y c ≡ (bit_at x i + bit_at y i + carry_into i x y c) / 2
unfolding carry_into
carry_into_suc i x y c = refl

pub carry_into_below : (i x y c : ℕ) → c < 2 → carry_into i x y c < 2
unfolding carry_into
carry_into_below zero x y c small = small
carry_into_below (suc i) x y c small = omega (arith, carry_into_below i x y c small)

-- the bits below a place, and one more
pub mod_suc : (x i : ℕ) → x % 2 ^ suc i ≡ bit_at x i * 2 ^ i + x % 2 ^ i
mod_suc x i = rw (one_more i) (mod-pow-add x 1 i)
  where
    one_more : (i : ℕ) → suc i ≡ 1 + i
    one_more i = omega arith

regroup : (a b p r s c : ℕ) → (a * p + r) + (b * p + s) + c ≡ (r + s + c) + (a + b) * p
regroup a b p r s c = omega arith

order : (a b q : ℕ) → q + (a + b) ≡ a + b + q
order a b q = omega arith

-- a quotient of a sum, from those of its parts
div_sum : (x y c p : ℕ) → 0 < p → (x + y + c) / p ≡ x / p + y / p + (x % p + y % p + c) / p
div_sum x y c p some =
    ap (λ (n : ℕ). (n + y + c) / p) (sym (div-add-mod' x p))
    ∙ ap (λ (n : ℕ). (x / p * p + x % p + n + c) / p) (sym (div-add-mod' y p))
    ∙ ap (λ (n : ℕ). n / p) (regroup (x / p) (y / p) p (x % p) (y % p) c)
    ∙ add-mul-div_right (x % p + y % p + c) (x / p + y / p) some
    ∙ order (x / p) (y / p) ((x % p + y % p + c) / p)

-- what the bits below a place add up to, over the place
pub carry_into_is : (i x y c : ℕ) → carry_into i x y c ≡ (x % 2 ^ i + y % 2 ^ i + c) / 2 ^ i
unfolding carry_into
carry_into_is zero x y c = omega arith
carry_into_is (suc i) x y c =
    let p = 2 ^ i in
    let a = bit_at x i in
    let b = bit_at y i in
    let rest = x % p + y % p + c in
    let next : i + 1 ≡ suc i = omega arith in
    ap (λ (n : ℕ). (a + b + n) / 2) (carry_into_is i x y c)
    ∙ ap (λ (n : ℕ). n / 2) (sym (order a b (rest / p)) ∙ sym (add-mul-div_right rest (a + b) (pow_pos i)))
    ∙ shr-shr (rest + (a + b) * p) i 1
    ∙ ap (λ (n : ℕ). (rest + (a + b) * p) / 2 ^ n) next
    ∙ ap (λ (n : ℕ). n / 2 ^ suc i) (sym (regroup a b p (x % p) (y % p) c))
    ∙ ap (λ (n : ℕ). (n + (b * p + y % p) + c) / 2 ^ suc i) (sym (mod_suc x i))
    ∙ ap (λ (n : ℕ). (x % 2 ^ suc i + n + c) / 2 ^ suc i) (sym (mod_suc y i))

-- the carry of a row of full adders over lists of bits
pub ripple_carry_take : (xs ys : List Bool) (c : Bool) (i : ℕ) → length xs ≡ length ys → i ≤ length xs →
    bit_value (ripple_carry (take i xs) (take i ys) c) ≡ carry_into i (number_of xs) (number_of ys) (bit_value c)
ripple_carry_take xs ys c i e within =
    let us = take i xs in
    let vs = take i ys in
    let p = 2 ^ i in
    let b = bit_value c in
    let k = bit_value (ripple_carry us vs c) in
    let s = number_of (ripple_sum us vs c) in
    let long : length us ≡ i = length-take-le i xs within in
    let same : length us ≡ length vs = long ∙ sym (length-take-le i ys (omega arith)) in
    let below : s < p = subst (λ (n : ℕ). s < 2 ^ n) long (sum_below us vs c same) in
    let whole : s + p * k ≡ number_of us + number_of vs + b =
    subst (λ (n : ℕ). s + 2 ^ n * k ≡ number_of us + number_of vs + b) long (number_of_ripple_sum_carry us vs c same) in
    sym
    (carry_into_is i (number_of xs) (number_of ys) b
    ∙ ap (λ (n : ℕ). (n + number_of ys % p + b) / p) (sym (number_of_take i xs))
    ∙ ap (λ (n : ℕ). (number_of us + n + b) / p) (sym (number_of_take i ys))
    ∙ ap (λ (n : ℕ). n / p) (carry_first s p k (number_of us + number_of vs + b) whole)
    ∙ shr_high k i s below)

low_sum : (a b c : ℕ) → (a + b + c) % 2 ≡ (a % 2 + b % 2 + c) % 2
low_sum a b c = omega arith

-- ---- sums and differences

pub bit_at_sum : (x y c i : ℕ) → bit_at (x + y + c) i ≡ (bit_at x i + bit_at y i + carry_into i x y c) % 2
bit_at_sum x y c i =
    ap (λ (n : ℕ). n % 2) (div_sum x y c (2 ^ i) (pow_pos i))
    ∙ low_sum (x / 2 ^ i) (y / 2 ^ i) ((x % 2 ^ i + y % 2 ^ i + c) / 2 ^ i)
    ∙ ap (λ (n : ℕ). (bit_at x i + bit_at y i + n) % 2) (sym (carry_into_is i x y c))

pub bit_at_add : (w x v y i : ℕ) → i < w →
    bit_at (operator_value Add w x v y) i ≡ (bit_at x i + bit_at y i + carry_into i x y 0) % 2
bit_at_add w x v y i within =
    bit_at_mod (x + y) w i within ∙ ap (λ (n : ℕ). bit_at n i) (sym (add-zero (x + y))) ∙ bit_at_sum x y 0 i

-- a difference is the sum with what y has turned round, and 1
pub subtract_is : (w x v y : ℕ) → y < 2 ^ w → operator_value Sub w x v y ≡ (x + (2 ^ w - 1 - y) + 1) % 2 ^ w
subtract_is w x v y fits =
    sym (ap (λ (n : ℕ). n % 2 ^ w) (not_and_one x y (2 ^ w) fits) ∙ mod_sub w x y (omega arith))

pub bit_at_subtract : (w x v y i : ℕ) → y < 2 ^ w → i < w →
    bit_at (operator_value Sub w x v y) i
    ≡ (bit_at x i + (1 - bit_at y i) + carry_into i x (2 ^ w - 1 - y) 1) % 2
bit_at_subtract w x v y i fits within =
    let turned = 2 ^ w - 1 - y in
    ap (λ (n : ℕ). bit_at n i) (subtract_is w x v y fits)
    ∙ bit_at_mod (x + turned + 1) w i within
    ∙ bit_at_sum x turned 1 i
    ∙ ap (λ (n : ℕ). (bit_at x i + n + carry_into i x turned 1) % 2) (bit_at_turned w y i fits within)

-- ---- negations: up to the lowest bit nothing changes, and above it all turns round

pub turned_mod : (w x n : ℕ) → x < 2 ^ w → n ≤ w → (2 ^ w - 1 - x) % 2 ^ n ≡ 2 ^ n - 1 - x % 2 ^ n
turned_mod w x n fits within =
    same_from_bits_below n ((2 ^ w - 1 - x) % 2 ^ n) (2 ^ n - 1 - x % 2 ^ n)
    (mod_below (2 ^ w - 1 - x) (2 ^ n) (pow_pos n)) (omega (arith, pow_pos n))
    (λ i below.
    bit_at_mod (2 ^ w - 1 - x) n i below
    ∙ bit_at_turned w x i fits (omega arith)
    ∙ ap (λ (b : ℕ). 1 - b) (sym (bit_at_mod x n i below))
    ∙ sym (bit_at_turned n (x % 2 ^ n) i (mod_below x (2 ^ n) (pow_pos n)) below))

carry_of_zero : (p r : ℕ) → 0 < p → r ≡ 0 → (0 + (p - 1 - r) + 1) / p ≡ 1
carry_of_zero p r some e =
    let all : 0 + (p - 1 - r) + 1 ≡ 0 + 1 * p = omega arith in
    let none : 0 / p ≡ 0 = omega arith in
    ap (λ (n : ℕ). n / p) all ∙ add-mul-div_right 0 1 some ∙ ap (λ (n : ℕ). n + 1) none

carry_of_some : (p r : ℕ) → r < p → r ≢ 0 → (0 + (p - 1 - r) + 1) / p ≡ 0
carry_of_some p r below some =
    let short : 0 + (p - 1 - r) + 1 < p = grind arith in
    div-eq_of_lt short

pub bit_at_negate : (w x v y i : ℕ) → x < 2 ^ w → i < w →
    bit_at (operator_value Neg w x v y) i ≡ (if x % 2 ^ i == 0 then bit_at x i else 1 - bit_at x i)
bit_at_negate w x v y i fits within =
    let p = 2 ^ i in
    let r = x % p in
    let turned = 2 ^ w - 1 - x in
    let below : r < p = mod_below x p (pow_pos i) in
    let zero_low : 0 % p ≡ 0 = omega arith in
    let carry : carry_into i 0 turned 1 ≡ (0 + (p - 1 - r) + 1) / p =
    carry_into_is i 0 turned 1 ∙ ap (λ (n : ℕ). (n + turned % p + 1) / p) zero_low
    ∙ ap (λ (n : ℕ). (0 + n + 1) / p) (turned_mod w x i fits (omega arith)) in
    let bit : bit_at (operator_value Neg w x v y) i ≡ (bit_at 0 i + (1 - bit_at x i) + carry_into i 0 turned 1) % 2 =
    bit_at_subtract w 0 v x i fits within in
    cond_both (r == 0) (bit_at x i) (1 - bit_at x i) (λ n. bit_at (operator_value Neg w x v y) i ≡ n)
    (λ is.
    let one : carry_into i 0 turned 1 ≡ 1 = carry ∙ carry_of_zero p r (pow_pos i) (eqb-true r 0 is) in
    omega (arith, bit_at-zero i, bit_at-lt x i))
    (λ not.
    let none : carry_into i 0 turned 1 ≡ 0 = carry ∙ carry_of_some p r below (eqb-false r 0 not) in
    omega (arith, bit_at-zero i, bit_at-lt x i))

-- ---- products

pub partial_product_zero : (x y : ℕ) → partial_product 0 x y ≡ 0
unfolding partial_product
partial_product_zero x y = refl

pub partial_product_suc : (n x y : ℕ) → partial_product (suc n) x y ≡ partial_product n x y + bit_at y n * (x * 2 ^ n)
unfolding partial_product
partial_product_suc n x y = refl

spread : (x b p r : ℕ) → x * r + b * (x * p) ≡ x * (b * p + r)
spread x b p r = omega arith

-- the product with the lowest bits of y
pub partial_product_is : (n x y : ℕ) → partial_product n x y ≡ x * (y % 2 ^ n)
unfolding partial_product
partial_product_is zero x y =
    let none : y % 2 ^ 0 ≡ 0 = omega arith in
    let nothing : 0 ≡ x * 0 = omega arith in
    nothing ∙ ap (λ (n : ℕ). x * n) (sym none)
partial_product_is (suc n) x y =
    ap (λ (m : ℕ). m + bit_at y n * (x * 2 ^ n)) (partial_product_is n x y)
    ∙ spread x (bit_at y n) (2 ^ n) (y % 2 ^ n)
    ∙ ap (λ (m : ℕ). x * m) (sym (mod_suc y n))

far : (x q p r : ℕ) → x * (q * p + r) ≡ x * r + (x * q) * p
far x q p r = omega arith

pub partial_product_mod : (n x y : ℕ) → partial_product n x y % 2 ^ n ≡ (x * y) % 2 ^ n
partial_product_mod n x y =
    let p = 2 ^ n in
    ap (λ (m : ℕ). m % p) (partial_product_is n x y)
    ∙ sym (add-mul-mod_self_right (x * (y % p)) (x * (y / p)) p)
    ∙ ap (λ (m : ℕ). m % p) (sym (far x (y / p) p (y % p)))
    ∙ ap (λ (m : ℕ). (x * m) % p) (div-add-mod' y p)

-- only the places up to its own count
pub bit_at_product : (n x y i : ℕ) → i < n → bit_at (x * y) i ≡ bit_at (partial_product n x y) i
bit_at_product n x y i within =
    sym (bit_at_mod (x * y) n i within)
    ∙ ap (λ (m : ℕ). bit_at m i) (sym (partial_product_mod n x y))
    ∙ bit_at_mod (partial_product n x y) n i within

pub bit_at_multiply : (w x v y i : ℕ) → i < w → bit_at (operator_value Mul w x v y) i ≡ bit_at (partial_product w x y) i
bit_at_multiply w x v y i within = bit_at_mod (x * y) w i within ∙ bit_at_product w x y i within
