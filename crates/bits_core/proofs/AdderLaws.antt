-- For a ripple-carry adder.
use Rattle.std.proofs.Common.{◌≡◌, ℕ, zero, suc, ◌+◌, ◌-◌, ◌*◌, ◌%◌, ◌^◌, ◌<◌, Bool, true, false, List, [], ◌∷◌, length, take, get_or, replicate, refl, sym, ap, ◌∙◌, subst, arith}
use Rattle.std.specs.Prelude.{map, not, nat_le, pos, ◌-ℤ◌}
use Rattle.std.proofs.Math.Nat.{pow-succ'}
use Rattle.std.proofs.Common.{add-zero}
use Rattle.std.proofs.lemmas.List.{length-map, length-replicate}
use Rattle.std.proofs.lemmas.Nat.{mod_low}
use Rattle.bits_core.specs.declared.operator.Op.TheVariants.{Add, Sub, Neg}
use Rattle.bits_core.specs.BitList.{bit_value, number_of}
use Rattle.bits_core.specs.Circuit.{sum_bit, carry_bit, ripple_sum, ripple_carry}
use Rattle.bits_core.specs.Number.{wrapped}
use Rattle.bits_core.specs.Operator.{operator_value}
use Rattle.bits_core.proofs.BitListLaws.{number_of_below, number_of_not, number_of_zeros}
use Rattle.bits_core.proofs.WidthLaws.{mod_sub}

pub full_adder : (a b c : Bool) → bit_value (sum_bit a b c) + 2 * bit_value (carry_bit a b c) ≡ bit_value a + bit_value b + bit_value c
full_adder true true true = refl
full_adder true true false = refl
full_adder true false true = refl
full_adder true false false = refl
full_adder false true true = refl
full_adder false true false = refl
full_adder false false true = refl
full_adder false false false = refl

-- the sum and the carry together are the whole sum
pub number_of_ripple_sum_carry : (xs ys : List Bool) (c : Bool) → length xs ≡ length ys →
    number_of (ripple_sum xs ys c) + 2 ^ length xs * bit_value (ripple_carry xs ys c) ≡ number_of xs + number_of ys + bit_value c
number_of_ripple_sum_carry [] [] c e = omega arith
number_of_ripple_sum_carry [] (y ∷ ys) c e = absurd (omega arith)
number_of_ripple_sum_carry (x ∷ xs) [] c e = absurd (omega arith)
number_of_ripple_sum_carry (x ∷ xs) (y ∷ ys) c e =
    rw (pow-succ' 2 (length xs)) (omega (arith, full_adder x y c, number_of_ripple_sum_carry xs ys (carry_bit x y c) (omega arith)))

pub length_ripple_sum : (xs ys : List Bool) (c : Bool) → length xs ≡ length ys → length (ripple_sum xs ys c) ≡ length xs
length_ripple_sum [] ys c e = refl
length_ripple_sum (x ∷ xs) [] c e = absurd (omega arith)
length_ripple_sum (x ∷ xs) (y ∷ ys) c e = ap suc (length_ripple_sum xs ys (carry_bit x y c) (omega arith))

pub sum_below : (xs ys : List Bool) (c : Bool) → length xs ≡ length ys → number_of (ripple_sum xs ys c) < 2 ^ length xs
sum_below xs ys c e =
    subst (λ (w : ℕ). number_of (ripple_sum xs ys c) < 2 ^ w) (length_ripple_sum xs ys c e) (number_of_below (ripple_sum xs ys c))

pub carry_first : (s p k n : ℕ) → s + p * k ≡ n → n ≡ k * p + s
carry_first s p k n e = omega arith

pub number_of_ripple_sum : (xs ys : List Bool) (c : Bool) → length xs ≡ length ys →
    number_of (ripple_sum xs ys c) ≡ (number_of xs + number_of ys + bit_value c) % 2 ^ length xs
number_of_ripple_sum xs ys c e =
    let s = number_of (ripple_sum xs ys c) in
    let k = bit_value (ripple_carry xs ys c) in
    let n = number_of xs + number_of ys + bit_value c in
    let whole : n ≡ k * 2 ^ length xs + s = carry_first s (2 ^ length xs) k n (number_of_ripple_sum_carry xs ys c e) in
    sym (ap (λ (m : ℕ). m % 2 ^ length xs) whole ∙ mod_low k (length xs) s (sum_below xs ys c e))

carry_test : (c : Bool) (s p n : ℕ) → s + p * bit_value c ≡ n → s < p → c ≡ nat_le p n
carry_test true s p n e below = grind arith
carry_test false s p n e below = grind arith

-- the carry out is set where the sum does not fit
pub ripple_carry_is : (xs ys : List Bool) (c : Bool) → length xs ≡ length ys →
    ripple_carry xs ys c ≡ nat_le (2 ^ length xs) (number_of xs + number_of ys + bit_value c)
ripple_carry_is xs ys c e =
    carry_test (ripple_carry xs ys c) (number_of (ripple_sum xs ys c)) (2 ^ length xs) (number_of xs + number_of ys + bit_value c)
    (number_of_ripple_sum_carry xs ys c e) (sum_below xs ys c e)

-- the bit of the sum at a place, from the carry into that place
pub get_or_ripple_sum : (xs ys : List Bool) (c : Bool) (place : ℕ) → length xs ≡ length ys → place < length xs →
    get_or (ripple_sum xs ys c) place false
    ≡ sum_bit (get_or xs place false) (get_or ys place false) (ripple_carry (take place xs) (take place ys) c)
get_or_ripple_sum [] ys c place e within = absurd (omega arith)
get_or_ripple_sum (x ∷ xs) [] c place e within = absurd (omega arith)
get_or_ripple_sum (x ∷ xs) (y ∷ ys) c zero e within = refl
get_or_ripple_sum (x ∷ xs) (y ∷ ys) c (suc place) e within =
    get_or_ripple_sum xs ys (carry_bit x y c) place (omega arith) (omega arith)

-- ---- the rows that an adder serves

pub add_by_ripple : (xs ys : List Bool) → length xs ≡ length ys →
    number_of (ripple_sum xs ys false) ≡ operator_value Add (length xs) (number_of xs) (length ys) (number_of ys)
add_by_ripple xs ys e =
    number_of_ripple_sum xs ys false e ∙ ap (λ (n : ℕ). n % 2 ^ length xs) (add-zero (number_of xs + number_of ys))

-- x - y is x and y with its bits turned round, and 1
pub not_and_one : (x y p : ℕ) → y < p → x + (p - 1 - y) + 1 ≡ x + (p - y)
not_and_one x y p fits = omega arith

pub subtract_by_ripple : (xs ys : List Bool) → length xs ≡ length ys →
    number_of (ripple_sum xs (map not ys) true) ≡ operator_value Sub (length xs) (number_of xs) (length ys) (number_of ys)
subtract_by_ripple xs ys e =
    let w = length xs in
    let x = number_of xs in
    let y = number_of ys in
    let below : y < 2 ^ w = subst (λ (n : ℕ). y < 2 ^ n) (sym e) (number_of_below ys) in
    let turned : number_of (map not ys) ≡ 2 ^ w - 1 - y = number_of_not ys ∙ ap (λ (n : ℕ). 2 ^ n - 1 - y) (sym e) in
    number_of_ripple_sum xs (map not ys) true (e ∙ sym (length-map ys not))
    ∙ ap (λ (n : ℕ). (x + n + 1) % 2 ^ w) turned
    ∙ ap (λ (n : ℕ). n % 2 ^ w) (not_and_one x y (2 ^ w) below)
    ∙ mod_sub w x y (omega arith)

pub negate_by_ripple : (xs : List Bool) →
    number_of (ripple_sum (replicate (length xs) false) (map not xs) true) ≡ operator_value Neg (length xs) (number_of xs) 0 0
negate_by_ripple xs =
    let w = length xs in
    let zeros = replicate w false in
    let lengths : length zeros ≡ length xs = length-replicate w false in
    subtract_by_ripple zeros xs lengths
    ∙ ap (λ (n : ℕ). wrapped n (pos (number_of zeros) -ℤ pos (number_of xs))) lengths
    ∙ ap (λ (n : ℕ). wrapped w (pos n -ℤ pos (number_of xs))) (number_of_zeros w)

no_borrow : (x y p : ℕ) → y < p → nat_le p (x + (p - 1 - y) + 1) ≡ nat_le y x
no_borrow x y p below = grind arith

-- the carry out of x - y is set where there is no borrow
pub less_equal_by_ripple : (xs ys : List Bool) → length xs ≡ length ys →
    ripple_carry xs (map not ys) true ≡ nat_le (number_of ys) (number_of xs)
less_equal_by_ripple xs ys e =
    let w = length xs in
    let below : number_of ys < 2 ^ w = subst (λ (n : ℕ). number_of ys < 2 ^ n) (sym e) (number_of_below ys) in
    let turned : number_of (map not ys) ≡ 2 ^ w - 1 - number_of ys = number_of_not ys ∙ ap (λ (n : ℕ). 2 ^ n - 1 - number_of ys) (sym e) in
    ripple_carry_is xs (map not ys) true (e ∙ sym (length-map ys not))
    ∙ ap (λ (n : ℕ). nat_le (2 ^ w) (number_of xs + n + 1)) turned
    ∙ no_borrow (number_of xs) (number_of ys) (2 ^ w) below
