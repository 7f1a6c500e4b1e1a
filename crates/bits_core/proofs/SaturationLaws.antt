-- For saturating adders: the sum or the difference, or the end of the type where the carry or the signs tell that it is past.
use Rattle.std.proofs.Common.{inl, inr, ◌≡◌, ℕ, ◌+◌, ◌-◌, ◌*◌, ◌%◌, ◌^◌, ◌<◌, ◌≤◌, Bool, true, false, List, length, ℤ, pos, min, refl, sym, ap, ◌∙◌, subst, arith, ⊎_elim}
use Rattle.std.specs.Prelude.{◌⊎◌, not, map, ◌&&◌, nat_le, if◌then◌else◌, negsuc, ◌+ℤ◌, ◌-ℤ◌}
use Rattle.std.specs.Int.{saturate_to_bits}
use Rattle.std.proofs.Math.Nat.{mod-eq_of_lt, mod-eq-sub-mod}
use Rattle.std.proofs.lemmas.Bool.{cases_lt}
use Rattle.std.proofs.lemmas.Int.{ints}
use Rattle.std.proofs.lemmas.List.{length-map}
use Rattle.std.proofs.lemmas.Nat.{pow_pos}
use Rattle.bits_core.specs.declared.operator.Op.TheVariants.{AddSatU, SubSatU, AddSatS, SubSatS}
use Rattle.bits_core.specs.BitList.{number_of, sign_bit}
use Rattle.bits_core.specs.Circuit.{exclusive_or, signed_sum_or_end, signed_difference_or_end, ripple_sum, ripple_carry}
use Rattle.bits_core.specs.Number.{signed_value, wrapped}
use Rattle.bits_core.specs.Operator.{operator_value}
use Rattle.bits_core.proofs.AdderLaws.{add_by_ripple, subtract_by_ripple, length_ripple_sum, less_equal_by_ripple, ripple_carry_is}
use Rattle.bits_core.proofs.BitListLaws.{number_of_below, sign_bit_high, sign_bit_low}
use Rattle.bits_core.proofs.SignedRowLaws.{add_signed, subtract_signed}
use Rattle.bits_core.proofs.SignLaws.{half_twice, signed_value_low, signed_value_high}
use Rattle.bits_core.proofs.WidthLaws.{mod_sub}

-- ---- unsigned

sum_or_end : (x y p s : ℕ) (carry : Bool) → carry ≡ nat_le p (x + y + 0) → s ≡ (x + y) % p →
    min (x + y) (p - 1) ≡ (if carry then p - 1 else s)
sum_or_end x y p s true over e = grind arith
sum_or_end x y p s false over e =
    let fits : x + y < p = grind arith in
    let whole : s ≡ x + y = e ∙ mod-eq_of_lt fits in
    omega arith

pub add_or_end : (xs ys : List Bool) → length xs ≡ length ys →
    operator_value AddSatU (length xs) (number_of xs) (length ys) (number_of ys)
    ≡ (if ripple_carry xs ys false then 2 ^ length xs - 1 else number_of (ripple_sum xs ys false))
add_or_end xs ys e =
    sum_or_end (number_of xs) (number_of ys) (2 ^ length xs) (number_of (ripple_sum xs ys false)) (ripple_carry xs ys false)
    (ripple_carry_is xs ys false e) (add_by_ripple xs ys e)

difference_or_zero : (x y p s : ℕ) (carry : Bool) → x < p → carry ≡ nat_le y x → s ≡ (x + (p - y)) % p → y < p →
    x - y ≡ (if carry then s else 0)
difference_or_zero x y p s true below order e other =
    let above : y ≤ x = grind arith in
    let past : p ≤ x + (p - y) = omega arith in
    let small : x + (p - y) - p < p = omega arith in
    let whole : s ≡ x + (p - y) - p = e ∙ mod-eq-sub-mod past ∙ mod-eq_of_lt small in
    omega arith
difference_or_zero x y p s false below order e other = grind arith

pub subtract_or_zero : (xs ys : List Bool) → length xs ≡ length ys →
    operator_value SubSatU (length xs) (number_of xs) (length ys) (number_of ys)
    ≡ (if ripple_carry xs (map not ys) true then number_of (ripple_sum xs (map not ys) true) else 0)
subtract_or_zero xs ys e =
    let w = length xs in
    let below : number_of ys < 2 ^ w = subst (λ (n : ℕ). number_of ys < 2 ^ n) (sym e) (number_of_below ys) in
    difference_or_zero (number_of xs) (number_of ys) (2 ^ w) (number_of (ripple_sum xs (map not ys) true)) (ripple_carry xs (map not ys) true)
    (number_of_below xs) (less_equal_by_ripple xs ys e)
    (subtract_by_ripple xs ys e ∙ sym (mod_sub w (number_of xs) (number_of ys) (omega arith))) below

-- ---- signed: a sum is past the end where two operands of one sign give the other, a difference where two of different
-- signs give another sign than the first has

-- x is below half of the range, or not
abbrev HasSign : Bool → ℕ → ℕ → Type 0
HasSign false half x = x < half
HasSign true half x = half ≤ x

within_ends : (w u : ℕ) (z : ℤ) → z +ℤ pos (2 ^ (w - 1)) ≡ pos u → u < 2 * 2 ^ (w - 1) → wrapped w (saturate_to_bits (w - 1) z) ≡ wrapped w z
within_ends w u (pos n) e inside =
    let least : min n (2 ^ (w - 1) - 1) ≡ n = omega (arith, ints) in
    ap (λ (m : ℕ). wrapped w (pos m)) least
within_ends w u (negsuc n) e inside =
    let least : min n (2 ^ (w - 1) - 1) ≡ n = omega (arith, ints) in
    ap (λ (m : ℕ). wrapped w (negsuc m)) least

above_end : (w n : ℕ) (z : ℤ) → 1 ≤ w → z ≡ pos n → 2 ^ (w - 1) ≤ n → wrapped w (saturate_to_bits (w - 1) z) ≡ 2 ^ (w - 1) - 1
above_end w n z some e past =
    let least : min n (2 ^ (w - 1) - 1) ≡ 2 ^ (w - 1) - 1 = omega arith in
    let fits : 2 ^ (w - 1) - 1 < 2 ^ w = omega (arith, half_twice w some, pow_pos (w - 1)) in
    ap (λ (y : ℤ). wrapped w (saturate_to_bits (w - 1) y)) e ∙ ap (λ (m : ℕ). m % 2 ^ w) least ∙ mod-eq_of_lt fits

below_end : (w n : ℕ) (z : ℤ) → 1 ≤ w → z ≡ negsuc n → 2 ^ (w - 1) ≤ n → wrapped w (saturate_to_bits (w - 1) z) ≡ 2 ^ (w - 1)
below_end w n z some e past =
    let least : min n (2 ^ (w - 1) - 1) ≡ 2 ^ (w - 1) - 1 = omega arith in
    let fits : 2 ^ (w - 1) - 1 < 2 ^ w = omega (arith, half_twice w some, pow_pos (w - 1)) in
    let left : 2 ^ w - 1 - (2 ^ (w - 1) - 1) ≡ 2 ^ (w - 1) = omega (arith, half_twice w some, pow_pos (w - 1)) in
    ap (λ (y : ℤ). wrapped w (saturate_to_bits (w - 1) y)) e
    ∙ ap (λ (m : ℕ). 2 ^ w - 1 - m % 2 ^ w) least ∙ ap (λ (m : ℕ). 2 ^ w - 1 - m) (mod-eq_of_lt fits) ∙ left

-- what a signed value is, by its sign
abbrev IsRead : Bool → ℕ → ℕ → ℤ → Type 0
IsRead false p x z = z ≡ pos x
IsRead true p x z = z ≡ pos x -ℤ pos p

read : (sign : Bool) (w x : ℕ) → HasSign sign (2 ^ (w - 1)) x → IsRead sign (2 ^ w) x (signed_value w x)
read false w x low = signed_value_low w x low
read true w x high = signed_value_high w x high

-- s is the sum or the difference that wraps: n, or n less p
wraps_to : (s n p : ℕ) → 0 < p → s ≡ n % p → n < p + p → (s ≡ n) ⊎ (s + p ≡ n)
wraps_to s n p some e below =
    ⊎_elim
    (λ (fits : n < p). inl (e ∙ mod-eq_of_lt fits))
    (λ (past : p ≤ n).
    let small : n - p < p = omega arith in
    let less : s ≡ n - p = e ∙ mod-eq-sub-mod past ∙ mod-eq_of_lt small in
    inr (omega arith))
    (cases_lt n p)

-- the choice that the signs make
abbrev ended : Bool → Bool → ℕ → ℕ → ℕ
ended past negative half s = if past then (if negative then half else half - 1) else s

module _ (w x y s : ℕ) (some : 1 ≤ w) (xfits : x < 2 ^ w) (yfits : y < 2 ^ w) where
  sum_within : (u : ℕ) → s ≡ (x + y) % 2 ^ w → (signed_value w x +ℤ signed_value w y) +ℤ pos (2 ^ (w - 1)) ≡ pos u → u < 2 * 2 ^ (w - 1) →
      operator_value AddSatS w x w y ≡ s
  sum_within u e z inside = within_ends w u (signed_value w x +ℤ signed_value w y) z inside ∙ add_signed w x w y xfits yfits ∙ sym e

  add_cases : (left right sum : Bool) → HasSign left (2 ^ (w - 1)) x → HasSign right (2 ^ (w - 1)) y → HasSign sum (2 ^ (w - 1)) s →
      s ≡ (x + y) % 2 ^ w → IsRead left (2 ^ w) x (signed_value w x) → IsRead right (2 ^ w) y (signed_value w y) →
      2 * 2 ^ (w - 1) ≡ 2 ^ w → (s ≡ x + y) ⊎ (s + 2 ^ w ≡ x + y) →
      operator_value AddSatS w x w y ≡ ended (not (exclusive_or left right) && exclusive_or left sum) left (2 ^ (w - 1)) s
  add_cases false false false a b c e p q twice r = sum_within (x + y + 2 ^ (w - 1)) e (omega (arith, ints)) (omega arith)
  add_cases false false true a b c e p q twice r = above_end w (x + y) (signed_value w x +ℤ signed_value w y) some (omega (arith, ints)) (omega arith)
  add_cases false true false a b c e p q twice r = sum_within (x + y - 2 ^ (w - 1)) e (omega (arith, ints)) (omega arith)
  add_cases false true true a b c e p q twice r = sum_within (x + y - 2 ^ (w - 1)) e (omega (arith, ints)) (omega arith)
  add_cases true false false a b c e p q twice r = sum_within (x + y - 2 ^ (w - 1)) e (omega (arith, ints)) (omega arith)
  add_cases true false true a b c e p q twice r = sum_within (x + y - 2 ^ (w - 1)) e (omega (arith, ints)) (omega arith)
  add_cases true true false a b c e p q twice r =
      below_end w (2 ^ w + 2 ^ w - x - y - 1) (signed_value w x +ℤ signed_value w y) some (omega (arith, ints)) (omega arith)
  add_cases true true true a b c e p q twice r = sum_within (x + y - 2 ^ w - 2 ^ (w - 1)) e (omega (arith, ints)) (omega arith)

  difference_within : (u : ℕ) → s ≡ (x + (2 ^ w - y)) % 2 ^ w → (signed_value w x -ℤ signed_value w y) +ℤ pos (2 ^ (w - 1)) ≡ pos u → u < 2 * 2 ^ (w - 1) →
      operator_value SubSatS w x w y ≡ s
  difference_within u e z inside =
      within_ends w u (signed_value w x -ℤ signed_value w y) z inside ∙ subtract_signed w x w y xfits yfits ∙ sym (mod_sub w x y (omega arith)) ∙ sym e

  subtract_cases : (left right difference : Bool) → HasSign left (2 ^ (w - 1)) x → HasSign right (2 ^ (w - 1)) y → HasSign difference (2 ^ (w - 1)) s →
      s ≡ (x + (2 ^ w - y)) % 2 ^ w → IsRead left (2 ^ w) x (signed_value w x) → IsRead right (2 ^ w) y (signed_value w y) →
      2 * 2 ^ (w - 1) ≡ 2 ^ w → (s ≡ x + (2 ^ w - y)) ⊎ (s + 2 ^ w ≡ x + (2 ^ w - y)) →
      operator_value SubSatS w x w y ≡ ended (exclusive_or left right && exclusive_or left difference) left (2 ^ (w - 1)) s
  subtract_cases false false false a b c e p q twice r = difference_within (x + 2 ^ (w - 1) - y) e (omega (arith, ints)) (omega arith)
  subtract_cases false false true a b c e p q twice r = difference_within (x + 2 ^ (w - 1) - y) e (omega (arith, ints)) (omega arith)
  subtract_cases false true false a b c e p q twice r =
      difference_within (x + 2 ^ w + 2 ^ (w - 1) - y) e (omega (arith, ints)) (omega arith)
  subtract_cases false true true a b c e p q twice r =
      above_end w (x + 2 ^ w - y) (signed_value w x -ℤ signed_value w y) some (omega (arith, ints)) (omega arith)
  subtract_cases true false false a b c e p q twice r =
      below_end w (2 ^ w + y - x - 1) (signed_value w x -ℤ signed_value w y) some (omega (arith, ints)) (omega arith)
  subtract_cases true false true a b c e p q twice r = difference_within (x + 2 ^ (w - 1) - 2 ^ w - y) e (omega (arith, ints)) (omega arith)
  subtract_cases true true false a b c e p q twice r = difference_within (x + 2 ^ (w - 1) - y) e (omega (arith, ints)) (omega arith)
  subtract_cases true true true a b c e p q twice r = difference_within (x + 2 ^ (w - 1) - y) e (omega (arith, ints)) (omega arith)

-- the sign bit of a list tells the half of the range
signed_of : (bs : List Bool) (w : ℕ) → length bs ≡ w → 1 ≤ w → (sign : Bool) → sign_bit bs ≡ sign → HasSign sign (2 ^ (w - 1)) (number_of bs)
signed_of bs w e some false is = subst (λ (n : ℕ). number_of bs < 2 ^ (n - 1)) e (sign_bit_low bs (omega arith) is)
signed_of bs w e some true is = subst (λ (n : ℕ). 2 ^ (n - 1) ≤ number_of bs) e (sign_bit_high bs (omega arith) is)

pub add_signed_or_end : (xs ys : List Bool) → 1 ≤ length xs → length xs ≡ length ys →
    operator_value AddSatS (length xs) (number_of xs) (length xs) (number_of ys)
    ≡ signed_sum_or_end xs ys (ripple_sum xs ys false)
add_signed_or_end xs ys some e =
    let w = length xs in
    let sum = ripple_sum xs ys false in
    let below : number_of ys < 2 ^ w = subst (λ (n : ℕ). number_of ys < 2 ^ n) (sym e) (number_of_below ys) in
    let left = signed_of xs w refl some (sign_bit xs) refl in
    let right = signed_of ys w (sym e) some (sign_bit ys) refl in
    let is : number_of sum ≡ (number_of xs + number_of ys) % 2 ^ w = add_by_ripple xs ys e in
    add_cases w (number_of xs) (number_of ys) (number_of sum) some (number_of_below xs) below (sign_bit xs) (sign_bit ys) (sign_bit sum)
    left right (signed_of sum w (length_ripple_sum xs ys false e) some (sign_bit sum) refl) is
    (read (sign_bit xs) w (number_of xs) left) (read (sign_bit ys) w (number_of ys) right) (half_twice w some)
    (wraps_to (number_of sum) (number_of xs + number_of ys) (2 ^ w) (pow_pos w) is (omega (arith, number_of_below xs)))

pub subtract_signed_or_end : (xs ys : List Bool) → 1 ≤ length xs → length xs ≡ length ys →
    operator_value SubSatS (length xs) (number_of xs) (length xs) (number_of ys)
    ≡ signed_difference_or_end xs ys (ripple_sum xs (map not ys) true)
subtract_signed_or_end xs ys some e =
    let w = length xs in
    let difference = ripple_sum xs (map not ys) true in
    let below : number_of ys < 2 ^ w = subst (λ (n : ℕ). number_of ys < 2 ^ n) (sym e) (number_of_below ys) in
    let left = signed_of xs w refl some (sign_bit xs) refl in
    let right = signed_of ys w (sym e) some (sign_bit ys) refl in
    let is : number_of difference ≡ (number_of xs + (2 ^ w - number_of ys)) % 2 ^ w =
    subtract_by_ripple xs ys e ∙ sym (mod_sub w (number_of xs) (number_of ys) (omega arith)) in
    subtract_cases w (number_of xs) (number_of ys) (number_of difference) some (number_of_below xs) below (sign_bit xs) (sign_bit ys) (sign_bit difference)
    left right (signed_of difference w (length_ripple_sum xs (map not ys) true (e ∙ sym (length-map ys not))) some (sign_bit difference) refl) is
    (read (sign_bit xs) w (number_of xs) left) (read (sign_bit ys) w (number_of ys) right) (half_twice w some)
    (wraps_to (number_of difference) (number_of xs + (2 ^ w - number_of ys)) (2 ^ w) (pow_pos w) is (omega (arith, number_of_below xs)))
