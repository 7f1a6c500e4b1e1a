-- Two's complement, and the biased numbers that stand for it.
use Rattle.std.proofs.Common.{⊎_elim, ◌≡◌, ℕ, ◌+◌, ◌-◌, ◌*◌, ◌/◌, ◌^◌, ◌<◌, ◌≤◌, ℤ, pos, min, sym, ap, ◌∙◌, arith}
use Rattle.std.specs.Prelude.{◌≤ℤ◌, ◌<ℤ◌, negsuc, ◌+ℤ◌, ◌-ℤ◌, int_lt, int_le, nat_lt, nat_le}
use Rattle.std.specs.Int.{saturate_to_bits, int_div_euclid}
use Rattle.std.proofs.lemmas.Bool.{cases_lt}
use Rattle.std.proofs.Math.Nat.{mod-eq_of_lt, div-le_self}
use Rattle.std.proofs.lemmas.Nat.{pow_pos, pow-add}
use Rattle.std.proofs.lemmas.Int.{ints}
use Rattle.bits_core.specs.Number.{signed_value, wrapped}
use Rattle.bits_core.proofs.WidthLaws.{wrapped_is, pow_le}

-- the sign bit is half of the range
pub half_twice : (w : ℕ) → 1 ≤ w → 2 * 2 ^ (w - 1) ≡ 2 ^ w
half_twice w some =
    let e : 1 + (w - 1) ≡ w = omega arith in
    sym (pow-add 2 1 (w - 1)) ∙ ap (λ m. 2 ^ m) e

pub signed_value_low : (w x : ℕ) → x < 2 ^ (w - 1) → signed_value w x ≡ pos x
signed_value_low w x low = grind arith

pub signed_value_high : (w x : ℕ) → 2 ^ (w - 1) ≤ x → signed_value w x ≡ pos x -ℤ pos (2 ^ w)
signed_value_high w x high = grind arith

-- from the biased number back to the bits
pub wrapped_biased_low : (w b : ℕ) → 1 ≤ w → b < 2 ^ (w - 1) → b + 2 ^ (w - 1) ≡ wrapped w (pos b -ℤ pos (2 ^ (w - 1)))
wrapped_biased_low w b some low =
    let twice : 2 * 2 ^ (w - 1) ≡ 2 ^ w = half_twice w some in
    let z : (pos b -ℤ pos (2 ^ (w - 1))) +ℤ pos (1 * 2 ^ w) ≡ pos (b + 2 ^ (w - 1)) = omega (arith, ints) in
    let small : b + 2 ^ (w - 1) < 2 ^ w = omega arith in
    sym (wrapped_is w (pos b -ℤ pos (2 ^ (w - 1))) 1 (b + 2 ^ (w - 1)) z ∙ mod-eq_of_lt small)

pub wrapped_biased_high : (w b : ℕ) → 2 ^ (w - 1) ≤ b → b < 2 ^ w → b - 2 ^ (w - 1) ≡ wrapped w (pos b -ℤ pos (2 ^ (w - 1)))
wrapped_biased_high w b high fits =
    let z : (pos b -ℤ pos (2 ^ (w - 1))) +ℤ pos (0 * 2 ^ w) ≡ pos (b - 2 ^ (w - 1)) = omega (arith, ints) in
    let small : b - 2 ^ (w - 1) < 2 ^ w = omega arith in
    sym (wrapped_is w (pos b -ℤ pos (2 ^ (w - 1))) 0 (b - 2 ^ (w - 1)) z ∙ mod-eq_of_lt small)

-- a clamp of biased numbers is a clamp of the integers
pub saturate_biased : (h u : ℕ) (z : ℤ) → z +ℤ pos (2 * 2 ^ h) ≡ pos u →
    pos (min (u - 2 ^ h) (2 * 2 ^ h - 1)) -ℤ pos (2 ^ h) ≡ saturate_to_bits h z
saturate_biased h u (pos n) e = let positive : 0 < 2 ^ h = pow_pos h in omega (arith, ints)
saturate_biased h u (negsuc n) e = let positive : 0 < 2 ^ h = pow_pos h in omega (arith, ints)

-- biased numbers have the order of the integers
pub int_lt_biased : (h : ℕ) (z y : ℤ) (a b : ℕ) → pos a ≡ z +ℤ pos h → pos b ≡ y +ℤ pos h → int_lt z y ≡ nat_lt a b
int_lt_biased h z y a b p q = grind (arith, ints)

pub int_le_biased : (h : ℕ) (z y : ℤ) (a b : ℕ) → pos a ≡ z +ℤ pos h → pos b ≡ y +ℤ pos h → int_le z y ≡ nat_le a b
int_le_biased h z y a b p q = grind (arith, ints)

-- ---- shifts to the right

pub signed_value_negsuc : (w x : ℕ) → 2 ^ (w - 1) ≤ x → x < 2 ^ w → signed_value w x ≡ negsuc (2 ^ w - 1 - x)
signed_value_negsuc w x high fits =
    let e : pos x -ℤ pos (2 ^ w) ≡ negsuc (2 ^ w - 1 - x) = omega (arith, ints) in
    signed_value_high w x high ∙ e

-- the quotient of a value that is not negative
pub shr_low : (w x d : ℕ) → x < 2 ^ (w - 1) → x < 2 ^ w → x / d ≡ wrapped w (int_div_euclid (signed_value w x) (pos d))
shr_low w x d low fits =
    let small : x / d < 2 ^ w = omega (arith, div-le_self x d) in
    sym (ap (λ z. wrapped w (int_div_euclid z (pos d))) (signed_value_low w x low) ∙ mod-eq_of_lt small)

-- and of a negative one
pub shr_high : (w x d : ℕ) → 2 ^ (w - 1) ≤ x → x < 2 ^ w →
    2 ^ w - 1 - (2 ^ w - 1 - x) / d ≡ wrapped w (int_div_euclid (signed_value w x) (pos d))
shr_high w x d high fits =
    let small : (2 ^ w - 1 - x) / d < 2 ^ w = omega (arith, div-le_self (2 ^ w - 1 - x) d) in
    sym (ap (λ z. wrapped w (int_div_euclid z (pos d))) (signed_value_negsuc w x high fits)
    ∙ ap (λ m. 2 ^ w - 1 - m) (mod-eq_of_lt small))

-- ---- bounds of the code

pub low_fits : (w x h : ℕ) → 1 ≤ w → w ≤ 128 → h ≡ 2 ^ (w - 1) → x < h → x + h < 2 ^ 128
low_fits w x h some within e low = omega (arith, half_twice w some, pow_le w 128 within)

-- ---- the two readings of one value

pub wrapped_signed_value : (w x : ℕ) → x < 2 ^ w → wrapped w (signed_value w x) ≡ x
wrapped_signed_value w x fits =
    ⊎_elim
    (λ (low : x < 2 ^ (w - 1)). ap (wrapped w) (signed_value_low w x low) ∙ mod-eq_of_lt fits)
    (λ (high : 2 ^ (w - 1) ≤ x).
    let z : (pos x -ℤ pos (2 ^ w)) +ℤ pos (1 * 2 ^ w) ≡ pos x = omega (arith, ints) in
    ap (wrapped w) (signed_value_high w x high) ∙ wrapped_is w (pos x -ℤ pos (2 ^ w)) 1 x z ∙ mod-eq_of_lt fits)
    (cases_lt x (2 ^ (w - 1)))

-- the signed values of w bits are the integers from -2^(w-1) to 2^(w-1) - 1
pub signed_value_range : (w x : ℕ) → 1 ≤ w → x < 2 ^ w →
    ((pos 0 -ℤ pos (2 ^ (w - 1))) ≤ℤ signed_value w x) × (signed_value w x <ℤ pos (2 ^ (w - 1)))
signed_value_range w x some fits =
    let twice : 2 * 2 ^ (w - 1) ≡ 2 ^ w = half_twice w some in
    ⊎_elim
    (λ (low : x < 2 ^ (w - 1)).
    rw (signed_value_low w x low) (omega (arith, ints), omega (arith, ints)))
    (λ (high : 2 ^ (w - 1) ≤ x).
    rw (signed_value_high w x high) (omega (arith, ints), omega (arith, ints)))
    (cases_lt x (2 ^ (w - 1)))

pub signed_value_wrapped : (w : ℕ) (z : ℤ) → 1 ≤ w → (pos 0 -ℤ pos (2 ^ (w - 1))) ≤ℤ z → z <ℤ pos (2 ^ (w - 1)) →
    signed_value w (wrapped w z) ≡ z
signed_value_wrapped w (pos n) some least greatest =
    let low : n < 2 ^ (w - 1) = omega (arith, ints) in
    let fits : n < 2 ^ w = omega (arith, half_twice w some) in
    ap (signed_value w) (mod-eq_of_lt fits) ∙ signed_value_low w n low
signed_value_wrapped w (negsuc n) some least greatest =
    let p = 2 ^ w in
    let twice : 2 * 2 ^ (w - 1) ≡ 2 ^ w = half_twice w some in
    let small : n < 2 ^ (w - 1) = omega (arith, ints) in
    let fits : n < 2 ^ w = omega arith in
    let high : 2 ^ (w - 1) ≤ p - 1 - n = omega arith in
    let below : p - 1 - n < p = omega arith in
    let back : p - 1 - (p - 1 - n) ≡ n = omega arith in
    ap (λ (m : ℕ). signed_value w (p - 1 - m)) (mod-eq_of_lt fits) ∙ signed_value_negsuc w (p - 1 - n) high below ∙ ap negsuc back
