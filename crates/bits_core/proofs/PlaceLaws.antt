-- The bit at a place of what moves bits, or turns them round: shifts, cuts, slices, extensions, joins, negation bit by bit.
use Rattle.std.proofs.Common.{◌≡◌, ℕ, zero, suc, ◌+◌, ◌-◌, ◌*◌, ◌/◌, ◌%◌, ◌^◌, ◌<◌, ◌≤◌, min, sym, ap, ◌∙◌, arith, ⊎_elim}
use Rattle.std.specs.Prelude.{pos, true, false, nat_lt, if◌then◌else◌}
use Rattle.std.specs.Int.{bit_at, int_div_euclid}
use Rattle.std.proofs.Math.Nat.{pow-succ', div-le_self}
use Rattle.std.proofs.lemmas.Bool.{cases_lt, cond-true, cond-false, lt-ltb, le-ltb}
use Rattle.std.proofs.lemmas.Nat.{pow_pos, shr-shr, shr_split, mod_below, le-div, div_below}
use Rattle.std.proofs.lemmas.Nat.Bits.{bit_at_lowest, bit_at-suc, bit_at-zero, bit_at_above, bit_at_cat_low, bit_at_cat_high}
use Rattle.bits_core.specs.declared.operator.Op.TheVariants.{Not, Shl, ShrU, ShrS, Cat}
use Rattle.bits_core.specs.Number.{signed_value, wrapped, slice_value, extend_value}
use Rattle.bits_core.specs.Operator.{operator_value}
use Rattle.bits_core.proofs.ShifterLaws.{shl_min, shr_min}
use Rattle.bits_core.proofs.SignLaws.{half_twice, shr_low, shr_high, signed_value_low, signed_value_negsuc}

-- ---- numbers

pub bit_at_shr : (x low i : ℕ) → bit_at (x / 2 ^ low) i ≡ bit_at x (low + i)
bit_at_shr x low i = ap (λ (n : ℕ). n % 2) (shr-shr x low i)

pub bit_at_mod : (x n i : ℕ) → i < n → bit_at (x % 2 ^ n) i ≡ bit_at x i
bit_at_mod x n i within =
    sym (bit_at_cat_low (x / 2 ^ n) n (x % 2 ^ n) i within) ∙ ap (λ (m : ℕ). bit_at m i) (shr_split x n)

-- all bits turned round
pub bit_at_turned : (w x i : ℕ) → x < 2 ^ w → i < w → bit_at (2 ^ w - 1 - x) i ≡ 1 - bit_at x i
bit_at_turned zero x i fits within = absurd (omega arith)
bit_at_turned (suc w) x zero fits within =
    omega (arith, pow-succ' 2 w, bit_at_lowest x, bit_at_lowest (2 ^ suc w - 1 - x))
bit_at_turned (suc w) x (suc i) fits within =
    let half : (2 ^ suc w - 1 - x) / 2 ≡ 2 ^ w - 1 - x / 2 = omega (arith, pow-succ' 2 w) in
    let low : x / 2 < 2 ^ w = omega (arith, pow-succ' 2 w) in
    bit_at-suc (2 ^ suc w - 1 - x) i ∙ ap (λ (n : ℕ). bit_at n i) half ∙ bit_at_turned w (x / 2) i low (omega arith)
    ∙ ap (λ (n : ℕ). 1 - n) (sym (bit_at-suc x i))

-- ---- the sign bit

pub bit_at_sign_low : (w x : ℕ) → x < 2 ^ (w - 1) → bit_at x (w - 1) ≡ 0
bit_at_sign_low w x low = bit_at_above x (w - 1) (w - 1) low (omega arith)

pub bit_at_sign_high : (w x : ℕ) → 1 ≤ w → 2 ^ (w - 1) ≤ x → x < 2 ^ w → bit_at x (w - 1) ≡ 1
bit_at_sign_high w x some high fits =
    let twice : 2 * 2 ^ (w - 1) ≡ 2 ^ w = half_twice w some in
    let least : 1 ≤ x / 2 ^ (w - 1) = le-div 1 x (2 ^ (w - 1)) (pow_pos (w - 1)) (omega arith) in
    let most : x / 2 ^ (w - 1) < 2 = div_below x (2 ^ (w - 1)) 2 (pow_pos (w - 1)) (omega arith) in
    omega arith

-- from the sign bit on, a number of w bits may be read as copies of it
copies_of_zero : (w x i : ℕ) → x < 2 ^ (w - 1) → bit_at x i ≡ bit_at x (min i (w - 1))
copies_of_zero w x i low =
    ⊎_elim
    (λ (below : i < w). let least : min i (w - 1) ≡ i = omega arith in ap (bit_at x) (sym least))
    (λ (above : w ≤ i).
    let least : min i (w - 1) ≡ w - 1 = omega arith in
    bit_at_above x (w - 1) i low (omega arith) ∙ sym (bit_at_sign_low w x low) ∙ ap (bit_at x) (sym least))
    (cases_lt i w)

copies_of_one : (w x i : ℕ) → 1 ≤ w → 2 ^ (w - 1) ≤ x → x < 2 ^ w → 1 - bit_at (2 ^ w - 1 - x) i ≡ bit_at x (min i (w - 1))
copies_of_one w x i some high fits =
    ⊎_elim
    (λ (below : i < w).
    let least : min i (w - 1) ≡ i = omega arith in
    ap (λ (b : ℕ). 1 - b) (bit_at_turned w x i fits below) ∙ twice_turned x i ∙ ap (bit_at x) (sym least))
    (λ (above : w ≤ i).
    let least : min i (w - 1) ≡ w - 1 = omega arith in
    let rest : 2 ^ w - 1 - x < 2 ^ w = omega (arith, pow_pos w) in
    ap (λ (b : ℕ). 1 - b) (bit_at_above (2 ^ w - 1 - x) w i rest above) ∙ sym (bit_at_sign_high w x some high fits)
    ∙ ap (bit_at x) (sym least))
    (cases_lt i w)
  where
    twice_turned : (x i : ℕ) → 1 - (1 - bit_at x i) ≡ bit_at x i
    twice_turned x i = omega arith

-- ---- operators that move bits

pub bit_at_slice_value : (x high low i : ℕ) → i < high - low + 1 → bit_at (slice_value x high low) i ≡ bit_at x (low + i)
bit_at_slice_value x high low i within = bit_at_mod (x / 2 ^ low) (high - low + 1) i within ∙ bit_at_shr x low i

pub bit_at_extend_value_unsigned : (w x width i : ℕ) → i < width → bit_at (extend_value false w x width) i ≡ bit_at x i
bit_at_extend_value_unsigned w x width i within = bit_at_mod x width i within

pub bit_at_extend_value_signed : (w x width i : ℕ) → 1 ≤ w → x < 2 ^ w → i < width →
    bit_at (extend_value true w x width) i ≡ bit_at x (min i (w - 1))
bit_at_extend_value_signed w x width i some fits within =
    ⊎_elim
    (λ (low : x < 2 ^ (w - 1)).
    ap (λ z. bit_at (wrapped width z) i) (signed_value_low w x low)
    ∙ bit_at_mod x width i within ∙ copies_of_zero w x i low)
    (λ (high : 2 ^ (w - 1) ≤ x).
    let rest = 2 ^ w - 1 - x in
    ap (λ z. bit_at (wrapped width z) i) (signed_value_negsuc w x high fits)
    ∙ bit_at_turned width (rest % 2 ^ width) i (mod_below rest (2 ^ width) (pow_pos width)) within
    ∙ ap (λ (b : ℕ). 1 - b) (bit_at_mod rest width i within) ∙ copies_of_one w x i some high fits)
    (cases_lt x (2 ^ (w - 1)))

pub bit_at_shr_signed : (w x m i : ℕ) → 1 ≤ w → x < 2 ^ w → i < w →
    bit_at (wrapped w (int_div_euclid (signed_value w x) (pos (2 ^ m)))) i ≡ bit_at x (min (m + i) (w - 1))
bit_at_shr_signed w x m i some fits within =
    ⊎_elim
    (λ (low : x < 2 ^ (w - 1)).
    ap (λ (n : ℕ). bit_at n i) (sym (shr_low w x (2 ^ m) low fits))
    ∙ bit_at_shr x m i ∙ copies_of_zero w x (m + i) low)
    (λ (high : 2 ^ (w - 1) ≤ x).
    let rest = 2 ^ w - 1 - x in
    let small : rest / 2 ^ m < 2 ^ w = omega (arith, div-le_self rest (2 ^ m), pow_pos w) in
    ap (λ (n : ℕ). bit_at n i) (sym (shr_high w x (2 ^ m) high fits))
    ∙ bit_at_turned w (rest / 2 ^ m) i small within
    ∙ ap (λ (b : ℕ). 1 - b) (bit_at_shr rest m i) ∙ copies_of_one w x (m + i) some high fits)
    (cases_lt x (2 ^ (w - 1)))

-- a place past the number's bits stands for the zeros that come in
pub bit_at_shl : (w x m i : ℕ) → x < 2 ^ w → i < w → bit_at (x * 2 ^ m % 2 ^ w) i ≡ bit_at x (if nat_lt i m then w else (i - m))
bit_at_shl w x m i fits within =
    bit_at_mod (x * 2 ^ m) w i within
    ∙ ap (λ (n : ℕ). bit_at n i) (sym (nothing_more (x * 2 ^ m)))
    ∙ ⊎_elim
    (λ (below : i < m).
    bit_at_cat_low x m 0 i below ∙ bit_at-zero i ∙ sym (bit_at_above x w w fits (omega arith))
    ∙ ap (bit_at x) (sym (cond-true (nat_lt i m) w (i - m) (lt-ltb i m below))))
    (λ (above : m ≤ i).
    bit_at_cat_high x m 0 i (pow_pos m) above
    ∙ ap (bit_at x) (sym (cond-false (nat_lt i m) w (i - m) (le-ltb i m above))))
    (cases_lt i m)
  where
    nothing_more : (n : ℕ) → n + 0 ≡ n
    nothing_more n = omega arith

-- a cut leaves no bit above it
pub bit_at_mod_above : (x n i : ℕ) → n ≤ i → bit_at (x % 2 ^ n) i ≡ 0
bit_at_mod_above x n i above = bit_at_above (x % 2 ^ n) n i (mod_below x (2 ^ n) (pow_pos n)) above

-- ---- the same of the rows, by the names of their functions; those of `and`, `or` and `xor` are the standard library's

pub bit_at_not : (w x v y i : ℕ) → x < 2 ^ w → i < w → bit_at (operator_value Not w x v y) i ≡ 1 - bit_at x i
bit_at_not w x v y i fits within = bit_at_turned w x i fits within

pub bit_at_shift_left : (w x v y i : ℕ) → i < w → bit_at (operator_value Shl w x v y) i ≡ (if nat_lt i y then 0 else bit_at x (i - y))
bit_at_shift_left w x v y i within =
    ap (λ (n : ℕ). bit_at n i) (shl_min x w y)
    ∙ bit_at_mod (x * 2 ^ y) w i within
    ∙ ap (λ (n : ℕ). bit_at n i) (nothing_more (x * 2 ^ y))
    ∙ ⊎_elim
    (λ (below : i < y).
    bit_at_cat_low x y 0 i below ∙ bit_at-zero i ∙ sym (cond-true (nat_lt i y) 0 (bit_at x (i - y)) (lt-ltb i y below)))
    (λ (above : y ≤ i).
    bit_at_cat_high x y 0 i (pow_pos y) above ∙ sym (cond-false (nat_lt i y) 0 (bit_at x (i - y)) (le-ltb i y above)))
    (cases_lt i y)
  where
    nothing_more : (n : ℕ) → n ≡ n + 0
    nothing_more n = omega arith

pub bit_at_shift_right_unsigned : (w x v y i : ℕ) → x < 2 ^ w → bit_at (operator_value ShrU w x v y) i ≡ bit_at x (y + i)
bit_at_shift_right_unsigned w x v y i fits = ap (λ (n : ℕ). bit_at n i) (shr_min x w y fits) ∙ bit_at_shr x y i

pub bit_at_shift_right_signed : (w x v y i : ℕ) → 1 ≤ w → x < 2 ^ w → i < w →
    bit_at (operator_value ShrS w x v y) i ≡ bit_at x (min (y + i) (w - 1))
bit_at_shift_right_signed w x v y i some fits within =
    let least : min (min y w + i) (w - 1) ≡ min (y + i) (w - 1) = omega arith in
    bit_at_shr_signed w x (min y w) i some fits within ∙ ap (bit_at x) least

pub bit_at_concatenate_low : (w x v y i : ℕ) → i < v → bit_at (operator_value Cat w x v y) i ≡ bit_at y i
bit_at_concatenate_low w x v y i below = bit_at_cat_low x v y i below

pub bit_at_concatenate_high : (w x v y i : ℕ) → y < 2 ^ v → v ≤ i → bit_at (operator_value Cat w x v y) i ≡ bit_at x (i - v)
bit_at_concatenate_high w x v y i fits above = bit_at_cat_high x v y i fits above
