-- Slices, joins and extensions of numbers. A slice a[high:low] has its ends among its bits.
use Rattle.std.proofs.Common.{◌≡◌, ℕ, ◌+◌, ◌-◌, ◌*◌, ◌/◌, ◌%◌, ◌^◌, ◌<◌, ◌≤◌, Bool, true, false, refl, sym, ap, ◌∙◌, arith}
use Rattle.std.specs.Prelude.{pos}
use Rattle.std.proofs.Math.Nat.{mod-eq_of_lt}
use Rattle.std.proofs.lemmas.Nat.{mod-pow-add, field_of, shr-shr, mod_low, shr_high}
use Rattle.std.proofs.lemmas.Int.{ints}
use Rattle.bits_core.specs.declared.operator.Op.TheVariants.{Cat}
use Rattle.bits_core.specs.Number.{signed_value, slice_value, extend_value}
use Rattle.bits_core.specs.Operator.{operator_value}
use Rattle.bits_core.proofs.SignLaws.{wrapped_signed_value, signed_value_range, signed_value_wrapped}
use Rattle.bits_core.proofs.WidthLaws.{mod_mod_wider, mod_wrapped, wrapped_below, pow_le}

-- the whole of a value
pub slice_value_whole : (w x : ℕ) → 1 ≤ w → x < 2 ^ w → slice_value x (w - 1) 0 ≡ x
slice_value_whole w x some fits =
    let width : w - 1 - 0 + 1 ≡ w = omega arith in
    let start : x / 2 ^ 0 ≡ x = omega arith in
    ap (λ (n : ℕ). x / 2 ^ 0 % 2 ^ n) width ∙ ap (λ (n : ℕ). n % 2 ^ w) start ∙ mod-eq_of_lt fits

-- neighbouring slices join to the slice of both
pub cat_slices : (x high middle low : ℕ) → low ≤ middle → middle < high →
    operator_value Cat (high - middle) (slice_value x high (middle + 1)) (middle - low + 1) (slice_value x middle low) ≡ slice_value x high low
cat_slices x high middle low p q =
    let n = x / 2 ^ low in
    let a = middle - low + 1 in
    let b = high - middle in
    let first : low + a ≡ middle + 1 = omega arith in
    let upper : high - (middle + 1) + 1 ≡ b = omega arith in
    let both : b + a ≡ high - low + 1 = omega arith in
    ap (λ (m : ℕ). (x / 2 ^ (middle + 1) % 2 ^ m) * 2 ^ a + n % 2 ^ a) upper
    ∙ ap (λ (m : ℕ). (x / 2 ^ m % 2 ^ b) * 2 ^ a + n % 2 ^ a) (sym first)
    ∙ ap (λ (m : ℕ). (m % 2 ^ b) * 2 ^ a + n % 2 ^ a) (sym (shr-shr x low a))
    ∙ sym (mod-pow-add n b a)
    ∙ ap (λ (m : ℕ). n % 2 ^ m) both

-- a value is the join of its two slices at any place
pub cat_slices_whole : (w x place : ℕ) → 1 ≤ place → place < w → x < 2 ^ w →
    operator_value Cat (w - place) (slice_value x (w - 1) place) place (slice_value x (place - 1) 0) ≡ x
cat_slices_whole w x place some within fits =
    let back : place - 1 + 1 ≡ place = omega arith in
    let lower : place - 1 - 0 + 1 ≡ place = omega arith in
    ap (λ (m : ℕ). slice_value x (w - 1) place * 2 ^ m + slice_value x (place - 1) 0) (sym lower)
    ∙ ap (λ (m : ℕ). slice_value x (w - 1) m * 2 ^ (place - 1 - 0 + 1) + slice_value x (place - 1) 0) (sym back)
    ∙ cat_slices x (w - 1) (place - 1) 0 (omega arith) (omega arith)
    ∙ slice_value_whole w x (omega arith) fits

-- ---- a slice of a join

-- a slice is that of the value cut above it
slice_value_cut : (x high low : ℕ) → low ≤ high → slice_value x high low ≡ x % 2 ^ (high + 1) / 2 ^ low
slice_value_cut x high low ordered =
    let whole : high - low + 1 + low ≡ high + 1 = omega arith in
    sym (field_of x (high - low + 1) low) ∙ ap (λ (m : ℕ). x % 2 ^ m / 2 ^ low) whole

cat_mod : (x v y m : ℕ) → y < 2 ^ v → m ≤ v → (x * 2 ^ v + y) % 2 ^ m ≡ y % 2 ^ m
cat_mod x v y m fits within =
    sym (mod_mod_wider (x * 2 ^ v + y) m v within) ∙ ap (λ (n : ℕ). n % 2 ^ m) (mod_low x v y fits)

pub slice_value_cat_low : (w x v y high low : ℕ) → y < 2 ^ v → low ≤ high → high < v →
    slice_value (operator_value Cat w x v y) high low ≡ slice_value y high low
slice_value_cat_low w x v y high low fits ordered within =
    slice_value_cut (x * 2 ^ v + y) high low ordered
    ∙ ap (λ (n : ℕ). n / 2 ^ low) (cat_mod x v y (high + 1) fits (omega arith))
    ∙ sym (slice_value_cut y high low ordered)

pub slice_value_cat_high : (w x v y high low : ℕ) → y < 2 ^ v → low ≤ high → v ≤ low →
    slice_value (operator_value Cat w x v y) high low ≡ slice_value x (high - v) (low - v)
slice_value_cat_high w x v y high low fits ordered above =
    let start : v + (low - v) ≡ low = omega arith in
    let width : high - low + 1 ≡ high - v - (low - v) + 1 = omega arith in
    ap (λ (m : ℕ). (x * 2 ^ v + y) / 2 ^ m % 2 ^ (high - low + 1)) (sym start)
    ∙ ap (λ (n : ℕ). n % 2 ^ (high - low + 1)) (sym (shr-shr (x * 2 ^ v + y) v (low - v)))
    ∙ ap (λ (n : ℕ). n / 2 ^ (low - v) % 2 ^ (high - low + 1)) (shr_high x v y fits)
    ∙ ap (λ (m : ℕ). x / 2 ^ (low - v) % 2 ^ m) width

pub slice_value_cat_across : (w x v y high low : ℕ) → y < 2 ^ v → low < v → v ≤ high →
    slice_value (operator_value Cat w x v y) high low
    ≡ operator_value Cat (high + 1 - v) (slice_value x (high - v) 0) (v - low) (slice_value y (v - 1) low)
slice_value_cat_across w x v y high low fits below above =
    let n = operator_value Cat w x v y in
    let next : v - 1 + 1 ≡ v = omega arith in
    let width : v - 1 - low + 1 ≡ v - low = omega arith in
    let start : v - v ≡ 0 = omega arith in
    sym (cat_slices n high (v - 1) low (omega arith) (omega arith))
    ∙ ap (λ (m : ℕ). slice_value n high m * 2 ^ (v - 1 - low + 1) + slice_value n (v - 1) low) next
    ∙ ap (λ (m : ℕ). slice_value n high v * 2 ^ m + slice_value n (v - 1) low) width
    ∙ ap (λ (m : ℕ). m * 2 ^ (v - low) + slice_value n (v - 1) low)
    (slice_value_cat_high w x v y high v fits above (omega arith) ∙ ap (λ (m : ℕ). slice_value x (high - v) m) start)
    ∙ ap (λ (m : ℕ). slice_value x (high - v) 0 * 2 ^ (v - low) + m) (slice_value_cat_low w x v y (v - 1) low fits (omega arith) (omega arith))

-- a slice of a slice
pub slice_value_slice_value : (x high low top bottom : ℕ) → bottom ≤ top → top ≤ high - low →
    slice_value (slice_value x high low) top bottom ≡ slice_value x (low + top) (low + bottom)
slice_value_slice_value x high low top bottom ordered within =
    let outer : high - low + 1 ≡ high - low + 1 - bottom + bottom = omega arith in
    let width : top - bottom + 1 ≡ low + top - (low + bottom) + 1 = omega arith in
    ap (λ (m : ℕ). x / 2 ^ low % 2 ^ m / 2 ^ bottom % 2 ^ (top - bottom + 1)) outer
    ∙ ap (λ (n : ℕ). n % 2 ^ (top - bottom + 1)) (field_of (x / 2 ^ low) (high - low + 1 - bottom) bottom)
    ∙ mod_mod_wider (x / 2 ^ low / 2 ^ bottom) (top - bottom + 1) (high - low + 1 - bottom) (omega arith)
    ∙ ap (λ (n : ℕ). n % 2 ^ (top - bottom + 1)) (shr-shr x low bottom)
    ∙ ap (λ (m : ℕ). x / 2 ^ (low + bottom) % 2 ^ m) width

-- ---- extension

-- a cut is the same whatever the sign
pub extend_value_cut : (signed : Bool) (w x width : ℕ) → width ≤ w → x < 2 ^ w → extend_value signed w x width ≡ x % 2 ^ width
extend_value_cut false w x width within fits = refl
extend_value_cut true w x width within fits =
    sym (mod_wrapped w width (signed_value w x) within) ∙ ap (λ (n : ℕ). n % 2 ^ width) (wrapped_signed_value w x fits)

extend_value_below : (signed : Bool) (w x width : ℕ) → extend_value signed w x width < 2 ^ width
extend_value_below true w x width = wrapped_below width (signed_value w x)
extend_value_below false w x width = wrapped_below width (pos x)

extend_value_mod : (signed : Bool) (w x width : ℕ) → w ≤ width → x < 2 ^ w → extend_value signed w x width % 2 ^ w ≡ x
extend_value_mod true w x width within fits = mod_wrapped width w (signed_value w x) within ∙ wrapped_signed_value w x fits
extend_value_mod false w x width within fits = mod_wrapped width w (pos x) within ∙ mod-eq_of_lt fits

-- what is widened and cut again is what it was
pub extend_value_extend_value : (signed again : Bool) (w x width : ℕ) → w ≤ width → x < 2 ^ w →
    extend_value again width (extend_value signed w x width) w ≡ x
extend_value_extend_value signed again w x width within fits =
    extend_value_cut again width (extend_value signed w x width) w within (extend_value_below signed w x width)
    ∙ extend_value_mod signed w x width within fits

-- widening by zeros keeps the number, widening by the sign bit keeps the signed value
pub extend_value_unsigned : (w x width : ℕ) → w ≤ width → x < 2 ^ w → extend_value false w x width ≡ x
extend_value_unsigned w x width within fits = mod-eq_of_lt (omega (arith, pow_le w width within))

pub signed_value_extend_value : (w x width : ℕ) → 1 ≤ w → w ≤ width → x < 2 ^ w →
    signed_value width (extend_value true w x width) ≡ signed_value w x
signed_value_extend_value w x width some within fits =
    let half : 2 ^ (w - 1) ≤ 2 ^ (width - 1) = pow_le (w - 1) (width - 1) (omega arith) in
    let range = signed_value_range w x some fits in
    signed_value_wrapped width (signed_value w x) (omega arith) (omega (arith, ints, range.0)) (omega (arith, ints, range.1))
