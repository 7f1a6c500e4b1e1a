-- For a shift-and-add multiplier.
use Rattle.std.proofs.Common.{◌≡◌, ℕ, ◌+◌, ◌*◌, ◌%◌, ◌^◌, ◌<◌, Bool, true, false, List, [], ◌∷◌, ◌++◌, length, replicate, refl, sym, ap, ◌∙◌, subst, arith}
use Rattle.std.specs.Prelude.{map, ◌&&◌}
use Rattle.std.proofs.Math.Nat.{mod-eq_of_lt, mod-add-mod, add-mod-mod}
use Rattle.std.proofs.lemmas.List.{length-map, length-replicate, length-take-le, length-append}
use Rattle.std.proofs.lemmas.Nat.{mul-mod_first}
use Rattle.bits_core.specs.declared.operator.Op.TheVariants.{Mul}
use Rattle.bits_core.specs.BitList.{bit_value, number_of}
use Rattle.bits_core.specs.Circuit.{ripple_sum, shifted_left, shift_and_add}
use Rattle.bits_core.specs.Operator.{operator_value}
use Rattle.bits_core.proofs.AdderLaws.{number_of_ripple_sum, length_ripple_sum}
use Rattle.bits_core.proofs.BitListLaws.{number_of_append, number_of_below, number_of_take, number_of_zeros}

-- ---- a shift by a fixed number of places

pub length_shifted_left : (n : ℕ) (xs : List Bool) → length (shifted_left n xs) ≡ length xs
length_shifted_left n xs = length-take-le (length xs) (replicate n false ++ xs) (omega (arith, length-append (replicate n false) xs))

pub number_of_shifted_left : (n : ℕ) (xs : List Bool) → number_of (shifted_left n xs) ≡ (number_of xs * 2 ^ n) % 2 ^ length xs
number_of_shifted_left n xs =
    let above : number_of (replicate n false ++ xs) ≡ number_of xs * 2 ^ n =
    number_of_append (replicate n false) xs
    ∙ ap (λ (m : ℕ). number_of xs * 2 ^ m + number_of (replicate n false)) (length-replicate n false)
    ∙ omega (arith, number_of_zeros n) in
    number_of_take (length xs) (replicate n false ++ xs) ∙ ap (λ (m : ℕ). m % 2 ^ length xs) above

-- ---- a partial product

pub number_of_gated : (y : Bool) (xs : List Bool) → number_of (map (λ x. y && x) xs) ≡ bit_value y * number_of xs
number_of_gated true [] = refl
number_of_gated true (x ∷ xs) = omega (arith, number_of_gated true xs)
number_of_gated false [] = refl
number_of_gated false (x ∷ xs) = omega (arith, number_of_gated false xs)

-- ---- the product

product_step : (s b x y m : ℕ) → ((s + b * x + 0) % m + (x * 2 % m) * y) % m ≡ (s + x * (b + 2 * y)) % m
product_step s b x y m =
    let first : ((s + b * x + 0) % m + (x * 2 % m) * y) % m ≡ (s + b * x + 0 + (x * 2 % m) * y) % m = mod-add-mod (s + b * x + 0) m ((x * 2 % m) * y) in
    let second : (s + b * x + 0 + (x * 2 % m) * y) % m ≡ (s + b * x + 0 + (x * 2 * y) % m) % m =
    sym (add-mod-mod (s + b * x + 0) ((x * 2 % m) * y) m) ∙ ap (λ (n : ℕ). (s + b * x + 0 + n) % m) (mul-mod_first (x * 2) y m) in
    let third : (s + b * x + 0 + (x * 2 * y) % m) % m ≡ (s + b * x + 0 + x * 2 * y) % m = add-mod-mod (s + b * x + 0) (x * 2 * y) m in
    let same : s + b * x + 0 + x * 2 * y ≡ s + x * (b + 2 * y) = omega arith in
    first ∙ second ∙ third ∙ ap (λ (n : ℕ). n % m) same

pub number_of_shift_and_add : (sum xs ys : List Bool) → length sum ≡ length xs →
    number_of (shift_and_add sum xs ys) ≡ (number_of sum + number_of xs * number_of ys) % 2 ^ length xs
number_of_shift_and_add sum xs [] e =
    let below : number_of sum + number_of xs * 0 < 2 ^ length xs = subst (λ (w : ℕ). number_of sum + number_of xs * 0 < 2 ^ w) e (omega (arith, number_of_below sum)) in
    sym (mod-eq_of_lt below ∙ omega arith)
number_of_shift_and_add sum xs (y ∷ ys) e =
    let gated = map (λ x. y && x) xs in
    let lengths : length sum ≡ length gated = e ∙ sym (length-map xs (λ x. y && x)) in
    let added : number_of (ripple_sum sum gated false) ≡ (number_of sum + bit_value y * number_of xs + 0) % 2 ^ length xs =
    number_of_ripple_sum sum gated false lengths
    ∙ ap (λ (w : ℕ). (number_of sum + number_of gated + 0) % 2 ^ w) e
    ∙ ap (λ (n : ℕ). (number_of sum + n + 0) % 2 ^ length xs) (number_of_gated y xs) in
    let kept : length (ripple_sum sum gated false) ≡ length (shifted_left 1 xs) = length_ripple_sum sum gated false lengths ∙ e ∙ sym (length_shifted_left 1 xs) in
    number_of_shift_and_add (ripple_sum sum gated false) (shifted_left 1 xs) ys kept
    ∙ ap (λ (w : ℕ). (number_of (ripple_sum sum gated false) + number_of (shifted_left 1 xs) * number_of ys) % 2 ^ w) (length_shifted_left 1 xs)
    ∙ ap (λ (n : ℕ). (n + number_of (shifted_left 1 xs) * number_of ys) % 2 ^ length xs) added
    ∙ ap (λ (n : ℕ). ((number_of sum + bit_value y * number_of xs + 0) % 2 ^ length xs + n * number_of ys) % 2 ^ length xs) (number_of_shifted_left 1 xs)
    ∙ product_step (number_of sum) (bit_value y) (number_of xs) (number_of ys) (2 ^ length xs)

pub multiply_by_shifts : (xs ys : List Bool) →
    number_of (shift_and_add (replicate (length xs) false) xs ys) ≡ operator_value Mul (length xs) (number_of xs) (length ys) (number_of ys)
multiply_by_shifts xs ys =
    number_of_shift_and_add (replicate (length xs) false) xs ys (length-replicate (length xs) false)
    ∙ ap (λ (n : ℕ). (n + number_of xs * number_of ys) % 2 ^ length xs) (number_of_zeros (length xs))
    ∙ ap (λ (n : ℕ). n % 2 ^ length xs) (omega arith)
