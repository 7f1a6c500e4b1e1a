-- The number that digits give.
use Rattle.std.proofs.Common.{◌≡◌, ℕ, ◌+◌, ◌*◌, ◌<◌, ◌≤◌, Bool, true, false, List, [], ◌∷◌, arith, if◌then◌else◌, ◌==◌, length, drop, get_or, sym, ap, ◌∙◌, add-one, refl, ◌^◌, None}
use Rattle.std.proofs.Math.Nat.{mul-le-mul_right}
use Rattle.std.proofs.Math.Seq.{drop-cons}
use Rattle.p4_lexer.specs.Bytes.{underscore}
use Rattle.p4_lexer.specs.Digits.{digit_value, with_digit, value_from}
use Rattle.p4_lexer.specs.Lengths.{is_width, width_by}

grown : (b : Bool) (base high d : ℕ) → 1 ≤ base → high ≤ (if b then high else base * high + d)
grown true base high d some = omega arith
grown false base high d some = omega (arith, mul-le-mul_right high some)

-- more digits make no number smaller
pub value_from_grows : (base : ℕ) (digits : List ℕ) (high : ℕ) → 1 ≤ base → high ≤ value_from base high digits
value_from_grows base [] high some = omega arith
value_from_grows base (c ∷ digits) high some = omega (arith, grown (c == underscore) base high (digit_value c) some, value_from_grows base digits (with_digit base high c) some)

-- a number past the greatest width is none
too_wide : (n : ℕ) → 128 < n → false ≡ is_width n
too_wide n past = grind arith

pub wide_front : (digits : List ℕ) (n high : ℕ) → n ≡ value_from 10 high digits → 128 < high → false ≡ is_width n
wide_front digits n high e past = too_wide n (omega (arith, value_from_grows 10 digits high (omega arith)))

-- the number of all digits from that of the first ones, with one more of them
pub next_value : (base : ℕ) (digits : List ℕ) (i n high value : ℕ) → i < length digits → n ≡ value_from base high (drop i digits) → value ≡ with_digit base high (get_or digits i 0) → n ≡ value_from base value (drop (i + 1) digits)
next_value base digits i n high value below e f =
    let d : drop i digits ≡ get_or digits i 0 ∷ drop (i + 1) digits = rw (add-one, drop-cons digits i 0) in
    e ∙ ap (value_from base high) d ∙ ap (λ v. value_from base v (drop (i + 1) digits)) (sym f)

-- a number whose first digits give too much is too large
pub large_front : (base : ℕ) (digits : List ℕ) (i n high most : ℕ) → 1 ≤ base → i < length digits → n ≡ value_from base high (drop i digits) → most ≤ with_digit base high (get_or digits i 0) → most ≤ n
large_front base digits i n high most some below e past =
    omega (arith, next_value base digits i n high (with_digit base high (get_or digits i 0)) below e refl, value_from_grows base (drop (i + 1) digits) (with_digit base high (get_or digits i 0)) some)

-- and gives no width
pub large_width : (n : ℕ) → 2 ^ 128 ≤ n → None ≡ width_by n
large_width n past = let wide : false ≡ is_width n = too_wide n (omega arith) in rw (← wide) refl
