-- Hexadecimal digits, from the highest on.
use Rattle.std.proofs.Common.{◌≡◌, ℕ, zero, suc, ◌+◌, ◌-◌, ◌*◌, ◌/◌, ◌%◌, ◌^◌, ◌<◌, ◌≤◌, false, true, List, [], ◌∷◌, ◌++◌, refl, sym, ap, ◌∙◌, append_assoc, arith}
use Rattle.std.proofs.Math.Nat.{pow-le-pow_right, pow-succ'}
use Rattle.std.proofs.lemmas.Fmt.{hex_one_digit}
use Rattle.std.proofs.lemmas.Nat.{mod_below, div_below}
use Rattle.std.specs.Fmt.{digits, digit_glyph}
use Rattle.std.specs.Prelude.{◌⊎◌, ◌↔◌, Option, None, Some, IsSome, IfSome}
use Rattle.std.proofs.Common.{inl, inr}
use Rattle.std.proofs.lemmas.Bool.{cases_lt}
use Rattle.std.specs.Coded.{le_prop}
use mathlib.Core.HLevel.{is_prop→PathP}
use Rattle.proof_stream.specs.declared.hex_value.HexValue.{HexValue}
use Rattle.proof_stream.specs.HexValues.{hex_value, of_any, of_some, of_few}
use Rattle.proof_stream.specs.Words.{hex_digits}

-- fewer than 32 digits stay below the greatest power
pub power_below : (k : ℕ) → k < 32 → 16 ^ k < 340282366920938463463374607431768211456
power_below k small =
    let most : 16 ^ k ≤ 16 ^ 31 = pow-le-pow_right {n = 16} (omega arith) {i = k} {j = 31} (omega arith) in
    omega arith

pub power_pos : (k : ℕ) → 0 < 16 ^ k
power_pos k = pow-le-pow_right {n = 16} (omega arith) {i = 0} {j = k} (omega arith)

-- the highest digit of a value of one place more is below 16
pub digit_small : (rest places : ℕ) → rest < 16 ^ suc places → rest / 16 ^ places < 16
digit_small rest places small = div_below rest (16 ^ places) 16 (power_pos places) (rw pow-succ' at small)

pub high_digit : (rest places unit : ℕ) → 0 < places → unit ≡ 16 ^ (places - 1) → rest < 16 ^ places → rest / unit < 16
high_digit rest zero unit some is small = absurd (omega arith)
high_digit rest (suc places) unit some is small =
    let less : suc places - 1 ≡ places = omega arith in
    rw (is, less) (digit_small rest places small)

one_digit : (old : List ℕ) (places rest : ℕ) → rest < 16 ^ suc places
    → (old ++ digits 16 false (rest / 16 ^ places)) ++ hex_digits places (rest % 16 ^ places) ≡ old ++ hex_digits (suc places) rest
one_digit old places rest small =
    rw (hex_one_digit false (rest / 16 ^ places) (digit_small rest places small))
    (append_assoc old (digit_glyph false (rest / 16 ^ places) ∷ []) (hex_digits places (rest % 16 ^ places)))

-- a digit that was put behind the text is the first of those that were to come
pub digits_go_on : (old new total : List ℕ) (places rest unit : ℕ) → 0 < places → unit ≡ 16 ^ (places - 1) → rest < 16 ^ places
    → new ≡ old ++ digits 16 false (rest / unit) → old ++ hex_digits places rest ≡ total
    → (new ++ hex_digits (places - 1) (rest % unit) ≡ total) × (rest % unit < 16 ^ (places - 1))
digits_go_on old new total zero rest unit some is small put whole = absurd (omega arith)
digits_go_on old new total (suc places) rest unit some is small put whole =
    let less : suc places - 1 ≡ places = omega arith in
    rw (put, is, less)
    (one_digit old places rest small ∙ whole, mod_below rest (16 ^ places) (power_pos places))

-- one digit more than at most 31
pub step_below : (value index digit : ℕ) → value < 16 ^ index → index < 32 → digit < 16 → 16 * value + digit < 340282366920938463463374607431768211456
step_below value index digit small few one =
    let most : 16 ^ index ≤ 16 ^ 31 = pow-le-pow_right {n = 16} (omega arith) {i = index} {j = 31} (omega arith) in
    omega arith

pub same_fields : (a b : HexValue) → a.digits ≡ b.digits → a.value ≡ b.value → a ≡ b
same_fields a b p q =
    λ i. record {
      digits = p i;
      value = q i;
      some_digit = is_prop→PathP (λ j. 1 ≤ p j) (λ j. le_prop) a.some_digit b.some_digit i;
      at_most = is_prop→PathP (λ j. p j ≤ 32) (λ j. le_prop) a.at_most b.at_most i;
      fits = is_prop→PathP (λ j. q j < 16 ^ p j) (λ j. le_prop) a.fits b.fits i;
    }

few_is : (h : HexValue) (some : 1 ≤ h.digits) (most : h.digits ≤ 32) (c : (h.value < 16 ^ h.digits) ⊎ (16 ^ h.digits ≤ h.value)) → of_few h.digits h.value some most c ≡ Some h
few_is h some most (inl fits) = ap Some (same_fields (record { digits = h.digits; value = h.value; some_digit = some; at_most = most; fits = fits }) h refl refl)
few_is h some most (inr great) = absurd (omega (arith, h.fits))

some_is : (h : HexValue) (some : 1 ≤ h.digits) (c : (32 < h.digits) ⊎ (h.digits ≤ 32)) → of_some h.digits h.value some c ≡ Some h
some_is h some (inl many) = absurd (omega (arith, h.at_most))
some_is h some (inr most) = few_is h some most (cases_lt h.value (16 ^ h.digits))

any_is : (h : HexValue) (c : (h.digits < 1) ⊎ (1 ≤ h.digits)) → of_any h.digits h.value c ≡ Some h
any_is h (inl none) = absurd (omega (arith, h.some_digit))
any_is h (inr some) = some_is h some (cases_lt 32 h.digits)

-- a value is that of its digits
pub hex_value_is : (h : HexValue) → hex_value h.digits h.value ≡ Some h
unfolding hex_value
hex_value_is h = any_is h (cases_lt h.digits 1)

few_none : (digits value : ℕ) (some : 1 ≤ digits) (most : digits ≤ 32) (c : (value < 16 ^ digits) ⊎ (16 ^ digits ≤ value)) → ¬ (value < 16 ^ digits) → None ≡ of_few digits value some most c
few_none digits value some most (inl fits) not = absurd (not fits)
few_none digits value some most (inr great) not = refl

some_none : (digits value : ℕ) (some : 1 ≤ digits) (c : (32 < digits) ⊎ (digits ≤ 32)) → ¬ ((1 ≤ digits) × (digits ≤ 32) × (value < 16 ^ digits)) → None ≡ of_some digits value some c
some_none digits value some (inl many) not = refl
some_none digits value some (inr most) not = few_none digits value some most (cases_lt value (16 ^ digits)) (λ fits. not (some, most, fits))

any_none : (digits value : ℕ) (c : (digits < 1) ⊎ (1 ≤ digits)) → ¬ ((1 ≤ digits) × (digits ≤ 32) × (value < 16 ^ digits)) → None ≡ of_any digits value c
any_none digits value (inl none) not = refl
any_none digits value (inr some) not = some_none digits value some (cases_lt 32 digits) not

-- what the constructor gives is the value of the digits, or nothing
pub is_hex_value : (places value : ℕ) (o : Option HexValue) → IsSome o ↔ ((1 ≤ places) × (places ≤ 32) × (value < 16 ^ places))
    → IfSome o (λ h. h.digits ≡ places) → IfSome o (λ h. h.value ≡ value) → o ≡ hex_value places value
unfolding hex_value
is_hex_value places value (Some h) some same_digits same_value = sym (rw (← same_digits, ← same_value) (hex_value_is h))
is_hex_value places value None some same_digits same_value = any_none places value (cases_lt places 1) (λ all. let no : false ≡ true = some.1 all in cc)
