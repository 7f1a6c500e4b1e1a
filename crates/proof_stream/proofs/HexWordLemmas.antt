-- A hexadecimal value is read from its word alone.
use Rattle.std.proofs.Common.{◌≡◌, ℕ, zero, suc, ◌+◌, ◌-◌, ◌*◌, ◌/◌, ◌%◌, ◌^◌, ◌<◌, ◌≤◌, true, false, ◌&&◌, List, [], ◌∷◌, ◌++◌, length, map, refl, sym, ap, ◌∙◌, subst, append_assoc, arith, inl, inr}
use Rattle.std.specs.Prelude.{None, Some, ◌==◌, ◌⊎◌, nat_lt}
use Rattle.std.specs.Char.{is_ascii_digit}
use Rattle.std.specs.Fmt.{digit_glyph}
use Rattle.std.proofs.Math.Nat.{pow-succ'}
use Rattle.std.proofs.lemmas.Bool.{cases_Bool, cases_lt, and_parts, eqb-true}
use Rattle.std.proofs.lemmas.Bool.Decides.{nat_tests}
use Rattle.std.proofs.lemmas.List.{append-nil}
use Rattle.std.proofs.lemmas.Nat.{div-mul-add, mod-mul-add, div-add-mod', mod_below}
use Rattle.proof_stream.specs.declared.hex_value.HexValue.{HexValue}
use Rattle.proof_stream.specs.HexValues.{hex_value, of_any, of_some, of_few}
use Rattle.proof_stream.specs.Reading.{hex_digit_of, hex_from, hex_of_digits, hex_of, values_onto}
use Rattle.proof_stream.specs.Words.{Word, hex_digits, hex_word}
use Rattle.proof_stream.proofs.HexLemmas.{power_pos, digit_small, hex_value_is}
use Rattle.proof_stream.proofs.NumberLemmas.{some_is, bind_some}

digit_is : (c d : ℕ) → hex_digit_of c ≡ Some d → (c ≡ digit_glyph false d) × (d < 16)
digit_is c d e =
    elim (cases_Bool (is_ascii_digit c)) [
      | inl decimal ↦
          let same : c - 48 ≡ d = some_is (c - 48) d (rw decimal at e) in
          let glyph : c ≡ digit_glyph false (c - 48) = grind (arith, nat_tests) in
          subst (λ x. (c ≡ digit_glyph false x) × (x < 16)) same (glyph, grind (arith, nat_tests))
      | inr other ↦
          elim (cases_Bool (nat_lt 96 c && nat_lt c 103)) [
            | inl letter ↦
                let same : c - 87 ≡ d = some_is (c - 87) d (rw (other, letter) at e) in
                let glyph : c ≡ digit_glyph false (c - 87) = grind (arith, nat_tests) in
                subst (λ x. (c ≡ digit_glyph false x) × (x < 16)) same (glyph, grind (arith, nat_tests))
            | inr neither ↦ let bad : None ≡ Some d = rw (other, neither) at e in absurd cc
          ]
    ]

digit_again : (d : ℕ) → d < 16 → hex_digit_of (digit_glyph false d) ≡ Some d
digit_again d small =
    elim (cases_Bool (nat_lt d 10)) [
      | inl low ↦
          let is : digit_glyph false d ≡ 48 + d = rw low refl in
          let test : is_ascii_digit (48 + d) ≡ true = grind (arith, nat_tests) in
          let back : 48 + d - 48 ≡ d = omega arith in
          rw (is, test, back) refl
      | inr high ↦
          let is : digit_glyph false d ≡ 87 + d = rw high refl in
          let test : is_ascii_digit (87 + d) ≡ false = grind (arith, nat_tests) in
          let letter : (nat_lt 96 (87 + d) && nat_lt (87 + d) 103) ≡ true = grind (arith, nat_tests) in
          let back : 87 + d - 87 ≡ d = omega arith in
          rw (is, test, letter, back) refl
    ]

pub length-hex_digits : (places value : ℕ) → length (hex_digits places value) ≡ places
length-hex_digits zero value = refl
length-hex_digits (suc places) value = ap suc (length-hex_digits places (value % 16 ^ places))

-- the number that digits give behind those of `high`
pub record IsSpelled (high : ℕ) (digits : Word) (n : ℕ) : Type 0 where
  own : ℕ
  sum : n ≡ high * 16 ^ length digits + own
  small : own < 16 ^ length digits
  word : hex_digits (length digits) own ≡ digits

more_sum : (high d p own n : ℕ) → n ≡ (16 * high + d) * p + own → n ≡ high * (16 * p) + (d * p + own)
more_sum high d p own n e = grind arith

more_small : (d p own : ℕ) → d < 16 → own < p → d * p + own < 16 * p
more_small d p own few small = grind arith

pub spelled_is : (high : ℕ) (digits : Word) (n : ℕ) → hex_from high digits ≡ Some n → IsSpelled high digits n
spelled_is high [] n e =
    let same : high ≡ n = some_is high n e in
    record { own = 0; sum = omega arith; small = omega arith; word = refl }
spelled_is high (c ∷ digits) n e =
    let first = bind_some (hex_digit_of c) (λ digit. hex_from (16 * high + digit) digits) n e in
    let d = first.0 in
    let is = digit_is c d first.1 in
    let rest = spelled_is (16 * high + d) digits n first.2 in
    let p = 16 ^ length digits in
    let power : 16 ^ suc (length digits) ≡ 16 * p = pow-succ' 16 (length digits) in
    record {
      own = d * p + rest.own;
      sum = rw power (more_sum high d p rest.own n rest.sum);
      small = rw power (more_small d p rest.own is.1 rest.small);
      word = rw (div-mul-add d p rest.own rest.small, mod-mul-add d p rest.own rest.small, rest.word) (ap (λ x. x ∷ digits) (sym is.0));
    }

sum_again : (high p value : ℕ) → (16 * high + value / p) * p + value % p ≡ high * (16 * p) + value
sum_again high p value = let split = div-add-mod' value p in grind (arith, split)

pub spelled_again : (high places value : ℕ) → value < 16 ^ places → hex_from high (hex_digits places value) ≡ Some (high * 16 ^ places + value)
spelled_again high zero value small = let none : high ≡ high * 1 + value = omega arith in ap (λ n. Some n) none
spelled_again high (suc places) value small =
    let p = 16 ^ places in
    let power : 16 ^ suc places ≡ 16 * p = pow-succ' 16 places in
    rw (digit_again (value / p) (digit_small value places small))
    (spelled_again (16 * high + value / p) places (value % p) (mod_below value p (power_pos places)) ∙ ap (λ n. Some n) (rw power (sum_again high p value)))

few_parts : (digits value : ℕ) (some : 1 ≤ digits) (most : digits ≤ 32) (c : (value < 16 ^ digits) ⊎ (16 ^ digits ≤ value)) (h : HexValue) → of_few digits value some most c ≡ Some h → (digits ≡ h.digits) × (value ≡ h.value)
few_parts digits value some most (inl fits) h e =
    let same = some_is (record { digits = digits; value = value; some_digit = some; at_most = most; fits = fits }) h e in
    (ap (λ (x : HexValue). x.digits) same, ap (λ (x : HexValue). x.value) same)
few_parts digits value some most (inr great) h e = absurd cc

some_parts : (digits value : ℕ) (some : 1 ≤ digits) (c : (32 < digits) ⊎ (digits ≤ 32)) (h : HexValue) → of_some digits value some c ≡ Some h → (digits ≡ h.digits) × (value ≡ h.value)
some_parts digits value some (inl many) h e = absurd cc
some_parts digits value some (inr most) h e = few_parts digits value some most (cases_lt value (16 ^ digits)) h e

any_parts : (digits value : ℕ) (c : (digits < 1) ⊎ (1 ≤ digits)) (h : HexValue) → of_any digits value c ≡ Some h → (digits ≡ h.digits) × (value ≡ h.value)
any_parts digits value (inl none) h e = absurd cc
any_parts digits value (inr some) h e = some_parts digits value some (cases_lt 32 digits) h e

parts_of : (digits value : ℕ) (h : HexValue) → hex_value digits value ≡ Some h → (digits ≡ h.digits) × (value ≡ h.value)
unfolding hex_value
parts_of digits value h e = any_parts digits value (cases_lt digits 1) h e

digits_are : (digits : Word) (h : HexValue) → hex_of_digits digits ≡ Some h → digits ≡ hex_digits h.digits h.value
unfolding hex_of_digits
digits_are digits h e =
    elim (cases_Bool (nat_lt 32 (length digits))) [
      | inl many ↦ let bad : None ≡ Some h = rw many at e in absurd cc
      | inr few ↦
          let found = bind_some (hex_from 0 digits) (hex_value (length digits)) h (rw few at e) in
          let parts = parts_of (length digits) found.0 h found.2 in
          let spelled = spelled_is 0 digits found.0 found.1 in
          let sum = spelled.sum in
          let own : spelled.own ≡ h.value = omega (arith, parts.1) in
          sym spelled.word ∙ ap (λ k. hex_digits k spelled.own) parts.0 ∙ ap (λ v. hex_digits h.digits v) own
    ]

digits_again : (h : HexValue) → hex_of_digits (hex_digits h.digits h.value) ≡ Some h
unfolding hex_of_digits
digits_again h =
    let len = length-hex_digits h.digits h.value in
    let most = h.at_most in
    let few : nat_lt 32 h.digits ≡ false = grind (arith, nat_tests) in
    let sum : 0 * 16 ^ h.digits + h.value ≡ h.value = omega arith in
    rw (len, few, spelled_again 0 h.digits h.value h.fits, sum) (hex_value_is h)

-- a value is read from its word
pub hex_is : (word : Word) (h : HexValue) → hex_of word ≡ Some h → word ≡ hex_word h
unfolding hex_of
hex_is [] h e = absurd cc
hex_is (c ∷ []) h e = absurd cc
hex_is (c ∷ d ∷ digits) h e =
    elim (cases_Bool ((c == 48) && (d == 120))) [
      | inl prefixed ↦
          let tests = and_parts (c == 48) (d == 120) prefixed in
          let rest = digits_are digits h (rw prefixed at e) in
          ap (λ x. x ∷ d ∷ digits) (eqb-true c 48 tests.0) ∙ ap (λ x. 48 ∷ x ∷ digits) (eqb-true d 120 tests.1) ∙ ap (λ ds. 48 ∷ 120 ∷ ds) rest
      | inr other ↦ let bad : None ≡ Some h = rw other at e in absurd cc
    ]

pub hex_again : (h : HexValue) → hex_of (hex_word h) ≡ Some h
unfolding hex_of
hex_again h = digits_again h

pub values_in : (front : List HexValue) (words : List Word) (values : List HexValue) → values_onto front words ≡ Some values
    → (more : List HexValue) × (values ≡ front ++ more) × (words ≡ map hex_word more)
values_in front [] values e = ([], sym (append-nil front ∙ some_is front values e), refl)
values_in front (word ∷ words) values e =
    let first = bind_some (hex_of word) (λ h. values_onto (front ++ h ∷ []) words) values e in
    let rest = values_in (front ++ first.0 ∷ []) words values first.2 in
    (first.0 ∷ rest.0, rest.1 ∙ append_assoc front (first.0 ∷ []) rest.0, ap (λ x. x ∷ words) (hex_is word first.0 first.1) ∙ ap (λ ws. hex_word first.0 ∷ ws) rest.2)

pub values_again : (front values : List HexValue) → values_onto front (map hex_word values) ≡ Some (front ++ values)
values_again front [] = ap (λ vs. Some vs) (sym (append-nil front))
values_again front (h ∷ values) = rw (hex_again h) (values_again (front ++ h ∷ []) values ∙ ap (λ vs. Some vs) (append_assoc front (h ∷ []) values))
