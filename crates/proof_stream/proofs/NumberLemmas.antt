-- A number is read from its decimal digits alone, and a literal from its word.
use Rattle.std.proofs.Common.{◌≡◌, ℕ, zero, suc, ◌+◌, ◌-◌, ◌*◌, ◌^◌, ◌<◌, ◌≤◌, Bool, true, false, ◌&&◌, List, [], ◌∷◌, ◌++◌, length, get_or, refl, sym, ap, ◌∙◌, subst, arith, rules, inl, inr}
use Rattle.std.specs.Prelude.{Option, None, Some, ◌||◌, ◌==◌, nat_lt}
use Rattle.std.specs.Char.{is_ascii_digit}
use Rattle.std.specs.Fmt.{decimal}
use Rattle.std.specs.Str.{all_ascii_digits}
use Rattle.std.proofs.lemmas.Bool.{cases_Bool, and_parts, lt-ltb, eqb-true, ltb-true}
use Rattle.std.proofs.lemmas.Bool.Decides.{nat_tests}
use Rattle.std.proofs.lemmas.Fmt.{digits_decimal, decimal-digits_value, digits_value-decimal, decimal_nonempty, first_decimal, decimal_digit}
use Rattle.std.proofs.lemmas.Str.Parse.{IsNumeralModel, numerals_by_fold}
use Rattle.cnf_core.specs.declared.formula.Lit.{Lit}
use Rattle.proof_stream.specs.Reading.{◌>>=◌, number_from, number_of, positive_of, not_zero, signed_literal, literal_of}
use Rattle.proof_stream.specs.Words.{Word, literal_word, minus, sign}
use Rattle.proof_stream.specs.Valid.{Is32}

abbrev read_on : ℕ → List ℕ → ℕ
read_on high [] = high
read_on high (c ∷ cs) = read_on (10 * high + (c - 48)) cs

own : IsNumeralModel (λ ds. all_ascii_digits ds ≡ true) (read_on 0)
own = numerals_by_fold _ (search rules) read_on (search rules)

grows : (high : ℕ) (w : Word) → high ≤ read_on high w
grows high [] = omega arith
grows high (c ∷ w) = omega (arith, grows (10 * high + (c - 48)) w)

from_digits : (high : ℕ) (w : Word) → all_ascii_digits w ≡ true → Is32 (read_on high w) → number_from high w ≡ Some (read_on high w)
from_digits high [] all small = refl
from_digits high (c ∷ w) all small =
    let parts = and_parts (is_ascii_digit c) (all_ascii_digits w) all in
    let more = grows (10 * high + (c - 48)) w in
    let fits : nat_lt (10 * high + (c - 48)) (2 ^ 32) ≡ true = lt-ltb (10 * high + (c - 48)) (2 ^ 32) (omega arith) in
    rw (parts.0, fits) (from_digits (10 * high + (c - 48)) w parts.1 small)

-- what a number that was read says of its digits
pub record IsRead (high : ℕ) (w : Word) (n : ℕ) : Type 0 where
  digits : all_ascii_digits w ≡ true
  value : read_on high w ≡ n
  fits : Is32 high → Is32 n

pub some_is : {A : Type 0} (x y : A) → Some x ≡ Some y → x ≡ y
some_is x y e = cc

is_read : (high : ℕ) (w : Word) (n : ℕ) → number_from high w ≡ Some n → IsRead high w n
is_read high [] n e = let same : high ≡ n = some_is high n e in record { digits = refl; value = same; fits = λ h. subst Is32 same h }
is_read high (c ∷ w) n e =
    let next = 10 * high + (c - 48) in
    elim (cases_Bool (is_ascii_digit c && nat_lt next (2 ^ 32))) [
      | inl passes ↦
          let rest : number_from next w ≡ Some n = rw passes at e in
          let tests = and_parts (is_ascii_digit c) (nat_lt next (2 ^ 32)) passes in
          let more = is_read next w n rest in
          record { digits = rw (tests.0) more.digits; value = more.value; fits = λ h. more.fits (ltb-true next (2 ^ 32) tests.1) }
      | inr fails ↦ let bad : None ≡ Some n = rw fails at e in absurd cc
    ]

abbrev is_ill : Word → Bool
is_ill w = (length w == 0) || ((get_or w 0 0 == 48) && nat_lt 1 (length w))

well : (w : Word) → is_ill w ≡ false → (0 < length w) × (get_or w 0 0 ≡ 48 → length w ≡ 1)
well w h = grind (arith, nat_tests)

-- the word of a number that is read is its decimal spelling
pub number_is : (w : Word) (n : ℕ) → number_of w ≡ Some n → (w ≡ decimal n) × Is32 n
unfolding number_of
number_is w n e =
    elim (cases_Bool (is_ill w)) [
      | inl ill ↦ let bad : None ≡ Some n = rw ill at e in absurd cc
      | inr not ↦
          let read : number_from 0 w ≡ Some n = rw not at e in
          let facts = is_read 0 w n read in
          let shape = well w not in
          let small : Is32 n = facts.fits (omega arith) in
          let value = facts.value in
          (sym (decimal-digits_value own w facts.digits shape.0 shape.1 (omega arith)) ∙ ap decimal facts.value, small)
    ]

decimal_shape : (n : ℕ) → Is32 n → is_ill (decimal n) ≡ false
decimal_shape zero small = rw (decimal_digit 0 (omega arith)) refl
decimal_shape (suc n) small =
    let some = decimal_nonempty (suc n) (omega arith) in
    let first = first_decimal (suc n) (omega arith) (omega arith) in
    grind (arith, nat_tests)

pub decimal_digits : (n : ℕ) → Is32 n → all_ascii_digits (decimal n) ≡ true
decimal_digits n small = digits_decimal own n (omega arith)

-- a number is read from its decimal spelling
pub number_again : (n : ℕ) → Is32 n → number_of (decimal n) ≡ Some n
unfolding number_of
number_again n small =
    let value : read_on 0 (decimal n) ≡ n = digits_value-decimal own n (omega arith) in
    rw (decimal_shape n small) (from_digits 0 (decimal n) (decimal_digits n small) (omega arith) ∙ ap (λ v. Some v) value)

pub positive_is : (w : Word) (n : ℕ) → positive_of w ≡ Some n → (w ≡ decimal n) × Is32 n × (0 < n)
positive_is w n e =
    elim (number_of w) as (λ o. number_of w ≡ o → (o >>= not_zero) ≡ Some n → (w ≡ decimal n) × Is32 n × (0 < n)) [
      | None ↦ λ is h. absurd cc
      | Some m ↦ λ is h.
          let both = number_is w m is in
          elim (cases_Bool (m == 0)) [
            | inl none ↦ let bad : None ≡ Some n = rw none at h in absurd cc
            | inr some ↦
                let same : m ≡ n = some_is m n (rw some at h) in
                let more : 0 < m = grind (arith, nat_tests) in
                subst (λ k. (w ≡ decimal k) × Is32 k × (0 < k)) same (both.0, both.1, more)
          ]
    ] refl e

pub positive_again : (n : ℕ) → Is32 n → 0 < n → positive_of (decimal n) ≡ Some n
positive_again n small some =
    let test : (n == 0) ≡ false = grind (arith, nat_tests) in
    rw (number_again n small, test) refl

signed_is : (positive : Bool) (w : Word) (l : Lit) → signed_literal positive w ≡ Some l → (w ≡ decimal l.var) × Is32 l.var × (0 < l.var) × (l.positive ≡ positive)
signed_is positive w l e =
    elim (positive_of w) as (λ o. positive_of w ≡ o → (o >>= λ var. Some (record { var = var; positive = positive })) ≡ Some l → (w ≡ decimal l.var) × Is32 l.var × (0 < l.var) × (l.positive ≡ positive)) [
      | None ↦ λ is h. absurd cc
      | Some m ↦ λ is h.
          let both = positive_is w m is in
          let same : (let made : Lit = record { var = m; positive = positive } in made) ≡ l = some_is _ l h in
          subst (λ (k : Lit). (w ≡ decimal k.var) × Is32 k.var × (0 < k.var) × (k.positive ≡ positive)) same (both.0, both.1, both.2, refl)
    ] refl e

-- the word of a literal that is read is its spelling
pub literal_is : (w : Word) (l : Lit) → literal_of w ≡ Some l → (w ≡ literal_word l) × Is32 l.var × (0 < l.var)
unfolding literal_of
literal_is [] l e =
    let s = signed_is true [] l e in (rw (s.3) s.0, s.1, s.2)
literal_is (c ∷ w) l e =
    elim (cases_Bool (c == minus)) [
      | inl passes ↦
          let s = signed_is false w l (rw passes at e) in
          (rw (s.3, eqb-true c 45 passes) (ap (λ ds. minus ∷ ds) s.0), s.1, s.2)
      | inr fails ↦ let s = signed_is true (c ∷ w) l (rw fails at e) in (rw (s.3) s.0, s.1, s.2)
    ]

unsigned_again : (w : Word) (o : Option Lit) → all_ascii_digits w ≡ true → 0 < length w → signed_literal true w ≡ o → literal_of w ≡ o
unfolding literal_of
unsigned_again [] o all some e = absurd (omega arith)
unsigned_again (c ∷ w) o all some e =
    let parts = and_parts (is_ascii_digit c) (all_ascii_digits w) all in
    let first = parts.0 in
    let test : (c == minus) ≡ false = grind (arith, nat_tests) in
    rw test e

-- a literal is read from its spelling
pub literal_again : (l : Lit) → Is32 l.var → 0 < l.var → literal_of (literal_word l) ≡ Some l
unfolding literal_of
literal_again l small some =
    elim l.positive as (λ b. l.positive ≡ b → literal_of (sign b ++ decimal l.var) ≡ Some l) [
      | true ↦ λ is.
          unsigned_again (decimal l.var) (Some l) (decimal_digits l.var small) (decimal_nonempty l.var (omega arith))
          (rw (positive_again l.var small some, ← is) refl)
      | false ↦ λ is. rw (positive_again l.var small some, ← is) refl
    ] refl

-- the value of a step that gave one
pub bind_some : {A B : Type 0} (o : Option A) (f : A → Option B) (y : B) → (o >>= f) ≡ Some y → (x : A) × (o ≡ Some x) × (f x ≡ Some y)
bind_some (Some x) f y e = (x, refl, e)
bind_some None f y e = absurd cc
