-- Lemmas on numbers at the front of a text.
use Rattle.std.proofs.Common.{◌≡◌, ℕ, ◌+◌, ◌-◌, ◌^◌, ◌<◌, ◌≤◌, true, false, cond, ◌&&◌, List, [], ◌∷◌, ◌++◌, length, get_or, take, drop, refl, ap, sym, ◌∙◌, subst, arith, length-take, get_or-take}
use Rattle.std.proofs.lemmas.Fmt.{digits_decimal, decimal_injective, decimal-digits_value, digits_value-decimal, decimal_nonempty, length-decimal-le, first_decimal, decimal_digit}
use Rattle.std.proofs.lemmas.Str.Parse.{IsNumeralModel, numerals_by_value, tells_digits, tells_by_index, tells_all_ascii_digits}
use Prim.Native.Nat.{zero, suc}
use Rattle.std.proofs.Math.Seq.{take-append_seam}
use Rattle.std.proofs.lemmas.List.{take-append-drop}
use Rattle.testgen_engine.proofs.Lists.{append_left_injective}
use Rattle.std.proofs.lemmas.List.Sums.{prefix_len_passes}
use Rattle.std.proofs.lemmas.Bool.Decides.{nat_tests}
use Rattle.std.specs.Char.{is_ascii_digit, digit_value}
use Rattle.std.specs.Fmt.{decimal}
use Rattle.std.specs.Int.{IsInRange}
use Rattle.std.specs.List.{prefix_len}
use Rattle.std.specs.Str.{all_ascii_digits}
use Rattle.std.specs.Str.Parse.{AllDigits, digits_value}
use Rattle.testgen_engine.specs.Statements.{StartsNoDigit, IsPlain, IsNumberAt, IsNoNumber}

-- std's digits and their value, as the model of numerals that its lemmas ask for
pub own : IsNumeralModel (AllDigits 10) (digits_value 10)
own = numerals_by_value (AllDigits 10) tells_digits

by_tests : IsNumeralModel (λ ds. all_ascii_digits ds ≡ true) (digits_value 10)
by_tests = numerals_by_value (λ ds. all_ascii_digits ds ≡ true) tells_all_ascii_digits

-- digits are counted up to what is no digit
pub prefix_len-digits : (ds rest : List ℕ) → all_ascii_digits ds ≡ true → StartsNoDigit rest → prefix_len is_ascii_digit (ds ++ rest) ≡ length ds
prefix_len-digits [] rest all stop = stop
prefix_len-digits (c ∷ cs) rest all stop =
    elim (is_ascii_digit c) as (λ b. (b && all_ascii_digits cs) ≡ true → cond b (1 + prefix_len is_ascii_digit (cs ++ rest)) 0 ≡ suc (length cs)) [
      | true ↦ λ h. omega (arith, prefix_len-digits cs rest h stop)
      | false ↦ λ h. cc
    ] all

-- what follows the digits does not begin with one
pub digits_end : (text : List ℕ) → StartsNoDigit (drop (prefix_len is_ascii_digit text) text)
digits_end [] = refl
digits_end (c ∷ cs) =
    elim (is_ascii_digit c) as (λ b. is_ascii_digit c ≡ b → StartsNoDigit (drop (cond b (1 + prefix_len is_ascii_digit cs) 0) (c ∷ cs))) [
      | true ↦ λ h. let e : 1 + prefix_len is_ascii_digit cs ≡ suc (prefix_len is_ascii_digit cs) = omega arith in rw e (digits_end cs)
      | false ↦ λ h. rw h refl
    ] refl

-- a byte that passes the test is a digit
digit_range : (c : ℕ) → is_ascii_digit c ≡ true → IsInRange 48 57 c
digit_range c h = grind (arith, nat_tests)

-- what a digit stands for
pub digit_value-digit : (c : ℕ) → IsInRange 48 57 c → digit_value c ≡ c - 48
digit_value-digit c h = grind (arith, nat_tests)

-- the digits at the front are digits
pub AllDigits-front : (text : List ℕ) → AllDigits 10 (take (prefix_len is_ascii_digit text) text)
AllDigits-front text =
    (numerals_by_value (λ ds. (i : ℕ) → i < length ds → IsInRange 48 57 (get_or ds i 0)) tells_by_index).to _ (λ i h.
    let n = prefix_len is_ascii_digit text in
    let within : i < n = omega (arith, length-take n text) in
    rw (get_or-take n text i 0 within) (digit_range (get_or text i 0) (prefix_len_passes is_ascii_digit text i 0 within)))

-- a number is counted to its last digit
number_len : (value : ℕ) (rest : List ℕ) → value < 512 → StartsNoDigit rest → prefix_len is_ascii_digit (decimal value ++ rest) ≡ length (decimal value)
number_len value rest small stop =
    prefix_len-digits (decimal value) rest (digits_decimal by_tests value (omega arith)) stop

-- the digits at the front of a text that begins with a number are those of the number
pub front_of_number : (text : List ℕ) (value : ℕ) (rest : List ℕ) → IsNumberAt text value rest → take (prefix_len is_ascii_digit text) text ≡ decimal value
front_of_number text value rest h =
    let len : prefix_len is_ascii_digit text ≡ length (decimal value) = ap (prefix_len is_ascii_digit) h.whole ∙ number_len value rest h.nine_bits h.ends in
    rw len (rw h.whole (take-append_seam (decimal value) rest))

-- only the number 0 begins with a zero
zero_alone : (value : ℕ) → value < 512 → get_or (decimal value) 0 0 ≡ 48 → length (decimal value) ≡ 1
zero_alone zero small e = ap length (decimal_digit 0 (omega arith))
zero_alone (suc n) small e = let more : 48 < get_or (decimal (suc n)) 0 0 = first_decimal (suc n) (omega arith) (omega arith) in absurd (omega arith)

-- a number is spelled with one to three digits, and no zero before others
pub IsPlain-decimal : (value : ℕ) → value < 512 → IsPlain (decimal value)
IsPlain-decimal value small = record {
  some = decimal_nonempty value (omega arith);
  few = length-decimal-le 3 value (omega arith) (omega arith) (omega arith);
  no_zero = zero_alone value small;
}

-- no number stands at the front where the digits there are not plain, or spell a greater number
pub no_number-not_plain : (text : List ℕ) → (IsPlain (take (prefix_len is_ascii_digit text) text) → ⊥) → IsNoNumber text
no_number-not_plain text h value rest n = h (subst IsPlain (sym (front_of_number text value rest n)) (IsPlain-decimal value n.nine_bits))

pub no_number-great : (text : List ℕ) → 512 ≤ digits_value 10 (take (prefix_len is_ascii_digit text) text) → IsNoNumber text
no_number-great text h value rest n =
    let e : digits_value 10 (take (prefix_len is_ascii_digit text) text) ≡ value = ap (digits_value 10) (front_of_number text value rest n) ∙ digits_value-decimal own value (let s = n.nine_bits in omega arith) in
    let s = n.nine_bits in
    absurd (omega arith)

-- the number at the front
pub number_at : (text : List ℕ) → IsPlain (take (prefix_len is_ascii_digit text) text) → digits_value 10 (take (prefix_len is_ascii_digit text) text) < 512
    → IsNumberAt text (digits_value 10 (take (prefix_len is_ascii_digit text) text)) (drop (prefix_len is_ascii_digit text) text)
number_at text plain small =
    let n = prefix_len is_ascii_digit text in
    let spelled : decimal (digits_value 10 (take n text)) ≡ take n text = decimal-digits_value own (take n text) (AllDigits-front text) plain.some plain.no_zero (omega arith) in
    record {
      nine_bits = small;
      whole = sym (ap (λ ds. ds ++ drop n text) spelled ∙ take-append-drop n text);
      ends = digits_end text;
    }

-- a number at the front is the only one
pub same_decimal : (m n : ℕ) (x y : List ℕ) → decimal m ++ x ≡ decimal n ++ y → m < 2 ^ 64 → n < 2 ^ 64 → StartsNoDigit x → StartsNoDigit y → (m ≡ n) × (x ≡ y)
same_decimal m n x y e p q h k =
    let len : length (decimal m) ≡ length (decimal n) =
    sym (prefix_len-digits (decimal m) x (digits_decimal by_tests m p) h) ∙ ap (prefix_len is_ascii_digit) e ∙ prefix_len-digits (decimal n) y (digits_decimal by_tests n q) k in
    let digits : decimal m ≡ decimal n =
    sym (take-append_seam (decimal m) x) ∙ ap (take (length (decimal m))) e ∙ ap (λ l. take l (decimal n ++ y)) len ∙ take-append_seam (decimal n) y in
    (decimal_injective m n p q digits, append_left_injective (decimal n) x y (ap (λ ds. ds ++ x) (sym digits) ∙ e))

pub same_number : (text : List ℕ) (m n : ℕ) (x y : List ℕ) → IsNumberAt text m x → IsNumberAt text n y → (m ≡ n) × (x ≡ y)
same_number text m n x y a b =
    same_decimal m n x y (sym a.whole ∙ b.whole) (let s = a.nine_bits in omega arith) (let s = b.nine_bits in omega arith) a.ends b.ends

-- a number behind one front
pub same_decimal_behind : (front : List ℕ) (m n : ℕ) (x y : List ℕ) → front ++ (decimal m ++ x) ≡ front ++ (decimal n ++ y) → m < 2 ^ 64 → n < 2 ^ 64 → StartsNoDigit x → StartsNoDigit y
    → (m ≡ n) × (x ≡ y)
same_decimal_behind front m n x y e = same_decimal m n x y (append_left_injective front _ _ e)

-- a number is no text that does not begin with a digit
pub decimal_apart : (n : ℕ) (x y : List ℕ) → decimal n ++ x ≡ y → n < 2 ^ 64 → StartsNoDigit x → StartsNoDigit y → ⊥
decimal_apart n x y e p h k =
    let len : length (decimal n) ≡ 0 = sym (prefix_len-digits (decimal n) x (digits_decimal by_tests n p) h) ∙ ap (prefix_len is_ascii_digit) e ∙ k in
    omega (arith, decimal_nonempty n p)
