-- The number at the start of a text is the longest that begins there.
use Rattle.std.proofs.Common.{◌≡◌, ℕ, ◌+◌, ◌<◌, ◌≤◌, suc, true, false, List, [], ◌∷◌, ◌++◌, sym, refl, ap, ◌∙◌, arith, IsTrue, ◌&&◌, ◌==◌, inl, inr, Option, Some, None, subst, length, take, drop, length-append, append_assoc, take-append-drop, nat_lt, nat_le, IsSomeAnd}
use Rattle.std.specs.List.{list_all, list_any, prefix_len}
use Rattle.std.proofs.Math.Seq.{take-append-add, drop-append_seam, take-append_seam}
use Rattle.std.proofs.lemmas.List.{length-take-le, drop_at}
use Rattle.std.proofs.lemmas.List.Sums.{prefix_len-le-length}
use Rattle.std.proofs.lemmas.Bool.{or_parts, and_parts, and_from, eqb-true, ltb-true, lt-ltb, leb-true, le-leb, cases_Bool, cond_both, both_ways, cond-true}
use Rattle.p4_lexer.specs.declared.classes.Class.TheVariants.{InDigits}
use Rattle.p4_lexer.specs.Digits.{is_digit_of, is_in_digits, base_of, value_of}
use Rattle.p4_lexer.specs.Numbers.{IsDecimal, HasDigits, IsBased, IsPlain, IsPrefixed, IsNumber}
use Rattle.p4_lexer.specs.Lengths.{has, digits_len, decimal_len, based_by, based_len, plain_len, is_sort, begins_sort, is_width, width_len, number_len}
use Rattle.p4_lexer.proofs.RunLemmas.{run_longest, run_exact, run_passes, any_longer}
use Rattle.p4_lexer.proofs.ByteLemmas.{base_letter, sort_letter}

abbrev run : ℕ → List ℕ → ℕ
run base text = prefix_len (has (InDigits base)) text

abbrev pub digit_run : List ℕ → ℕ
digit_run text = prefix_len (is_digit_of 10) text

decimal_longest : (c : ℕ) (w rest : List ℕ) → IsDecimal (c ∷ w) → length (c ∷ w) ≤ decimal_len (c ∷ w ++ rest)
decimal_longest c w rest d = rw d.0 (omega (arith, run_longest (has (InDigits 10)) w rest d.1))

digits_len_is : (base : ℕ) (w rest : List ℕ) → HasDigits w base → digits_len base (w ++ rest) ≡ run base (w ++ rest)
digits_len_is base w rest d = rw (any_longer (is_digit_of base) w rest (run base (w ++ rest)) d.1 (run_longest (has (InDigits base)) w rest d.0)) refl

some_digit : (base : ℕ) (w : List ℕ) → HasDigits w base → 0 < length w
some_digit base [] d = absurd cc
some_digit base (c ∷ w) d = omega arith

digits_longest : (base : ℕ) (w rest : List ℕ) → HasDigits w base → length w ≤ digits_len base (w ++ rest)
digits_longest base w rest d = omega (arith, digits_len_is base w rest d, run_longest (has (InDigits base)) w rest d.0)

based_is : (letter base : ℕ) (text : List ℕ) → base_of letter ≡ Some base → 0 < digits_len base text → based_len (48 ∷ letter ∷ text) ≡ digits_len base text + 2
based_is letter base text e some = rw (e, lt-ltb 0 (digits_len base text) some) refl

based_longest : (letter base : ℕ) (w rest : List ℕ) → base_of letter ≡ Some base → HasDigits w base → length (48 ∷ letter ∷ w) ≤ based_len (48 ∷ letter ∷ w ++ rest)
based_longest letter base w rest e d =
    let some : 0 < digits_len base (w ++ rest) = omega (arith, digits_longest base w rest d, some_digit base w d) in
    omega (arith, based_is letter base (w ++ rest) e some, digits_longest base w rest d)

-- the parts of a based number that begins a text
record BasedParts (c letter : ℕ) (text : List ℕ) : Type 0 where
  base : ℕ
  letter_is : base_of letter ≡ Some base
  first : c ≡ 48
  some : 0 < digits_len base text
  len : based_len (c ∷ letter ∷ text) ≡ digits_len base text + 2

parts_by : (c letter : ℕ) (text : List ℕ) (o : Option ℕ) → base_of letter ≡ o → 0 < based_by c o text → BasedParts c letter text
parts_by c letter text None e some = absurd (omega arith)
parts_by c letter text (Some base) e some = elim (cases_Bool ((c == 48) && nat_lt 0 (digits_len base text))) [
  | inl holds ↦ let both = and_parts (c == 48) (nat_lt 0 (digits_len base text)) holds in
      record { base = base; letter_is = e; first = eqb-true c 48 both.0; some = ltb-true 0 (digits_len base text) both.1; len = rw (e, holds) refl }
  | inr fails ↦ absurd (let h : 0 < 0 = rw fails at some in omega arith)
]

based_parts : (c letter : ℕ) (text : List ℕ) → 0 < based_len (c ∷ letter ∷ text) → BasedParts c letter text
based_parts c letter text some = parts_by c letter text (base_of letter) refl some

-- a decimal number that begins a based one is its `0`
decimal_in_based : (c : ℕ) (w rest : List ℕ) → IsDecimal (c ∷ w) → 0 < based_len (c ∷ w ++ rest) → length (c ∷ w) ≤ based_len (c ∷ w ++ rest)
decimal_in_based c [] rest d some = omega arith
decimal_in_based c (letter ∷ w) rest d some =
    let p = based_parts c letter (w ++ rest) some in
    let in_digits = and_parts (is_in_digits 10 letter) (list_all (is_in_digits 10) w) d.1 in
    absurd (both_ways (is_in_digits 10 letter) (base_letter letter p.base p.letter_is).0 in_digits.0)

based_longest_by : (letter : ℕ) (w rest : List ℕ) (o : Option ℕ) → base_of letter ≡ o → IsSomeAnd o (HasDigits w) → length (48 ∷ letter ∷ w) ≤ plain_len (48 ∷ letter ∷ w ++ rest)
based_longest_by letter w rest None e d = absurd d
based_longest_by letter w rest (Some base) e d =
    let l = based_longest letter base w rest e d in
    let some : 0 < based_len (48 ∷ letter ∷ w ++ rest) = omega (arith, l) in
    rw (lt-ltb 0 (based_len (48 ∷ letter ∷ w ++ rest)) some) l

pub plain_longest : (w rest : List ℕ) → IsPlain w → length w ≤ plain_len (w ++ rest)
plain_longest [] rest (inl d) = absurd d
plain_longest (c ∷ w) rest (inl d) = cond_both (nat_lt 0 (based_len (c ∷ w ++ rest))) (based_len (c ∷ w ++ rest)) (decimal_len (c ∷ w ++ rest)) (λ n. length (c ∷ w) ≤ n)
    (λ holds. decimal_in_based c w rest d (ltb-true 0 (based_len (c ∷ w ++ rest)) holds))
    (λ fails. decimal_longest c w rest d)
plain_longest [] rest (inr b) = absurd b
plain_longest (zero_digit ∷ []) rest (inr b) = absurd b
plain_longest (zero_digit ∷ letter ∷ w) rest (inr b) = rw b.0 (based_longest_by letter w rest (base_of letter) refl b.1)

-- behind the digits of a width stands no digit and no `_`
run_same : (text : List ℕ) → begins_sort (drop (digit_run text) text) ≡ true → run 10 text ≡ digit_run text
run_same [] sort = absurd cc
run_same (c ∷ text) sort = elim (cases_Bool (is_digit_of 10 c)) [
  | inl digit ↦
      let one : 1 + digit_run text ≡ suc (digit_run text) = omega arith in
      let behind : begins_sort (drop (digit_run text) text) ≡ true = rw one at (rw digit at sort) in
      rw digit (ap (λ n. 1 + n) (run_same text behind))
  | inr other ↦
      let letter : is_sort c ≡ true = rw other at sort in
      rw ((sort_letter c letter).1, other) refl
]

no_based : (c : ℕ) (text : List ℕ) → begins_sort (drop (digit_run (c ∷ text)) (c ∷ text)) ≡ true → 0 < based_len (c ∷ text) → ⊥
no_based c [] sort some = omega arith
no_based c (letter ∷ text) sort some =
    let p = based_parts c letter text some in
    let in_digits = base_letter letter p.base p.letter_is in
    let no_digit : is_digit_of 10 letter ≡ false = (or_parts (is_digit_of 10 letter) (letter == 95) in_digits.0).0 in
    let at_first : begins_sort (drop (digit_run (48 ∷ letter ∷ text)) (48 ∷ letter ∷ text)) ≡ true = rw p.first at sort in
    let behind : is_sort letter ≡ true = rw no_digit at at_first in
    both_ways (is_sort letter) in_digits.1 behind

decimal_within : (c : ℕ) (text : List ℕ) → begins_sort (drop (digit_run (c ∷ text)) (c ∷ text)) ≡ true → decimal_len (c ∷ text) ≤ digit_run (c ∷ text)
decimal_within c text sort = elim (cases_Bool (is_digit_of 10 c)) [
  | inl digit ↦
      let one : 1 + digit_run text ≡ suc (digit_run text) = omega arith in
      let behind : begins_sort (drop (digit_run text) text) ≡ true = rw one at (rw digit at sort) in
      rw digit (omega (arith, run_same text behind))
  | inr other ↦ rw other (omega arith)
]

-- a number with no prefix goes no further than a prefix that stands there
pub plain_within_width : (text : List ℕ) → begins_sort (drop (digit_run text) text) ≡ true → plain_len text ≤ digit_run text
plain_within_width [] sort = absurd cc
plain_within_width (c ∷ text) sort = cond_both (nat_lt 0 (based_len (c ∷ text))) (based_len (c ∷ text)) (decimal_len (c ∷ text)) (λ n. n ≤ digit_run (c ∷ text))
    (λ holds. absurd (no_based c text sort (ltb-true 0 (based_len (c ∷ text)) holds)))
    (λ fails. decimal_within c text sort)

-- the parts of a prefix that begins a text
pub record WidthParts (text : List ℕ) : Type 0 where
  pub sort : begins_sort (drop (digit_run text) text) ≡ true
  pub fits : is_width (value_of 10 (take (digit_run text) text)) ≡ true
  pub len : width_len text ≡ digit_run text + 1

pub width_parts : (text : List ℕ) → 0 < width_len text → WidthParts text
width_parts text some = elim (cases_Bool (begins_sort (drop (digit_run text) text) && is_width (value_of 10 (take (digit_run text) text)))) [
  | inl holds ↦
      let both = and_parts (begins_sort (drop (digit_run text) text)) (is_width (value_of 10 (take (digit_run text) text))) holds in
      record { sort = both.0; fits = both.1; len = rw holds refl }
  | inr fails ↦ absurd (let h : 0 < 0 = rw fails at some in omega arith)
]

pub plain_in_number : (text : List ℕ) → plain_len text ≤ number_len text
plain_in_number text = cond_both (nat_lt 0 (width_len text) && nat_lt 0 (plain_len (drop (width_len text) text))) (width_len text + plain_len (drop (width_len text) text)) (plain_len text) (λ n. plain_len text ≤ n)
    (λ holds.
    let both = and_parts (nat_lt 0 (width_len text)) (nat_lt 0 (plain_len (drop (width_len text) text))) holds in
    let p = width_parts text (ltb-true 0 (width_len text) both.0) in
    omega (arith, p.len, plain_within_width text p.sort))
    (λ fails. omega arith)

-- a prefix that begins a text
pub width_is : (digits : List ℕ) (letter : ℕ) (rest : List ℕ) → IsTrue (list_all (is_digit_of 10) digits) → is_sort letter ≡ true → is_width (value_of 10 digits) ≡ true → width_len (digits ++ letter ∷ rest) ≡ length digits + 1
width_is digits letter rest decimal sort fits =
    let n : digit_run (digits ++ letter ∷ rest) ≡ length digits = run_exact (is_digit_of 10) digits letter rest decimal (sort_letter letter sort).0 in
    rw (n, drop-append_seam digits (letter ∷ rest), take-append_seam digits (letter ∷ rest), sort, fits) refl

some_plain : (w : List ℕ) → IsPlain w → 0 < length w
some_plain [] (inl d) = absurd d
some_plain [] (inr d) = absurd d
some_plain (c ∷ w) p = omega arith

pub fits_width : (n : ℕ) → 1 ≤ n → n ≤ 128 → is_width n ≡ true
fits_width n lower upper = and_from (nat_le 1 n) (nat_le n 128) (le-leb 1 n lower) (le-leb n 128 upper)

pub one_list : (digits : List ℕ) (letter : ℕ) (rest : List ℕ) → (digits ++ letter ∷ []) ++ rest ≡ digits ++ letter ∷ rest
one_list digits letter rest = append_assoc digits (letter ∷ []) rest

length_one_more : (digits : List ℕ) (letter : ℕ) → length (digits ++ letter ∷ []) ≡ length digits + 1
length_one_more digits letter = length-append digits (letter ∷ [])

prefixed_by : (digits : List ℕ) (letter : ℕ) (plain rest : List ℕ) → IsTrue (list_all (is_digit_of 10) digits) → is_sort letter ≡ true → is_width (value_of 10 digits) ≡ true → IsPlain plain
    → length digits + 1 + length plain ≤ number_len (digits ++ letter ∷ (plain ++ rest))
prefixed_by digits letter plain rest decimal sort fits p =
    let text : List ℕ = digits ++ letter ∷ (plain ++ rest) in
    let width : width_len text ≡ length digits + 1 = width_is digits letter (plain ++ rest) decimal sort fits in
    let behind : drop (width_len text) text ≡ plain ++ rest =
    rw width (rw (← one_list digits letter (plain ++ rest)) (drop_at (digits ++ letter ∷ []) (plain ++ rest) (length digits + 1) (length_one_more digits letter))) in
    let longest : length plain ≤ plain_len (plain ++ rest) = plain_longest plain rest p in
    let same : plain_len (drop (width_len text) text) ≡ plain_len (plain ++ rest) = ap plain_len behind in
    let some : 0 < plain_len (drop (width_len text) text) = omega (arith, same, longest, some_plain plain p) in
    let number : number_len text ≡ width_len text + plain_len (drop (width_len text) text) =
    cond-true (nat_lt 0 (width_len text) && nat_lt 0 (plain_len (drop (width_len text) text))) (width_len text + plain_len (drop (width_len text) text)) (plain_len text)
    (and_from (nat_lt 0 (width_len text)) (nat_lt 0 (plain_len (drop (width_len text) text))) (lt-ltb 0 (width_len text) (omega (arith, width))) (lt-ltb 0 (plain_len (drop (width_len text) text)) some)) in
    omega (arith, number, width, same, longest)

prefixed_longest : (w rest : List ℕ) → IsPrefixed w → length w ≤ number_len (w ++ rest)
prefixed_longest w rest p =
    let q = p.width in
    let fits : is_width (value_of 10 q.digits) ≡ true = fits_width (value_of 10 q.digits) q.lower q.upper in
    let spelled : w ≡ q.digits ++ q.letter ∷ p.plain = p.spelled ∙ ap (λ xs. xs ++ p.plain) q.spelled ∙ one_list q.digits q.letter p.plain in
    let text : w ++ rest ≡ q.digits ++ q.letter ∷ (p.plain ++ rest) = ap (λ xs. xs ++ rest) spelled ∙ append_assoc q.digits (q.letter ∷ p.plain) rest in
    let len : length w ≡ length q.digits + length (q.letter ∷ p.plain) = ap length spelled ∙ length-append q.digits (q.letter ∷ p.plain) in
    let number : number_len (w ++ rest) ≡ number_len (q.digits ++ q.letter ∷ (p.plain ++ rest)) = ap number_len text in
    omega (arith, len, number, prefixed_by q.digits q.letter p.plain rest q.decimal q.sort fits p.number)

-- no number that begins a text is longer
pub number_longest : (w rest : List ℕ) → IsNumber w → length w ≤ number_len (w ++ rest)
number_longest w rest (inl plain) = omega (arith, plain_longest w rest plain, plain_in_number (w ++ rest))
number_longest w rest (inr prefixed) = prefixed_longest w rest prefixed

digits_spelled : (base : ℕ) (text : List ℕ) → 0 < digits_len base text → HasDigits (take (digits_len base text) text) base
digits_spelled base text some = elim (cases_Bool (list_any (is_digit_of base) (take (run base text) text))) [
  | inl holds ↦
      let n : digits_len base text ≡ run base text = rw holds refl in
      rw n (run_passes (has (InDigits base)) text, holds)
  | inr fails ↦ absurd (let h : 0 < 0 = rw fails at some in omega arith)
]

based_spelled : (text : List ℕ) → 0 < based_len text → IsBased (take (based_len text) text)
based_spelled [] some = absurd (omega arith)
based_spelled (c ∷ []) some = absurd (omega arith)
based_spelled (c ∷ letter ∷ text) some =
    let p = based_parts c letter text some in
    let n : based_len (c ∷ letter ∷ text) ≡ suc (suc (digits_len p.base text)) = omega (arith, p.len) in
    rw n (p.first, rw p.letter_is (digits_spelled p.base text p.some))

decimal_spelled : (text : List ℕ) → 0 < decimal_len text → IsDecimal (take (decimal_len text) text)
decimal_spelled [] some = absurd (omega arith)
decimal_spelled (c ∷ text) some = elim (cases_Bool (is_digit_of 10 c)) [
  | inl digit ↦
      let n : decimal_len (c ∷ text) ≡ suc (run 10 text) = rw digit (omega arith) in
      rw n (digit, run_passes (has (InDigits 10)) text)
  | inr other ↦ absurd (let h : 0 < 0 = rw other at some in omega arith)
]

plain_spelled : (text : List ℕ) → 0 < plain_len text → IsPlain (take (plain_len text) text)
plain_spelled text some = elim (cases_Bool (nat_lt 0 (based_len text))) [
  | inl holds ↦ rw holds (inr (based_spelled text (ltb-true 0 (based_len text) holds)))
  | inr fails ↦ let later : 0 < decimal_len text = rw fails at some in rw fails (inl (decimal_spelled text later))
]

pub record SortFirst (text : List ℕ) : Type 0 where
  pub letter : ℕ
  pub rest : List ℕ
  pub spelled : text ≡ letter ∷ rest
  pub sort : is_sort letter ≡ true

pub sort_first : (text : List ℕ) → begins_sort text ≡ true → SortFirst text
sort_first [] sort = absurd cc
sort_first (c ∷ text) sort = record { letter = c; rest = text; spelled = refl; sort = sort }

prefixed_from : (digits : List ℕ) (letter : ℕ) (rest : List ℕ) (width : ℕ) → length digits + 1 ≡ width → IsTrue (list_all (is_digit_of 10) digits) → is_sort letter ≡ true → is_width (value_of 10 digits) ≡ true → 0 < plain_len rest
    → IsPrefixed (take (width + plain_len rest) ((digits ++ letter ∷ []) ++ rest))
prefixed_from digits letter rest width e decimal sort fits some =
    let len : length (digits ++ letter ∷ []) ≡ width = length_one_more digits letter ∙ e in
    let both = and_parts (nat_le 1 (value_of 10 digits)) (nat_le (value_of 10 digits) 128) fits in
    record {
      prefix = digits ++ letter ∷ [];
      plain = take (plain_len rest) rest;
      spelled = rw (← len) (take-append-add (digits ++ letter ∷ []) rest (plain_len rest));
      width = record { digits = digits; letter = letter; spelled = refl; decimal = decimal; lower = leb-true 1 (value_of 10 digits) both.0; upper = leb-true (value_of 10 digits) 128 both.1; sort = sort };
      number = plain_spelled rest some;
    }

prefixed_spelled : (text : List ℕ) → 0 < width_len text → 0 < plain_len (drop (width_len text) text) → IsPrefixed (take (width_len text + plain_len (drop (width_len text) text)) text)
prefixed_spelled text width some =
    let p = width_parts text width in
    let n : ℕ = digit_run text in
    let f = sort_first (drop n text) p.sort in
    let digits : List ℕ = take n text in
    let len : length digits + 1 ≡ width_len text = omega (arith, p.len, length-take-le n text (prefix_len-le-length (is_digit_of 10) text)) in
    let whole : text ≡ (digits ++ f.letter ∷ []) ++ f.rest = sym (take-append-drop n text) ∙ ap (λ xs. digits ++ xs) f.spelled ∙ sym (one_list digits f.letter f.rest) in
    let behind : drop (width_len text) text ≡ f.rest = ap (drop (width_len text)) whole ∙ drop_at (digits ++ f.letter ∷ []) f.rest (width_len text) (length_one_more digits f.letter ∙ len) in
    let some_rest : 0 < plain_len f.rest = subst (λ xs. 0 < plain_len xs) behind some in
    subst (λ xs. IsPrefixed (take (width_len text + plain_len (drop (width_len text) text)) xs)) (sym whole)
    (subst (λ ys. IsPrefixed (take (width_len text + plain_len ys) ((digits ++ f.letter ∷ []) ++ f.rest))) (sym behind)
    (prefixed_from digits f.letter f.rest (width_len text) len (run_passes (is_digit_of 10) text) f.sort p.fits some_rest))

-- where a digit begins a text, a number does
pub number_spelled : (text : List ℕ) → 0 < plain_len text → IsNumber (take (number_len text) text)
number_spelled text some = elim (cases_Bool (nat_lt 0 (width_len text) && nat_lt 0 (plain_len (drop (width_len text) text)))) [
  | inl holds ↦
      let both = and_parts (nat_lt 0 (width_len text)) (nat_lt 0 (plain_len (drop (width_len text) text))) holds in
      rw holds (inr (prefixed_spelled text (ltb-true 0 (width_len text) both.0) (ltb-true 0 (plain_len (drop (width_len text) text)) both.1)))
  | inr fails ↦ rw fails (inl (plain_spelled text some))
]

-- a digit begins a number
pub digit_begins : (c : ℕ) (text : List ℕ) → is_digit_of 10 c ≡ true → 0 < plain_len (c ∷ text)
digit_begins c text digit = cond_both (nat_lt 0 (based_len (c ∷ text))) (based_len (c ∷ text)) (decimal_len (c ∷ text)) (λ n. 0 < n)
    (λ holds. ltb-true 0 (based_len (c ∷ text)) holds)
    (λ fails. rw digit (omega arith))

prefixed_digit : (c : ℕ) (w digits : List ℕ) (letter : ℕ) (plain : List ℕ) → c ∷ w ≡ (digits ++ letter ∷ []) ++ plain → 1 ≤ value_of 10 digits → IsTrue (list_all (is_digit_of 10) digits) → is_digit_of 10 c ≡ true
prefixed_digit c w [] letter plain e lower decimal = absurd (omega arith)
prefixed_digit c w (d ∷ digits) letter plain e lower decimal =
    let first : d ≡ c = cc in
    subst (λ x. is_digit_of 10 x ≡ true) first (and_parts (is_digit_of 10 d) (list_all (is_digit_of 10) digits) decimal).0

-- and each number begins with one
pub number_digit : (c : ℕ) (w : List ℕ) → IsNumber (c ∷ w) → is_digit_of 10 c ≡ true
number_digit c w (inl (inl d)) = d.0
number_digit c [] (inl (inr b)) = absurd b
number_digit c (letter ∷ w) (inl (inr b)) = rw b.0 refl
number_digit c w (inr p) = prefixed_digit c w p.width.digits p.width.letter p.plain (p.spelled ∙ ap (λ xs. xs ++ p.plain) p.width.spelled) p.width.lower p.width.decimal

pub no_number : IsNumber [] → ⊥
no_number (inl plain) = let h : 0 < 0 = some_plain [] plain in omega arith
no_number (inr p) =
    let e : [] ≡ (p.width.digits ++ p.width.letter ∷ []) ++ p.plain = p.spelled ∙ ap (λ xs. xs ++ p.plain) p.width.spelled in
    let n : 0 ≡ length (p.width.digits ++ p.width.letter ∷ []) + length p.plain = ap length e ∙ length-append (p.width.digits ++ p.width.letter ∷ []) p.plain in
    omega (arith, n, length_one_more p.width.digits p.width.letter)
