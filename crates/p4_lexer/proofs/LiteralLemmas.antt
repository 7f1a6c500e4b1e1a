-- What a number stands for, by the parts that are found in it.
use Rattle.std.proofs.Common.{◌≡◌, ℕ, ◌+◌, ◌-◌, ◌≤◌, ◌^◌, suc, true, List, [], ◌∷◌, ◌++◌, sym, refl, ap, ◌∙◌, arith, IsTrue, ◌&&◌, ◌==◌, inl, inr, subst, length, take, drop, length-append, length-drop, if◌then◌else◌}
use Rattle.std.specs.List.{list_all}
use Rattle.std.proofs.Math.Seq.{drop-append_seam, take-append_seam}
use Rattle.std.proofs.lemmas.List.{drop_at, append-nil}
use Rattle.std.proofs.lemmas.Bool.{or_cases, eqb-true, cases_lt, cases_Bool, both_ways}
use Rattle.tg_base.specs.declared.literal.Literal.{Literal}
use Rattle.tg_base.specs.declared.literal.IntType.{IntType}
use Rattle.tg_base.specs.declared.literal.IntType.TheVariants.{Integer, Unsigned, Signed}
use Rattle.tg_base.specs.declared.literal.IntValue.{IntValue}
use Rattle.tg_base.specs.declared.literal.IntValue.TheVariants.{Exact, TooLarge}
use Rattle.p4_lexer.specs.Digits.{is_digit_of, value_of}
use Rattle.p4_lexer.specs.Numbers.{IsPlain, IsPrefix, IsPrefixed, IsNumber, IsValue, plain_value, IsTypeOf, StandsFor}
use Rattle.p4_lexer.specs.Lengths.{is_sort, begins_sort, is_width, width_len, plain_len, type_by, type_behind, literal_type}
use Rattle.p4_lexer.proofs.RunLemmas.{run_exact}
use Rattle.p4_lexer.proofs.TextLemmas.{rest_from}
use Rattle.p4_lexer.proofs.ByteLemmas.{sort_letter}
use Rattle.p4_lexer.proofs.NumberLemmas.{digit_run, plain_longest, plain_within_width, width_parts, width_is, sort_first, fits_width, one_list}

-- a number with no prefix has none
no_width : (w : List ℕ) → IsPlain w → width_len w ≡ 0
no_width w p = elim (cases_lt 0 (width_len w)) [
  | inl some ↦
      let parts = width_parts w some in
      let first = sort_first (drop (digit_run w) w) parts.sort in
      let left : length w - digit_run w ≡ suc (length first.rest) = sym (length-drop (digit_run w) w) ∙ ap length first.spelled in
      let whole : length w ≤ plain_len w = subst (λ xs. length w ≤ plain_len xs) (append-nil w) (plain_longest w [] p) in
      absurd (omega (arith, left, whole, plain_within_width w parts.sort))
  | inr past ↦ omega arith
]

no_type_by : (digits rest : List ℕ) (n : ℕ) → (if begins_sort rest && is_width (value_of 10 digits) then n + 1 else 0) ≡ 0 → type_behind digits rest ≡ Integer
no_type_by digits [] n e = refl
no_type_by digits (c ∷ rest) n e = elim (cases_Bool (is_sort c)) [
  | inl sort ↦ elim (cases_Bool (is_width (value_of 10 digits))) [
    | inl fits ↦ absurd (let h : n + 1 ≡ 0 = rw fits at (rw sort at e) in omega arith)
    | inr fails ↦ rw (sort, fails) refl
  ]
  | inr other ↦ rw other refl
]

no_type : (w : List ℕ) → width_len w ≡ 0 → literal_type w ≡ Integer
no_type w none = no_type_by (take (digit_run w) w) (drop (digit_run w) w) (digit_run w) none

plain_stands : (w : List ℕ) (l : Literal) → IsPlain w → l.spelling ≡ w → l.int_type ≡ literal_type w → IsValue (plain_value (drop (width_len w) w)) l.value → StandsFor w l
plain_stands w l p spelled type_is value =
    let none : width_len w ≡ 0 = no_width w p in
    (spelled, inl (record { plain = p; no_type = type_is ∙ no_type w none; value = subst (λ n. IsValue (plain_value (drop n w)) l.value) none value }))

typed_is : (digits : List ℕ) (letter : ℕ) (rest : List ℕ) → IsTrue (list_all (is_digit_of 10) digits) → is_sort letter ≡ true → is_width (value_of 10 digits) ≡ true → literal_type (digits ++ letter ∷ rest) ≡ type_by letter (value_of 10 digits)
typed_is digits letter rest decimal sort fits =
    rw (run_exact (is_digit_of 10) digits letter rest decimal (sort_letter letter sort).0, drop-append_seam digits (letter ∷ rest), take-append_seam digits (letter ∷ rest), sort, fits) refl

type_of_prefix : {prefix : List ℕ} (p : IsPrefix prefix) → IsTypeOf p (type_by p.letter (value_of 10 p.digits))
type_of_prefix p = elim (cases_Bool (p.letter == 119)) [
  | inl unsigned ↦ rw unsigned (refl, eqb-true p.letter 119 unsigned)
  | inr other ↦ elim (or_cases (p.letter == 119) (p.letter == 115) p.sort) [
    | inl unsigned ↦ absurd (both_ways (p.letter == 119) other unsigned)
    | inr signed ↦ rw other (refl, eqb-true p.letter 115 signed)
  ]
]

prefixed_stands : (w : List ℕ) (l : Literal) → IsPrefixed w → l.spelling ≡ w → l.int_type ≡ literal_type w → IsValue (plain_value (drop (width_len w) w)) l.value → StandsFor w l
prefixed_stands w l p spelled type_is value =
    let q = p.width in
    let fits : is_width (value_of 10 q.digits) ≡ true = fits_width (value_of 10 q.digits) q.lower q.upper in
    let whole : w ≡ q.digits ++ q.letter ∷ p.plain = p.spelled ∙ ap (λ xs. xs ++ p.plain) q.spelled ∙ one_list q.digits q.letter p.plain in
    let width : width_len w ≡ length q.digits + 1 = ap width_len whole ∙ width_is q.digits q.letter p.plain q.decimal q.sort fits in
    let behind : drop (width_len w) w ≡ p.plain = ap (drop (width_len w)) (whole ∙ sym (one_list q.digits q.letter p.plain)) ∙ drop_at (q.digits ++ q.letter ∷ []) p.plain (width_len w) (length-append q.digits (q.letter ∷ []) ∙ sym width) in
    let found : l.int_type ≡ type_by q.letter (value_of 10 q.digits) = type_is ∙ ap literal_type whole ∙ typed_is q.digits q.letter p.plain q.decimal q.sort fits in (
      spelled,
      inr (record {
        prefixed = p;
        type_of = subst (IsTypeOf q) (sym found) (type_of_prefix q);
        value = subst (λ xs. IsValue (plain_value xs) l.value) behind value;
      }),
    )

pub stands : (w : List ℕ) (l : Literal) → IsNumber w → l.spelling ≡ w → l.int_type ≡ literal_type w → IsValue (plain_value (drop (width_len w) w)) l.value → StandsFor w l
stands w l (inl p) spelled type_is value = plain_stands w l p spelled type_is value
stands w l (inr p) spelled type_is value = prefixed_stands w l p spelled type_is value

-- what is behind the prefix, as a slice
pub value_behind : (text : List ℕ) (width : ℕ) (v : IntValue) → width ≡ width_len text → IsValue (plain_value (take (length text - width) (drop width text))) v → IsValue (plain_value (drop (width_len text) text)) v
value_behind text width v e value = subst (λ n. IsValue (plain_value (drop n text)) v) e (subst (λ xs. IsValue (plain_value xs) v) (rest_from text width) value)

-- and a number stands for one literal alone
prefixed_parts : (w : List ℕ) (p : IsPrefixed w) → (drop (width_len w) w ≡ p.plain) × (literal_type w ≡ type_by p.width.letter (value_of 10 p.width.digits))
prefixed_parts w p =
    let q = p.width in
    let fits : is_width (value_of 10 q.digits) ≡ true = fits_width (value_of 10 q.digits) q.lower q.upper in
    let whole : w ≡ q.digits ++ q.letter ∷ p.plain = p.spelled ∙ ap (λ xs. xs ++ p.plain) q.spelled ∙ one_list q.digits q.letter p.plain in
    let width : width_len w ≡ length q.digits + 1 = ap width_len whole ∙ width_is q.digits q.letter p.plain q.decimal q.sort fits in (
      ap (drop (width_len w)) (whole ∙ sym (one_list q.digits q.letter p.plain)) ∙ drop_at (q.digits ++ q.letter ∷ []) p.plain (width_len w) (length-append q.digits (q.letter ∷ []) ∙ sym width),
      ap literal_type whole ∙ typed_is q.digits q.letter p.plain q.decimal q.sort fits,
    )

prefix_type : {prefix : List ℕ} (p : IsPrefix prefix) (t : IntType) → IsTypeOf p t → t ≡ type_by p.letter (value_of 10 p.digits)
prefix_type p Integer h = absurd h
prefix_type p (Unsigned width) h = rw h.1 (ap (λ n. Unsigned n) h.0)
prefix_type p (Signed width) h = rw h.1 (ap (λ n. Signed n) h.0)

-- what is found of a literal by the number's bytes
abbrev IsFound : List ℕ → Literal → Type 0
IsFound w l = (l.spelling ≡ w) × (l.int_type ≡ literal_type w) × IsValue (plain_value (drop (width_len w) w)) l.value

found : (w : List ℕ) (l : Literal) → StandsFor w l → IsFound w l
found w l (spelled, inl integer) =
    let none : width_len w ≡ 0 = no_width w integer.plain in
    (spelled, integer.no_type ∙ sym (no_type w none), subst (λ n. IsValue (plain_value (drop n w)) l.value) (sym none) integer.value)
found w l (spelled, inr typed) =
    let parts = prefixed_parts w typed.prefixed in
    (spelled, prefix_type typed.prefixed.width l.int_type typed.type_of ∙ sym parts.1, subst (λ xs. IsValue (plain_value xs) l.value) (sym parts.0) typed.value)

one_value : (n : ℕ) (a b : IntValue) → IsValue n a → IsValue n b → a ≡ b
one_value n (Exact v) (Exact u) p q = ap (λ m. Exact m) (p.0 ∙ sym q.0)
one_value n (Exact v) TooLarge p q = absurd (omega (arith, p.1, q))
one_value n TooLarge (Exact u) p q = absurd (omega (arith, q.1, p))
one_value n TooLarge TooLarge p q = refl

abbrev literal_of : IntType → IntValue → List ℕ → Literal
literal_of t v s = record { int_type = t; value = v; spelling = s }

same_literal : (a b : IntType) (v u : IntValue) (s t : List ℕ) → a ≡ b → v ≡ u → s ≡ t → literal_of a v s ≡ literal_of b u t
same_literal a b v u s t p q r = cc

pub one_literal : (w : List ℕ) (l m : Literal) → StandsFor w l → StandsFor w m → l ≡ m
one_literal w l m p q =
    let a : IsFound w l = found w l p in
    let b : IsFound w m = found w m q in
    let spelling : l.spelling ≡ m.spelling = a.0 ∙ sym b.0 in
    let type_is : l.int_type ≡ m.int_type = a.1 ∙ sym b.1 in
    let value : l.value ≡ m.value = one_value (plain_value (drop (width_len w) w)) l.value m.value a.2 b.2 in
    same_literal l.int_type m.int_type l.value m.value l.spelling m.spelling type_is value spelling

has_value : (n : ℕ) → (v : IntValue) × IsValue n v
has_value n = elim (cases_lt n (2 ^ 128)) [
  | inl fits ↦ (Exact n, (refl, fits))
  | inr large ↦ (TooLarge, large)
]

pub has_literal : (w : List ℕ) → IsNumber w → (l : Literal) × StandsFor w l
has_literal w p =
    let v = has_value (plain_value (drop (width_len w) w)) in
    let l : Literal = record { int_type = literal_type w; value = v.0; spelling = w } in
    (l, stands w l p refl refl v.1)
