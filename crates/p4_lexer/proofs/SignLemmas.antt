-- The sign at the start of a text is the longest that begins there.
use Rattle.std.proofs.Common.{◌≡◌, ℕ, ◌<◌, ◌≤◌, true, List, [], ◌∷◌, ◌++◌, length, take, sym, refl, arith, subst, ◌==◌, ◌&&◌, ◌||◌, if◌then◌else◌, inl, inr}
use Rattle.std.specs.List.{list_any, AllByRecursion}
use Rattle.std.proofs.lemmas.Bool.{and_parts, or_cases, eqb-true, cases_Bool, cond_both}
use Rattle.p4_lexer.specs.declared.token.Sign.{Sign}
use Rattle.p4_lexer.specs.declared.token.Sign.TheVariants.{Mask, SaturatingPlus, SaturatingMinus, ShiftLeft, ShiftRight, AtMost, AtLeast, Equal, NotEqual, And, Or, Concat, Range, Plus, Minus, Star, Slash, Percent, Ampersand, Bar, Caret, Tilde, Not, Less, Greater, Assign, LeftParen, RightParen, LeftBrace, RightBrace, LeftBracket, RightBracket, Comma, Semicolon, Colon, Dot, Question, Underscore}
use Rattle.p4_lexer.specs.Spellings.{sign_spelling}
use Rattle.p4_lexer.specs.Signs.{IsSign}
use Rattle.p4_lexer.specs.Lengths.{is_sign_of_three, is_sign_of_two, is_sign_of_one, sign_len}

-- what holds at each number of a list holds at one that is in it
any_elim : (P : ℕ → Type 0) (xs : List ℕ) (a : ℕ) → AllByRecursion P xs → list_any (λ s. s == a) xs ≡ true → P a
any_elim P [] a all e = absurd cc
any_elim P (x ∷ xs) a all e = elim (or_cases (x == a) (list_any (λ s. s == a) xs) e) [
  | inl here ↦ subst P (eqb-true x a here) all.0
  | inr there ↦ any_elim P xs a all.1 there
]

pub one_is_sign : (a : ℕ) → is_sign_of_one a ≡ true → IsSign (a ∷ [])
one_is_sign a e = any_elim (λ c. IsSign (c ∷ [])) (43 ∷ 45 ∷ 42 ∷ 47 ∷ 37 ∷ 38 ∷ 124 ∷ 94 ∷ 126 ∷ 33 ∷ 60 ∷ 62 ∷ 61 ∷ 40 ∷ 41 ∷ 123 ∷ 125 ∷ 91 ∷ 93 ∷ 44 ∷ 59 ∷ 58 ∷ 46 ∷ 63 ∷ 95 ∷ []) a
    ((Plus, refl), ((Minus, refl), ((Star, refl), ((Slash, refl), ((Percent, refl), ((Ampersand, refl), ((Bar, refl), ((Caret, refl), ((Tilde, refl), ((Not, refl), ((Less, refl), ((Greater, refl), ((Assign, refl), ((LeftParen, refl), ((RightParen, refl), ((LeftBrace, refl), ((RightBrace, refl), ((LeftBracket, refl), ((RightBracket, refl), ((Comma, refl), ((Semicolon, refl), ((Colon, refl), ((Dot, refl), ((Question, refl), ((Underscore, refl), tt))))))))))))))))))))))))) e

pub two_is_sign : (a b : ℕ) → is_sign_of_two a b ≡ true → IsSign (a ∷ b ∷ [])
two_is_sign a b e = elim (or_cases ((a == b) && list_any (λ s. s == a) (60 ∷ 62 ∷ 61 ∷ 38 ∷ 124 ∷ 43 ∷ 46 ∷ [])) ((b == 61) && list_any (λ s. s == a) (60 ∷ 62 ∷ 33 ∷ [])) e) [
  | inl twice ↦
      let both = and_parts (a == b) (list_any (λ s. s == a) (60 ∷ 62 ∷ 61 ∷ 38 ∷ 124 ∷ 43 ∷ 46 ∷ [])) twice in
      subst (λ c. IsSign (a ∷ c ∷ [])) (eqb-true a b both.0) (any_elim (λ c. IsSign (c ∷ c ∷ [])) (60 ∷ 62 ∷ 61 ∷ 38 ∷ 124 ∷ 43 ∷ 46 ∷ []) a
      ((ShiftLeft, refl), ((ShiftRight, refl), ((Equal, refl), ((And, refl), ((Or, refl), ((Concat, refl), ((Range, refl), tt))))))) both.1)
  | inr equal ↦
      let both = and_parts (b == 61) (list_any (λ s. s == a) (60 ∷ 62 ∷ 33 ∷ [])) equal in
      subst (λ c. IsSign (a ∷ c ∷ [])) (sym (eqb-true b 61 both.0)) (any_elim (λ c. IsSign (c ∷ 61 ∷ [])) (60 ∷ 62 ∷ 33 ∷ []) a
      ((AtMost, refl), ((AtLeast, refl), ((NotEqual, refl), tt))) both.1)
]

pub three_is_sign : (a b c : ℕ) → is_sign_of_three a b c ≡ true → IsSign (a ∷ b ∷ c ∷ [])
three_is_sign a b c e = elim (or_cases ((a == 38) && ((b == 38) && (c == 38))) ((a == 124) && (((b == 43) || (b == 45)) && (c == 124))) e) [
  | inl mask ↦
      let first = and_parts (a == 38) ((b == 38) && (c == 38)) mask in
      let rest = and_parts (b == 38) (c == 38) first.1 in
      rw (eqb-true a 38 first.0, eqb-true b 38 rest.0, eqb-true c 38 rest.1) (Mask, refl)
  | inr saturating ↦
      let first = and_parts (a == 124) (((b == 43) || (b == 45)) && (c == 124)) saturating in
      let rest = and_parts ((b == 43) || (b == 45)) (c == 124) first.1 in
      elim (or_cases (b == 43) (b == 45) rest.0) [
        | inl plus ↦ rw (eqb-true a 124 first.0, eqb-true b 43 plus, eqb-true c 124 rest.1) (SaturatingPlus, refl)
        | inr minus ↦ rw (eqb-true a 124 first.0, eqb-true b 45 minus, eqb-true c 124 rest.1) (SaturatingMinus, refl)
      ]
]

one_long : (a : ℕ) (rest : List ℕ) → is_sign_of_one a ≡ true → 1 ≤ sign_len (a ∷ rest)
one_long a [] e = rw e (omega arith)
one_long a (b ∷ []) e = cond_both (is_sign_of_two a b) 2 (if is_sign_of_one a then 1 else 0) (λ n. 1 ≤ n) (λ _. omega arith) (λ _. rw e (omega arith))
one_long a (b ∷ c ∷ rest) e = cond_both (is_sign_of_three a b c) 3 (if is_sign_of_two a b then 2 else (if is_sign_of_one a then 1 else 0)) (λ n. 1 ≤ n) (λ _. omega arith)
    (λ _. cond_both (is_sign_of_two a b) 2 (if is_sign_of_one a then 1 else 0) (λ n. 1 ≤ n) (λ _. omega arith) (λ _. rw e (omega arith)))

two_long : (a b : ℕ) (rest : List ℕ) → is_sign_of_two a b ≡ true → 2 ≤ sign_len (a ∷ b ∷ rest)
two_long a b [] e = rw e (omega arith)
two_long a b (c ∷ rest) e = cond_both (is_sign_of_three a b c) 3 (if is_sign_of_two a b then 2 else (if is_sign_of_one a then 1 else 0)) (λ n. 2 ≤ n) (λ _. omega arith) (λ _. rw e (omega arith))

-- no sign that begins a text is longer
pub sign_longest : (s : Sign) (rest : List ℕ) → length (sign_spelling s) ≤ sign_len (sign_spelling s ++ rest)
sign_longest Mask rest = omega arith
sign_longest SaturatingPlus rest = omega arith
sign_longest SaturatingMinus rest = omega arith
sign_longest ShiftLeft rest = two_long 60 60 rest refl
sign_longest ShiftRight rest = two_long 62 62 rest refl
sign_longest AtMost rest = two_long 60 61 rest refl
sign_longest AtLeast rest = two_long 62 61 rest refl
sign_longest Equal rest = two_long 61 61 rest refl
sign_longest NotEqual rest = two_long 33 61 rest refl
sign_longest And rest = two_long 38 38 rest refl
sign_longest Or rest = two_long 124 124 rest refl
sign_longest Concat rest = two_long 43 43 rest refl
sign_longest Range rest = two_long 46 46 rest refl
sign_longest Plus rest = one_long 43 rest refl
sign_longest Minus rest = one_long 45 rest refl
sign_longest Star rest = one_long 42 rest refl
sign_longest Slash rest = one_long 47 rest refl
sign_longest Percent rest = one_long 37 rest refl
sign_longest Ampersand rest = one_long 38 rest refl
sign_longest Bar rest = one_long 124 rest refl
sign_longest Caret rest = one_long 94 rest refl
sign_longest Tilde rest = one_long 126 rest refl
sign_longest Not rest = one_long 33 rest refl
sign_longest Less rest = one_long 60 rest refl
sign_longest Greater rest = one_long 62 rest refl
sign_longest Assign rest = one_long 61 rest refl
sign_longest LeftParen rest = one_long 40 rest refl
sign_longest RightParen rest = one_long 41 rest refl
sign_longest LeftBrace rest = one_long 123 rest refl
sign_longest RightBrace rest = one_long 125 rest refl
sign_longest LeftBracket rest = one_long 91 rest refl
sign_longest RightBracket rest = one_long 93 rest refl
sign_longest Comma rest = one_long 44 rest refl
sign_longest Semicolon rest = one_long 59 rest refl
sign_longest Colon rest = one_long 58 rest refl
sign_longest Dot rest = one_long 46 rest refl
sign_longest Question rest = one_long 63 rest refl
sign_longest Underscore rest = one_long 95 rest refl

one_spelled : (a : ℕ) (rest : List ℕ) → 0 < (if is_sign_of_one a then 1 else 0) → IsSign (take (if is_sign_of_one a then 1 else 0) (a ∷ rest))
one_spelled a rest some = elim (cases_Bool (is_sign_of_one a)) [
  | inl holds ↦ rw holds (one_is_sign a holds)
  | inr fails ↦ absurd (let h : 0 < 0 = rw fails at some in omega arith)
]

two_spelled : (a b : ℕ) (rest : List ℕ) → 0 < (if is_sign_of_two a b then 2 else (if is_sign_of_one a then 1 else 0)) → IsSign (take (if is_sign_of_two a b then 2 else (if is_sign_of_one a then 1 else 0)) (a ∷ b ∷ rest))
two_spelled a b rest some = elim (cases_Bool (is_sign_of_two a b)) [
  | inl holds ↦ rw holds (two_is_sign a b holds)
  | inr fails ↦ let later : 0 < (if is_sign_of_one a then 1 else 0) = rw fails at some in rw fails (one_spelled a (b ∷ rest) later)
]

-- and what is found is a sign
pub sign_spelled : (text : List ℕ) → 0 < sign_len text → IsSign (take (sign_len text) text)
sign_spelled [] some = absurd (omega arith)
sign_spelled (a ∷ []) some = one_spelled a [] some
sign_spelled (a ∷ b ∷ []) some = two_spelled a b [] some
sign_spelled (a ∷ b ∷ c ∷ rest) some = elim (cases_Bool (is_sign_of_three a b c)) [
  | inl holds ↦ rw holds (three_is_sign a b c holds)
  | inr fails ↦ let later : 0 < (if is_sign_of_two a b then 2 else (if is_sign_of_one a then 1 else 0)) = rw fails at some in rw fails (two_spelled a b (c ∷ rest) later)
]
