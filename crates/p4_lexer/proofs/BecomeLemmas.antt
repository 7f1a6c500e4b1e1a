-- Proper words become one list of tokens.
use Rattle.std.proofs.Common.{◌≡◌, ℕ, arith, map, List, [], ◌∷◌, ◌++◌, refl, sym, ap, ◌∙◌, subst, inl, inr, ◌⊎◌}
use Rattle.std.specs.List.{AllByRecursion}
use Rattle.std.proofs.lemmas.Bool.{false≢true, cases_Bool}
use Rattle.tg_base.specs.declared.place.Span.{Span}
use Rattle.p4_lexer.specs.declared.piece.Kind.TheVariants.{Sign as SignPiece}
use Rattle.p4_lexer.specs.declared.token.Token.{Token}
use Rattle.p4_lexer.specs.declared.token.Word.{Word}
use Rattle.p4_lexer.specs.declared.token.Word.TheVariants.{CloseArguments}
use Rattle.p4_lexer.specs.declared.token.Sign.{Sign as SignName}
use Rattle.p4_lexer.specs.declared.token.Sign.TheVariants.{ShiftRight, AtLeast, Greater, Assign}
use Rattle.p4_lexer.specs.Bytes.{greater}
use Rattle.p4_lexer.specs.Signs.{IsSign}
use Rattle.p4_lexer.specs.Cuts.{Cut}
use Rattle.p4_lexer.specs.SourceWords.{Placed}
use Rattle.p4_lexer.specs.Spellings.{sign_spelling}
use Rattle.p4_lexer.specs.Annotations.{Bare, Plain, Named, DefaultOnly, TableOnly}
use Rattle.p4_lexer.specs.Brackets.{InArguments}
use Rattle.p4_lexer.specs.Behind.{behind, in_arguments}
use Rattle.p4_lexer.specs.declared.extents.Bare.{Bare as BareAt}
use Rattle.p4_lexer.specs.declared.extents.Bare.TheVariants.{Plain as PlainAt, Named as NamedAt, DefaultOnly as DefaultOnlyAt, TableOnly as TableOnlyAt}
use Rattle.p4_lexer.specs.Extents.{bare_at}
use Rattle.p4_lexer.specs.Marking.{IsBareOf}
use Rattle.p4_lexer.specs.BareWords.{IsWord, IsProper}
use Rattle.p4_lexer.specs.Marks.{sign_cut, IsMarkOf, BeginsWithGreater, left_of, next_byte, place_of, Become}
use Rattle.p4_lexer.proofs.OpenLemmas.{in_arguments_decides}
use Rattle.p4_lexer.proofs.NextLemmas.{cut_is, cut_decides}
use Rattle.p4_lexer.proofs.BareMarkLemmas.{one_mark, has_mark}

abbrev pub token_of : Word → Span → Token
token_of word span = record { word = word; span = span }

tokens_same : (v w : Word) (p q : Span) → v ≡ w → p ≡ q → token_of v p ≡ token_of w q
tokens_same v w p q e f = cc

pub same_token : (t u : Token) → t.word ≡ u.word → t.span ≡ u.span → t ≡ u
same_token t u e f = tokens_same t.word u.word t.span u.span e f

-- how a word begins the tokens that it and those behind it become
pub record IsWhole (before : List Token) (b : Bare) (bare : List Bare) (tokens : List Token) : Type 0 where
  pub first : Token
  pub rest : List Token
  pub spelled : tokens ≡ first ∷ rest
  pub not_cut : (w : Placed) (left : List ℕ) → b ≡ Plain w → BeginsWithGreater w left → InArguments before → ⊥
  pub mark : IsMarkOf before b bare first.word
  pub place : first.span ≡ place_of b
  pub become : Become (before ++ first ∷ []) bare rest

pub record IsCut (before : List Token) (b : Bare) (bare : List Bare) (tokens : List Token) : Type 0 where
  pub first : Token
  pub rest : List Token
  pub spelled : tokens ≡ first ∷ rest
  pub word : Placed
  pub left : List ℕ
  pub plain : b ≡ Plain word
  pub begins : BeginsWithGreater word left
  pub inside : InArguments before
  pub closes : first.word ≡ CloseArguments
  pub place : first.span ≡ word.place
  pub become : Become (before ++ first ∷ []) (left_of word left ++ bare) rest

no_words : (before : List Token) (bare : List Bare) (tokens : List Token) → Become before bare tokens → bare ≡ [] → tokens ≡ []
no_words before bare tokens (Become.none before') e = refl
no_words before bare tokens (Become.whole before' b bare' t tokens' n m s r) e = absurd cc
no_words before bare tokens (Become.cut before' w rest bare' t tokens' g i c s r) e = absurd cc

begins_so : (before : List Token) (b : Bare) (bare : List Bare) (tokens : List Token) → Become before (b ∷ bare) tokens → IsWhole before b bare tokens ⊎ IsCut before b bare tokens
begins_so before b bare tokens (Become.whole before' b' bare' t tokens' n m s r) =
    inl (record { first = t; rest = tokens'; spelled = refl; not_cut = n; mark = m; place = s; become = r })
begins_so before b bare tokens (Become.cut before' w rest bare' t tokens' g i c s r) =
    inr (record { first = t; rest = tokens'; spelled = refl; word = w; left = rest; plain = refl; begins = g; inside = i; closes = c; place = s; become = r })

pub same_word : (v w : Placed) → Plain v ≡ Plain w → v ≡ w
same_word v w e = cc

same_left : (w : Placed) (a b : List ℕ) → BeginsWithGreater w a → BeginsWithGreater w b → a ≡ b
same_left w a b p q =
    let bytes : greater ∷ a ≡ greater ∷ b = ap (λ (c : Cut). c.bytes) (sym p.spelled ∙ q.spelled) in
    cc

-- the tokens are the only ones
pub one_become : (before : List Token) (bare : List Bare) (tokens : List Token) → Become before bare tokens → (others : List Token) → Become before bare others → others ≡ tokens
one_become before bare tokens (Become.none before') others q = no_words before [] others q refl
one_become before bare tokens (Become.whole before' b bare' t tokens' n m s r) others q = elim (begins_so before b bare' others q) [
  | inl whole ↦
      let same : whole.first ≡ t = same_token whole.first t (one_mark before b bare' whole.first.word t.word whole.mark m) (whole.place ∙ sym s) in
      let rest : whole.rest ≡ tokens' = one_become (before ++ t ∷ []) bare' tokens' r whole.rest (subst (λ u. Become (before ++ u ∷ []) bare' whole.rest) same whole.become) in
      whole.spelled ∙ ap (λ u. u ∷ whole.rest) same ∙ ap (λ r. t ∷ r) rest
  | inr cut ↦ absurd (n cut.word cut.left cut.plain cut.begins cut.inside)
]
one_become before bare tokens (Become.cut before' w left bare' t tokens' g i c s r) others q = elim (begins_so before (Plain w) bare' others q) [
  | inl whole ↦ absurd (whole.not_cut w left refl g i)
  | inr cut ↦
      let word : cut.word ≡ w = sym (same_word w cut.word cut.plain) in
      let begins : BeginsWithGreater w cut.left = subst (λ v. BeginsWithGreater v cut.left) word cut.begins in
      let lefts : cut.left ≡ left = same_left w cut.left left begins g in
      let same : cut.first ≡ t = same_token cut.first t (cut.closes ∙ sym c) (cut.place ∙ ap (λ (v : Placed). v.place) word ∙ sym s) in
      let there : Become (before ++ cut.first ∷ []) (left_of w left ++ bare') cut.rest =
      subst (λ l. Become (before ++ cut.first ∷ []) (left_of w l ++ bare') cut.rest) lefts (subst (λ v. Become (before ++ cut.first ∷ []) (left_of v cut.left ++ bare') cut.rest) word cut.become) in
      let rest : cut.rest ≡ tokens' = one_become (before ++ t ∷ []) (left_of w left ++ bare') tokens' r cut.rest (subst (λ u. Become (before ++ u ∷ []) (left_of w left ++ bare') cut.rest) same there) in
      cut.spelled ∙ ap (λ u. u ∷ cut.rest) same ∙ ap (λ r. t ∷ r) rest
]

-- whether the word begins with `>`
greater_by : (w : Placed) (bytes : List ℕ) → w.cut.bytes ≡ bytes → ((left : List ℕ) × BeginsWithGreater w left) ⊎ ((left : List ℕ) → BeginsWithGreater w left → ⊥)
greater_by w [] e = inr (λ left h. let bytes : w.cut.bytes ≡ greater ∷ left = ap (λ (c : Cut). c.bytes) h.spelled in absurd cc)
greater_by w (c ∷ left) e = elim (cases_Bool (cut_is w.cut (greater ∷ left))) [
  | inl here ↦ inl (left, record { spelled = (cut_decides w.cut (greater ∷ left)).0 here })
  | inr other ↦ inr (λ more h.
      let bytes : w.cut.bytes ≡ greater ∷ more = ap (λ (d : Cut). d.bytes) h.spelled in
      let same : more ≡ left = cc in
      false≢true (sym other ∙ (cut_decides w.cut (greater ∷ left)).1 (subst (λ l. w.cut ≡ record { kind = SignPiece; bytes = greater ∷ l }) same h.spelled)))
]

greater_or_not : (w : Placed) → ((left : List ℕ) × BeginsWithGreater w left) ⊎ ((left : List ℕ) → BeginsWithGreater w left → ⊥)
greater_or_not w = greater_by w w.cut.bytes refl

abbrev first_of : List ℕ → ℕ
first_of [] = 0
first_of (c ∷ rest) = c

-- what is left of a sign behind its `>`
pub left_is : (s : SignName) (left : List ℕ) → greater ∷ left ≡ sign_spelling s → (left ≡ []) ⊎ ((left ≡ sign_spelling Greater) ⊎ (left ≡ sign_spelling Assign))
left_is ShiftRight left e = let h : left ≡ 62 ∷ [] = cc in inr (inl h)
left_is AtLeast left e = let h : left ≡ 61 ∷ [] = cc in inr (inr h)
left_is Greater left e = let h : left ≡ [] = cc in inl h
left_is s left e = absurd (let head : greater ≡ first_of (sign_spelling s) = ap first_of e in omega arith)

-- the words become some tokens, whatever stands before them
abbrev pub HasTokens : List Token → List Bare → Type 0
HasTokens before bare = (tokens : List Token) × Become before bare tokens

whole_become : (before : List Token) (b : Bare) (bare : List Bare) → IsProper b → ((w : Placed) (left : List ℕ) → b ≡ Plain w → BeginsWithGreater w left → InArguments before → ⊥)
    → ((more : List Token) → HasTokens more bare) → HasTokens before (b ∷ bare)
whole_become before b bare proper not_cut others =
    let m = has_mark before b bare proper in
    let t : Token = token_of m.0 (place_of b) in
    let rest = others (before ++ t ∷ []) in
    (t ∷ rest.0, Become.whole before b bare t rest.0 not_cut m.1 refl rest.1)

word_become : (w : Placed) (bare : List Bare) → IsWord w.cut → ((more : List Token) → HasTokens more bare)
    → ((left : List ℕ) → BeginsWithGreater w left → (more : List Token) → HasTokens more (left_of w left ++ bare)) → (before : List Token) → HasTokens before (Plain w ∷ bare)
word_become w bare proper others lefts before = elim (greater_or_not w) [
  | inl begins ↦ elim (cases_Bool (in_arguments (behind before).open_)) [
    | inl inside ↦
        let t : Token = token_of CloseArguments w.place in
        let rest = lefts begins.0 begins.1 (before ++ t ∷ []) in
        (t ∷ rest.0, Become.cut before w begins.0 bare t rest.0 begins.1 ((in_arguments_decides before).0 inside) refl refl rest.1)
    | inr outside ↦ whole_become before (Plain w) bare proper (λ v left e g i. false≢true (sym outside ∙ (in_arguments_decides before).1 i)) others
  ]
  | inr other ↦ whole_become before (Plain w) bare proper (λ v left e g i. other left (subst (λ u. BeginsWithGreater u left) (sym (same_word w v e)) g)) others
]

-- a sign behind a `>` has none of its own left, unless it is the `>` itself
short_become : (w : Placed) (bare : List Bare) (s : SignName) → w.cut ≡ sign_cut s → ((left : List ℕ) → greater ∷ left ≡ sign_spelling s → left ≡ []) → ((more : List Token) → HasTokens more bare) → (before : List Token) → HasTokens before (Plain w ∷ bare)
short_become w bare s e short others =
    word_become w bare (subst IsWord (sym e) (tt, (s, refl))) others
    (λ left g more.
    let bytes : greater ∷ left ≡ sign_spelling s = ap (λ (c : Cut). c.bytes) (sym g.spelled ∙ e) in
    subst (λ l. HasTokens more (left_of w l ++ bare)) (sym (short left bytes)) (others more))

left_become : (w : Placed) (bare : List Bare) (left : List ℕ) → (left ≡ []) ⊎ ((left ≡ sign_spelling Greater) ⊎ (left ≡ sign_spelling Assign)) → ((more : List Token) → HasTokens more bare) → (before : List Token) → HasTokens before (left_of w left ++ bare)
left_become w bare left (inl none) others before = subst (λ l. HasTokens before (left_of w l ++ bare)) (sym none) (others before)
left_become w bare left (inr (inl one)) others before =
    subst (λ l. HasTokens before (left_of w l ++ bare)) (sym one)
    (short_become (record { cut = sign_cut Greater; place = next_byte w; replacement = w.replacement }) bare Greater refl (λ l e. cc) others before)
left_become w bare left (inr (inr equal)) others before =
    subst (λ l. HasTokens before (left_of w l ++ bare)) (sym equal)
    (short_become (record { cut = sign_cut Assign; place = next_byte w; replacement = w.replacement }) bare Assign refl (λ l e. absurd (let head : greater ≡ 61 = ap first_of e in omega arith)) others before)

sign_of_greater : (w : Placed) (left : List ℕ) → IsWord w.cut → BeginsWithGreater w left → IsSign (greater ∷ left)
sign_of_greater w left proper g = (subst IsWord g.spelled proper).1

plain_become : (w : Placed) (bare : List Bare) → IsWord w.cut → ((more : List Token) → HasTokens more bare) → (before : List Token) → HasTokens before (Plain w ∷ bare)
plain_become w bare proper others =
    word_become w bare proper others
    (λ left g. let sign = sign_of_greater w left proper g in left_become w bare left (left_is sign.0 left sign.1) others)

first_become : (b : Bare) (bare : List Bare) → IsProper b → ((more : List Token) → HasTokens more bare) → (before : List Token) → HasTokens before (b ∷ bare)
first_become (Plain w) bare proper others before = plain_become w bare proper others before
first_become (Named text place) bare proper others before = whole_become before (Named text place) bare proper (λ w left e. absurd cc) others
first_become (DefaultOnly place) bare proper others before = whole_become before (DefaultOnly place) bare proper (λ w left e. absurd cc) others
first_become (TableOnly place) bare proper others before = whole_become before (TableOnly place) bare proper (λ w left e. absurd cc) others

pub all_become : (bare : List Bare) → AllByRecursion IsProper bare → (before : List Token) → HasTokens before bare
all_become [] proper before = ([], Become.none before)
all_become (b ∷ bare) proper before = first_become b bare proper.0 (λ more. all_become bare proper.1 more) before

-- the same of words by their extents
pub all_proper : (text : List ℕ) (bare : List BareAt) → AllByRecursion (IsBareOf text) bare → AllByRecursion IsProper (map (bare_at text) bare)
all_proper text [] proper = tt
all_proper text (PlainAt w ∷ bare) proper = (proper.0.1, all_proper text bare proper.1)
all_proper text (NamedAt e place ∷ bare) proper = (tt, all_proper text bare proper.1)
all_proper text (DefaultOnlyAt place ∷ bare) proper = (tt, all_proper text bare proper.1)
all_proper text (TableOnlyAt place ∷ bare) proper = (tt, all_proper text bare proper.1)
