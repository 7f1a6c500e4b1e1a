-- The `<` of `enum bit<` among the brackets that are kept, and the `>` that closes it.
use Rattle.std.proofs.Common.{◌≡◌, Bool, true, false, Decides, List, [], ◌∷◌, ◌++◌, append_assoc, refl, sym, ap, ◌∙◌, subst, inl, inr, ◌⊎◌}
use Rattle.std.proofs.lemmas.List.{same_from_push}
use Rattle.std.proofs.lemmas.Bool.{false≢true}
use Rattle.p4_lexer.specs.declared.token.Token.{Token}
use Rattle.p4_lexer.specs.declared.token.Word.{Word}
use Rattle.p4_lexer.specs.declared.token.Word.TheVariants.{Sign, OpenArguments, CloseArguments}
use Rattle.p4_lexer.specs.declared.token.Sign.{Sign as SignName}
use Rattle.p4_lexer.specs.declared.token.Sign.TheVariants.{LeftParen, RightParen, LeftBrace, RightBrace, LeftBracket, RightBracket}
use Rattle.p4_lexer.specs.declared.behind.Last.{Last}
use Rattle.p4_lexer.specs.declared.behind.Last.TheVariants.{EnumBit, Width as WidthLast, Other as OtherLast, Dot, TakesArguments, Declares, Enum}
use Rattle.p4_lexer.specs.declared.behind.Open.{Open}
use Rattle.p4_lexer.specs.declared.behind.Open.TheVariants.{Arguments, Width, Other}
use Rattle.p4_lexer.specs.Brackets.{Bracket, behind_word, open_behind}
use Rattle.p4_lexer.specs.Behind.{behind, last_behind, behind_close, close_other, close_arguments, opened_by, with_sign, with_word}
use Rattle.p4_lexer.proofs.SnocLemmas.{has_last, snoc_ind, push_not_nil, middle_not_nil}
use Rattle.p4_lexer.proofs.OpenLemmas.{brackets_of, with_word_brackets, behind_push, open_behind_push}
use Rattle.p4_lexer.proofs.LastLemmas.{EndsEnumBit, enum_bit_ends, enum_bit_kept, IsKept, kept_push}

-- no `>` among the tokens closes the `<` before them
abbrev pub StaysOpen : List Token → Type 0
StaysOpen inside = (front rest : List Token) (t : Token) → inside ≡ front ++ t ∷ rest → t.word ≡ CloseArguments → open_behind [] front ≡ [] → ⊥

-- `enum bit<` stands among the tokens and is open behind them, and above it these brackets
pub record Pending (above : List Bracket) (before : List Token) : Type 0 where
  pub front : List Token
  pub opening : Token
  pub inside : List Token
  pub spelled : before ≡ front ++ opening ∷ inside
  pub ends : EndsEnumBit front
  pub opens : opening.word ≡ OpenArguments
  pub stays : StaysOpen inside
  pub above_is : open_behind [] inside ≡ above

pub pending_new : (before : List Token) (t : Token) → EndsEnumBit before → t.word ≡ OpenArguments → Pending [] (before ++ t ∷ [])
pending_new before t ends opens = record {
  front = before;
  opening = t;
  inside = [];
  spelled = refl;
  ends = ends;
  opens = opens;
  stays = λ front rest u spelled closes empty. middle_not_nil front u rest spelled;
  above_is = refl;
}

stays_push : (inside : List Token) (t : Token) → StaysOpen inside → (t.word ≡ CloseArguments → open_behind [] inside ≡ [] → ⊥) → StaysOpen (inside ++ t ∷ [])
stays_push inside t stays more front rest u spelled closes empty = elim (has_last rest) [
  | inl none ↦
      let same = same_from_push inside front t u (spelled ∙ ap (λ r. front ++ u ∷ r) none) in
      more (ap (λ (v : Token). v.word) same.1 ∙ closes) (ap (open_behind []) same.0 ∙ empty)
  | inr pushed ↦
      let same = same_from_push inside (front ++ u ∷ pushed.0) t pushed.1 (spelled ∙ ap (λ r. front ++ u ∷ r) pushed.2 ∙ sym (append_assoc front (u ∷ pushed.0) (pushed.1 ∷ []))) in
      stays front pushed.0 u same.0 closes empty
]

pub pending_on : (above : List Bracket) (before : List Token) (t : Token) → Pending above before → (t.word ≡ CloseArguments → above ≡ [] → ⊥) → Pending (behind_word above t.word) (before ++ t ∷ [])
pending_on above before t p more = record {
  front = p.front;
  opening = p.opening;
  inside = p.inside ++ t ∷ [];
  spelled = ap (λ b. b ++ t ∷ []) p.spelled ∙ append_assoc p.front (p.opening ∷ p.inside) (t ∷ []);
  ends = p.ends;
  opens = p.opens;
  stays = stays_push p.inside t p.stays (λ closes empty. more closes (sym p.above_is ∙ empty));
  above_is = open_behind_push [] p.inside t ∙ ap (λ o. behind_word o t.word) p.above_is;
}

-- where `enum bit<` is open behind one more token
abbrev pub WasPending : List Bracket → List Token → Token → Type 0
WasPending above before t =
    (record { above_is : above ≡ []; opens : t.word ≡ OpenArguments; ends : EndsEnumBit before })
    ⊎ ((inner : List Bracket) × Pending inner before × (behind_word inner t.word ≡ above) × (t.word ≡ CloseArguments → inner ≡ [] → ⊥))

pub pending_back : (above : List Bracket) (before : List Token) (t : Token) → Pending above (before ++ t ∷ []) → WasPending above before t
pending_back above before t p = elim (has_last p.inside) [
  | inl none ↦
      let same = same_from_push before p.front t p.opening (p.spelled ∙ ap (λ r. p.front ++ p.opening ∷ r) none) in
      inl (record { above_is = sym p.above_is ∙ ap (open_behind []) none; opens = ap (λ (v : Token). v.word) same.1 ∙ p.opens; ends = subst EndsEnumBit (sym same.0) p.ends })
  | inr pushed ↦
      let same = same_from_push before (p.front ++ p.opening ∷ pushed.0) t pushed.1 (p.spelled ∙ ap (λ r. p.front ++ p.opening ∷ r) pushed.2 ∙ sym (append_assoc p.front (p.opening ∷ pushed.0) (pushed.1 ∷ []))) in
      let word : t.word ≡ pushed.1.word = ap (λ (v : Token). v.word) same.1 in
      inr (
        open_behind [] pushed.0,
        record {
          front = p.front;
          opening = p.opening;
          inside = pushed.0;
          spelled = same.0;
          ends = p.ends;
          opens = p.opens;
          stays = λ front rest u spelled closes empty.
              p.stays front (rest ++ pushed.1 ∷ []) u (pushed.2 ∙ ap (λ i. i ++ pushed.1 ∷ []) spelled ∙ append_assoc front (u ∷ rest) (pushed.1 ∷ [])) closes empty;
          above_is = refl;
        },
        ap (behind_word (open_behind [] pushed.0)) word ∙ sym (open_behind_push [] pushed.0 pushed.1) ∙ ap (open_behind []) (sym pushed.2) ∙ p.above_is,
        λ closes empty. p.stays pushed.0 [] pushed.1 pushed.2 (sym word ∙ closes) empty,
      )
]

-- the same among the brackets that are kept
pub record Framed (above : List Bracket) (open_ : List Open) : Type 0 where
  pub inner : List Open
  pub outer : List Open
  pub spelled : open_ ≡ inner ++ Width ∷ outer
  pub above_is : brackets_of inner ≡ above

-- a word behind which the `<` stays open changes nothing below it
inner_other : (inner outer : List Open) → close_other (inner ++ Width ∷ outer) ≡ close_other inner ++ Width ∷ outer
inner_other [] outer = refl
inner_other (Arguments ∷ inner) outer = refl
inner_other (Width ∷ inner) outer = refl
inner_other (Other ∷ inner) outer = refl

inner_close : (inner outer : List Open) → (inner ≡ [] → ⊥) → close_arguments (inner ++ Width ∷ outer) ≡ close_arguments inner ++ Width ∷ outer
inner_close [] outer some = absurd (some refl)
inner_close (Arguments ∷ inner) outer some = refl
inner_close (Width ∷ inner) outer some = refl
inner_close (Other ∷ inner) outer some = refl

inner_sign : (inner outer : List Open) (s : SignName) → with_sign (inner ++ Width ∷ outer) s ≡ with_sign inner s ++ Width ∷ outer
inner_sign inner outer LeftParen = refl
inner_sign inner outer LeftBrace = refl
inner_sign inner outer LeftBracket = refl
inner_sign inner outer RightParen = inner_other inner outer
inner_sign inner outer RightBrace = inner_other inner outer
inner_sign inner outer RightBracket = inner_other inner outer
inner_sign inner outer _ = refl

pub inner_word : (last : Last) (inner outer : List Open) (w : Word) → (w ≡ CloseArguments → inner ≡ [] → ⊥) → with_word last (inner ++ Width ∷ outer) w ≡ with_word last inner w ++ Width ∷ outer
inner_word last inner outer (Sign s) some = inner_sign inner outer s
inner_word last inner outer OpenArguments some = refl
inner_word last inner outer CloseArguments some = inner_close inner outer (some refl)
inner_word last inner outer _ some = refl

-- where the `<` of `enum bit<` among the brackets was before a word
abbrev WasFramed : Last → List Open → Word → List Open → List Open → Type 0
WasFramed last open_ w inner outer =
    (record { inner_is : inner ≡ []; opens : w ≡ OpenArguments; ends : last ≡ EnumBit })
    ⊎ ((was : List Open) × (open_ ≡ was ++ Width ∷ outer) × (with_word last was w ≡ inner) × (w ≡ CloseArguments → was ≡ [] → ⊥))

framed_other : (open_ inner outer : List Open) → close_other open_ ≡ inner ++ Width ∷ outer → (was : List Open) × (open_ ≡ was ++ Width ∷ outer) × (close_other was ≡ inner)
framed_other [] inner outer e = absurd (middle_not_nil inner Width outer e)
framed_other (Other ∷ open_) inner outer e = (Other ∷ inner, ap (λ o. Other ∷ o) e, refl)
framed_other (Arguments ∷ open_) [] outer e = absurd cc
framed_other (Arguments ∷ open_) (x ∷ inner) outer e =
    let head : Arguments ≡ x = cc in
    (Arguments ∷ inner, e ∙ ap (λ y. y ∷ (inner ++ Width ∷ outer)) (sym head), ap (λ y. y ∷ inner) head)
framed_other (Width ∷ open_) [] outer e = ([], e, refl)
framed_other (Width ∷ open_) (x ∷ inner) outer e =
    let head : Width ≡ x = cc in
    (Width ∷ inner, e ∙ ap (λ y. y ∷ (inner ++ Width ∷ outer)) (sym head), ap (λ y. y ∷ inner) head)

framed_close : (open_ inner outer : List Open) → close_arguments open_ ≡ inner ++ Width ∷ outer → (was : List Open) × (open_ ≡ was ++ Width ∷ outer) × (close_arguments was ≡ inner) × (was ≡ [] → ⊥)
framed_close [] inner outer e = absurd (middle_not_nil inner Width outer e)
framed_close (Arguments ∷ open_) inner outer e = (Arguments ∷ inner, ap (λ o. Arguments ∷ o) e, refl, λ h. cc)
framed_close (Width ∷ open_) inner outer e = (Width ∷ inner, ap (λ o. Width ∷ o) e, refl, λ h. cc)
framed_close (Other ∷ open_) [] outer e = absurd cc
framed_close (Other ∷ open_) (x ∷ inner) outer e =
    let head : Other ≡ x = cc in
    (Other ∷ inner, e ∙ ap (λ y. y ∷ (inner ++ Width ∷ outer)) (sym head), ap (λ y. y ∷ inner) head, λ h. cc)

framed_push : (o : Open) (open_ inner outer : List Open) → o ∷ open_ ≡ inner ++ Width ∷ outer → ((inner ≡ []) × (o ≡ Width)) ⊎ ((was : List Open) × (open_ ≡ was ++ Width ∷ outer) × (o ∷ was ≡ inner))
framed_push o open_ [] outer e = let head : o ≡ Width = cc in inl (refl, head)
framed_push o open_ (x ∷ inner) outer e =
    let head : o ≡ x = cc in
    let rest : open_ ≡ inner ++ Width ∷ outer = cc in
    inr (inner, rest, ap (λ y. y ∷ inner) head)

opened_width : (last : Last) → opened_by last ≡ Width → last ≡ EnumBit
opened_width EnumBit e = refl
opened_width OtherLast e = absurd cc
opened_width Dot e = absurd cc
opened_width TakesArguments e = absurd cc
opened_width Declares e = absurd cc
opened_width Enum e = absurd cc
opened_width WidthLast e = absurd cc

framed_paren : (last : Last) (open_ inner outer : List Open) (w : Word) → with_word last open_ w ≡ Other ∷ open_ → (w ≡ CloseArguments → ⊥) → ((was : List Open) → with_word last was w ≡ Other ∷ was)
    → with_word last open_ w ≡ inner ++ Width ∷ outer → WasFramed last open_ w inner outer
framed_paren last open_ inner outer w here not_close each e = elim (framed_push Other open_ inner outer (sym here ∙ e)) [
  | inl none ↦ let h : Other ≡ Width = none.1 in absurd cc
  | inr was ↦ inr (was.0, was.1, each was.0 ∙ was.2, λ closes empty. not_close closes)
]

framed_sign : (last : Last) (open_ inner outer : List Open) (s : SignName) → with_sign open_ s ≡ inner ++ Width ∷ outer → WasFramed last open_ (Sign s) inner outer
framed_sign last open_ inner outer LeftParen e = framed_paren last open_ inner outer (Sign LeftParen) refl (λ h. cc) (λ was. refl) e
framed_sign last open_ inner outer LeftBrace e = framed_paren last open_ inner outer (Sign LeftBrace) refl (λ h. cc) (λ was. refl) e
framed_sign last open_ inner outer LeftBracket e = framed_paren last open_ inner outer (Sign LeftBracket) refl (λ h. cc) (λ was. refl) e
framed_sign last open_ inner outer RightParen e = let was = framed_other open_ inner outer e in inr (was.0, was.1, was.2, λ closes empty. cc)
framed_sign last open_ inner outer RightBrace e = let was = framed_other open_ inner outer e in inr (was.0, was.1, was.2, λ closes empty. cc)
framed_sign last open_ inner outer RightBracket e = let was = framed_other open_ inner outer e in inr (was.0, was.1, was.2, λ closes empty. cc)
framed_sign last open_ inner outer _ e = inr (inner, e, refl, λ closes empty. cc)

framed_word : (last : Last) (open_ inner outer : List Open) (w : Word) → with_word last open_ w ≡ inner ++ Width ∷ outer → WasFramed last open_ w inner outer
framed_word last open_ inner outer (Sign s) e = framed_sign last open_ inner outer s e
framed_word last open_ inner outer OpenArguments e = elim (framed_push (opened_by last) open_ inner outer e) [
  | inl none ↦ inl (record { inner_is = none.0; opens = refl; ends = opened_width last none.1 })
  | inr was ↦ inr (was.0, was.1, was.2, λ closes empty. cc)
]
framed_word last open_ inner outer CloseArguments e = let was = framed_close open_ inner outer e in inr (was.0, was.1, was.2, λ closes empty. was.3 empty)
framed_word last open_ inner outer _ e = inr (inner, e, refl, λ closes empty. cc)

no_brackets : (open_ : List Open) → brackets_of open_ ≡ [] → open_ ≡ []
no_brackets [] e = refl
no_brackets (o ∷ open_) e = absurd cc

pub pending_framed : (before : List Token) (above : List Bracket) → (Pending above before → Framed above (behind before).open_) × (Framed above (behind before).open_ → Pending above before)
pending_framed = snoc_ind (λ before. (above : List Bracket) → (Pending above before → Framed above (behind before).open_) × (Framed above (behind before).open_ → Pending above before))
    (λ above. (λ p. absurd (middle_not_nil p.front p.opening p.inside p.spelled), λ f. absurd (middle_not_nil f.inner Width f.outer f.spelled)))
    (λ before t same above.
    let last = (behind before).last in
    let pushed : (behind (before ++ t ∷ [])).open_ ≡ with_word last (behind before).open_ t.word = ap (λ b. b.open_) (behind_push before t) in (
      λ p. elim (pending_back above before t p) [
        | inl new ↦ record {
          inner = [];
          outer = (behind before).open_;
          spelled = pushed ∙ ap (with_word last (behind before).open_) new.opens ∙ ap (λ l. opened_by l ∷ (behind before).open_) (enum_bit_kept before new.ends);
          above_is = sym new.above_is;
        }
        | inr old ↦
            let f : Framed old.0 (behind before).open_ = (same old.0).0 old.1 in
            record {
              inner = with_word last f.inner t.word;
              outer = f.outer;
              spelled = pushed ∙ ap (λ o. with_word last o t.word) f.spelled ∙ inner_word last f.inner f.outer t.word (λ closes empty. old.3 closes (sym f.above_is ∙ ap brackets_of empty));
              above_is = with_word_brackets last f.inner t.word ∙ ap (λ o. behind_word o t.word) f.above_is ∙ old.2;
            }
      ],
      λ f. elim (framed_word last (behind before).open_ f.inner f.outer t.word (sym pushed ∙ f.spelled)) [
        | inl new ↦ subst (λ a. Pending a (before ++ t ∷ [])) (sym (ap brackets_of new.inner_is) ∙ f.above_is) (pending_new before t (enum_bit_ends before new.ends) new.opens)
        | inr old ↦
            let p : Pending (brackets_of old.0) before = (same (brackets_of old.0)).1 (record { inner = old.0; outer = f.outer; spelled = old.1; above_is = refl }) in
            subst (λ a. Pending a (before ++ t ∷ [])) (sym (with_word_brackets last old.0 t.word) ∙ ap brackets_of old.2 ∙ f.above_is)
            (pending_on (brackets_of old.0) before t p (λ closes empty. old.3 closes (no_brackets old.0 empty)))
      ],
    ))

-- the `>` of `enum bit<..>` stands last
abbrev pub EndsWidth : List Token → Type 0
EndsWidth before = (rest : List Token) × (close : Token) × (before ≡ rest ++ close ∷ []) × (close.word ≡ CloseArguments) × Pending [] rest

abbrev pub is_width : Last → Bool
is_width WidthLast = true
is_width _ = false

width_true : (last : Last) → is_width last ≡ true → last ≡ WidthLast
width_true WidthLast e = refl
width_true OtherLast e = absurd (false≢true e)
width_true Dot e = absurd (false≢true e)
width_true TakesArguments e = absurd (false≢true e)
width_true Declares e = absurd (false≢true e)
width_true Enum e = absurd (false≢true e)
width_true EnumBit e = absurd (false≢true e)

width_ends : (before : List Token) (t : Token) → (behind (before ++ t ∷ [])).last ≡ WidthLast → EndsWidth (before ++ t ∷ [])
width_ends before t e =
    let kept : (t.word ≡ CloseArguments) × ((outer : List Open) × ((behind before).open_ ≡ Width ∷ outer)) = subst (IsKept before t) e (kept_push before t) in
    (before, t, refl, kept.0, (pending_framed before []).1 (record { inner = []; outer = kept.1.0; spelled = kept.1.1; above_is = refl }))

width_kept : (before : List Token) → EndsWidth before → (behind before).last ≡ WidthLast
width_kept before h =
    let f : Framed [] (behind h.0).open_ = (pending_framed h.0 []).0 h.4 in
    let top : (behind h.0).open_ ≡ Width ∷ f.outer = f.spelled ∙ ap (λ i. i ++ Width ∷ f.outer) (no_brackets f.inner f.above_is) in
    ap (λ b. (behind b).last) h.2 ∙ ap (λ b. b.last) (behind_push h.0 h.1) ∙ ap (last_behind (behind h.0).last (behind h.0).open_) h.3 ∙ ap behind_close top

pub width_decides : (before : List Token) → Decides (is_width (behind before).last) (EndsWidth before)
width_decides before = elim (has_last before) [
  | inl none ↦ subst (λ b. Decides (is_width (behind b).last) (EndsWidth b)) (sym none) (λ e. absurd (false≢true e), λ h. absurd (push_not_nil h.0 h.1 (sym h.2)))
  | inr pushed ↦
      subst (λ b. Decides (is_width (behind b).last) (EndsWidth b)) (sym pushed.2)
      (λ e. width_ends pushed.0 pushed.1 (width_true (behind (pushed.0 ++ pushed.1 ∷ [])).last e), λ h. ap is_width (width_kept (pushed.0 ++ pushed.1 ∷ []) h))
]
