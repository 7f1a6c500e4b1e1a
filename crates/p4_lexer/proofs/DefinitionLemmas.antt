-- A `typedef` that is not ended, and the last name in it.
use Rattle.std.proofs.Common.{◌≡◌, ℕ, List, [], ◌∷◌, ◌++◌, append_assoc, refl, sym, ap, ◌∙◌, subst, inl, inr, ◌⊎◌}
use Rattle.std.specs.List.{AllByRecursion}
use Rattle.std.proofs.lemmas.List.{same_from_push}
use Rattle.p4_lexer.specs.declared.token.Token.{Token}
use Rattle.p4_lexer.specs.declared.token.Word.{Word}
use Rattle.p4_lexer.specs.declared.token.Word.TheVariants.{Keyword, Sign, Id, TypeName, Base}
use Rattle.p4_lexer.specs.declared.token.Keyword.{Keyword as KeywordName}
use Rattle.p4_lexer.specs.declared.token.Keyword.TheVariants.{Typedef}
use Rattle.p4_lexer.specs.declared.token.Sign.{Sign as SignName}
use Rattle.p4_lexer.specs.declared.token.Sign.TheVariants.{Semicolon}
use Rattle.p4_lexer.specs.TypeNames.{IsNameOf, NoName, NoSemicolon}
use Rattle.p4_lexer.specs.declared.behind.Definition.{Definition}
use Rattle.p4_lexer.specs.declared.behind.Definition.TheVariants.{Outside, Inside, Named}
use Rattle.p4_lexer.specs.Behind.{behind, begun, with_name, definition_keyword, definition_sign, definition_behind}
use Rattle.p4_lexer.proofs.SnocLemmas.{has_last, snoc_ind, middle_not_nil}
use Rattle.p4_lexer.proofs.OpenLemmas.{behind_push}

pub all_push : {A : Type 0} (P : A → Type 0) (xs : List A) (x : A) → AllByRecursion P xs → P x → AllByRecursion P (xs ++ x ∷ [])
all_push P [] x all here = (here, tt)
all_push P (y ∷ xs) x all here = (all.0, all_push P xs x all.1 here)

pub all_pushed : {A : Type 0} (P : A → Type 0) (xs : List A) (x : A) → AllByRecursion P (xs ++ x ∷ []) → AllByRecursion P xs × P x
all_pushed P [] x all = (tt, all.0)
all_pushed P (y ∷ xs) x all = let rest = all_pushed P xs x all.1 in ((all.0, rest.0), rest.1)

-- a `typedef` stands among the tokens with no `;` behind it
pub record TypedefOpen (before : List Token) : Type 0 where
  pub earlier : List Token
  pub typedef : Token
  pub inside : List Token
  pub spelled : before ≡ earlier ++ typedef ∷ inside
  pub first : typedef.word ≡ Keyword Typedef
  pub one : AllByRecursion NoSemicolon inside

-- and this is the last name behind it
pub record LastDefined (before : List Token) (name : List ℕ) : Type 0 where
  pub earlier : List Token
  pub typedef : Token
  pub inside : List Token
  pub named_by : Token
  pub rest : List Token
  pub spelled : before ≡ earlier ++ typedef ∷ inside ++ named_by ∷ rest
  pub first : typedef.word ≡ Keyword Typedef
  pub one : AllByRecursion NoSemicolon inside
  pub named : IsNameOf name named_by.word
  pub last : AllByRecursion NoName rest
  pub ends : AllByRecursion NoSemicolon rest

pub open_new : (before : List Token) (t : Token) → t.word ≡ Keyword Typedef → TypedefOpen (before ++ t ∷ [])
open_new before t first = record { earlier = before; typedef = t; inside = []; spelled = refl; first = first; one = tt }

pub open_on : (before : List Token) (t : Token) → TypedefOpen before → NoSemicolon t → TypedefOpen (before ++ t ∷ [])
open_on before t o more = record {
  earlier = o.earlier;
  typedef = o.typedef;
  inside = o.inside ++ t ∷ [];
  spelled = ap (λ b. b ++ t ∷ []) o.spelled ∙ append_assoc o.earlier (o.typedef ∷ o.inside) (t ∷ []);
  first = o.first;
  one = all_push NoSemicolon o.inside t o.one more;
}

pub open_back : (before : List Token) (t : Token) → TypedefOpen (before ++ t ∷ []) → (t.word ≡ Keyword Typedef) ⊎ (TypedefOpen before × NoSemicolon t)
open_back before t o = elim (has_last o.inside) [
  | inl none ↦
      let same = same_from_push before o.earlier t o.typedef (o.spelled ∙ ap (λ r. o.earlier ++ o.typedef ∷ r) none) in
      inl (ap (λ (v : Token). v.word) same.1 ∙ o.first)
  | inr pushed ↦
      let same = same_from_push before (o.earlier ++ o.typedef ∷ pushed.0) t pushed.1 (o.spelled ∙ ap (λ r. o.earlier ++ o.typedef ∷ r) pushed.2 ∙ sym (append_assoc o.earlier (o.typedef ∷ pushed.0) (pushed.1 ∷ []))) in
      let all : AllByRecursion NoSemicolon pushed.0 × NoSemicolon pushed.1 = all_pushed NoSemicolon pushed.0 pushed.1 (subst (AllByRecursion NoSemicolon) pushed.2 o.one) in
      inr (record { earlier = o.earlier; typedef = o.typedef; inside = pushed.0; spelled = same.0; first = o.first; one = all.0 }, subst NoSemicolon (sym same.1) all.1)
]

pub last_new : (before : List Token) (t : Token) (name : List ℕ) → TypedefOpen before → IsNameOf name t.word → LastDefined (before ++ t ∷ []) name
last_new before t name o named = record {
  earlier = o.earlier;
  typedef = o.typedef;
  inside = o.inside;
  named_by = t;
  rest = [];
  spelled = ap (λ b. b ++ t ∷ []) o.spelled;
  first = o.first;
  one = o.one;
  named = named;
  last = tt;
  ends = tt;
}

pub last_on : (before : List Token) (t : Token) (name : List ℕ) → LastDefined before name → NoName t → NoSemicolon t → LastDefined (before ++ t ∷ []) name
last_on before t name l no_name more = record {
  earlier = l.earlier;
  typedef = l.typedef;
  inside = l.inside;
  named_by = l.named_by;
  rest = l.rest ++ t ∷ [];
  spelled = ap (λ b. b ++ t ∷ []) l.spelled ∙ append_assoc (l.earlier ++ l.typedef ∷ l.inside) (l.named_by ∷ l.rest) (t ∷ []);
  first = l.first;
  one = l.one;
  named = l.named;
  last = all_push NoName l.rest t l.last no_name;
  ends = all_push NoSemicolon l.rest t l.ends more;
}

pub last_back : (before : List Token) (t : Token) (name : List ℕ) → LastDefined (before ++ t ∷ []) name
    → (TypedefOpen before × IsNameOf name t.word) ⊎ (LastDefined before name × NoName t × NoSemicolon t)
last_back before t name l = elim (has_last l.rest) [
  | inl none ↦
      let same = same_from_push before (l.earlier ++ l.typedef ∷ l.inside) t l.named_by (l.spelled ∙ ap (λ r. l.earlier ++ l.typedef ∷ l.inside ++ l.named_by ∷ r) none) in
      inl (record { earlier = l.earlier; typedef = l.typedef; inside = l.inside; spelled = same.0; first = l.first; one = l.one }, subst (λ (u : Token). IsNameOf name u.word) (sym same.1) l.named)
  | inr pushed ↦
      let same = same_from_push before (l.earlier ++ l.typedef ∷ l.inside ++ l.named_by ∷ pushed.0) t pushed.1
      (l.spelled ∙ ap (λ r. l.earlier ++ l.typedef ∷ l.inside ++ l.named_by ∷ r) pushed.2 ∙ sym (append_assoc (l.earlier ++ l.typedef ∷ l.inside) (l.named_by ∷ pushed.0) (pushed.1 ∷ []))) in
      let names : AllByRecursion NoName pushed.0 × NoName pushed.1 = all_pushed NoName pushed.0 pushed.1 (subst (AllByRecursion NoName) pushed.2 l.last) in
      let ends : AllByRecursion NoSemicolon pushed.0 × NoSemicolon pushed.1 = all_pushed NoSemicolon pushed.0 pushed.1 (subst (AllByRecursion NoSemicolon) pushed.2 l.ends) in
      inr (
        record {
          earlier = l.earlier;
          typedef = l.typedef;
          inside = l.inside;
          named_by = l.named_by;
          rest = pushed.0;
          spelled = same.0;
          first = l.first;
          one = l.one;
          named = l.named;
          last = names.0;
          ends = ends.0;
        },
        subst NoName (sym same.1) names.1,
        subst NoSemicolon (sym same.1) ends.1,
      )
]

-- a word is one name at most
pub one_name : (w : Word) (a b : List ℕ) → IsNameOf a w → IsNameOf b w → a ≡ b
one_name w a b (inl p) (inl q) = cc
one_name w a b (inl p) (inr (inl q)) = cc
one_name w a b (inl p) (inr (inr q)) = cc
one_name w a b (inr (inl p)) (inl q) = cc
one_name w a b (inr (inl p)) (inr (inl q)) = cc
one_name w a b (inr (inl p)) (inr (inr q)) = cc
one_name w a b (inr (inr p)) (inl q) = cc
one_name w a b (inr (inr p)) (inr (inl q)) = cc
one_name w a b (inr (inr p)) (inr (inr q)) = cc

-- what is kept of definitions tells which stand there
abbrev pub Tells : Definition → List Token → Type 0
Tells Outside before = (TypedefOpen before → ⊥) × ((m : List ℕ) → LastDefined before m → ⊥)
Tells Inside before = TypedefOpen before × ((m : List ℕ) → LastDefined before m → ⊥)
Tells (Named name) before = TypedefOpen before × LastDefined before name × ((m : List ℕ) → LastDefined before m → m ≡ name)

no_other : (m : List ℕ) (w : Word) → (w ≡ Id m → ⊥) → (w ≡ TypeName m → ⊥) → (w ≡ Base m → ⊥) → IsNameOf m w → ⊥
no_other m w a b c (inl p) = a p
no_other m w a b c (inr (inl p)) = b p
no_other m w a b c (inr (inr p)) = c p

keyword_no_name : (t : Token) (k : KeywordName) → t.word ≡ Keyword k → NoName t
keyword_no_name t k e m named = no_other m t.word (λ p. cc) (λ p. cc) (λ p. cc) named

sign_no_name : (t : Token) (s : SignName) → t.word ≡ Sign s → NoName t
sign_no_name t s e m named = no_other m t.word (λ p. cc) (λ p. cc) (λ p. cc) named

name_no_typedef : (t : Token) (n : List ℕ) → IsNameOf n t.word → t.word ≡ Keyword Typedef → ⊥
name_no_typedef t n named e = keyword_no_name t Typedef e n named

name_no_semicolon : (t : Token) (n : List ℕ) → IsNameOf n t.word → NoSemicolon t
name_no_semicolon t n named e = sign_no_name t Semicolon e n named

name_step : (d : Definition) (before : List Token) (t : Token) (n : List ℕ) → IsNameOf n t.word → Tells d before → Tells (with_name d n) (before ++ t ∷ [])
name_step Outside before t n named h = (
  λ o. elim (open_back before t o) [ inl typedef ↦ name_no_typedef t n named typedef | inr was ↦ h.0 was.0 ],
  λ m l. elim (last_back before t m l) [ inl new ↦ h.0 new.0 | inr was ↦ h.1 m was.0 ],
)
name_step Inside before t n named h = (
  open_on before t h.0 (name_no_semicolon t n named),
  last_new before t n h.0 named,
  λ m l. elim (last_back before t m l) [ inl new ↦ one_name t.word m n new.1 named | inr was ↦ absurd (was.1 n named) ],
)
name_step (Named name) before t n named h = (
  open_on before t h.0 (name_no_semicolon t n named),
  last_new before t n h.0 named,
  λ m l. elim (last_back before t m l) [ inl new ↦ one_name t.word m n new.1 named | inr was ↦ absurd (was.1 n named) ],
)

other_step : (d : Definition) (before : List Token) (t : Token) → NoName t → NoSemicolon t → (t.word ≡ Keyword Typedef → ⊥) → Tells d before → Tells d (before ++ t ∷ [])
other_step Outside before t no_name more not_typedef h = (
  λ o. elim (open_back before t o) [ inl typedef ↦ not_typedef typedef | inr was ↦ h.0 was.0 ],
  λ m l. elim (last_back before t m l) [ inl new ↦ h.0 new.0 | inr was ↦ h.1 m was.0 ],
)
other_step Inside before t no_name more not_typedef h = (
  open_on before t h.0 more,
  λ m l. elim (last_back before t m l) [ inl new ↦ no_name m new.1 | inr was ↦ h.1 m was.0 ],
)
other_step (Named name) before t no_name more not_typedef h = (
  open_on before t h.0 more,
  last_on before t name h.1 no_name more,
  λ m l. elim (last_back before t m l) [ inl new ↦ absurd (no_name m new.1) | inr was ↦ h.2 m was.0 ],
)

typedef_step : (d : Definition) (before : List Token) (t : Token) → t.word ≡ Keyword Typedef → Tells d before → Tells (begun d) (before ++ t ∷ [])
typedef_step Outside before t e h = (
  open_new before t e,
  λ m l. elim (last_back before t m l) [ inl new ↦ h.0 new.0 | inr was ↦ h.1 m was.0 ],
)
typedef_step Inside before t e h = (
  open_new before t e,
  λ m l. elim (last_back before t m l) [ inl new ↦ keyword_no_name t Typedef e m new.1 | inr was ↦ h.1 m was.0 ],
)
typedef_step (Named name) before t e h = (
  open_new before t e,
  last_on before t name h.1 (keyword_no_name t Typedef e) (λ s. cc),
  λ m l. elim (last_back before t m l) [ inl new ↦ absurd (keyword_no_name t Typedef e m new.1) | inr was ↦ h.2 m was.0 ],
)

semicolon_step : (before : List Token) (t : Token) → t.word ≡ Sign Semicolon → Tells Outside (before ++ t ∷ [])
semicolon_step before t e = (
  λ o. elim (open_back before t o) [ inl typedef ↦ cc | inr was ↦ was.1 e ],
  λ m l. elim (last_back before t m l) [ inl new ↦ sign_no_name t Semicolon e m new.1 | inr was ↦ was.2 e ],
)

keyword_step : (d : Definition) (before : List Token) (t : Token) (k : KeywordName) → t.word ≡ Keyword k → Tells d before → Tells (definition_keyword d k) (before ++ t ∷ [])
keyword_step d before t Typedef e h = typedef_step d before t e h
keyword_step d before t k e h = other_step d before t (keyword_no_name t k e) (λ s. cc) (λ s. cc) h

sign_step : (d : Definition) (before : List Token) (t : Token) (s : SignName) → t.word ≡ Sign s → Tells d before → Tells (definition_sign d s) (before ++ t ∷ [])
sign_step d before t Semicolon e h = semicolon_step before t e
sign_step d before t s e h = other_step d before t (sign_no_name t s e) (λ i. cc) (λ i. cc) h

word_step : (d : Definition) (before : List Token) (t : Token) (w : Word) → t.word ≡ w → Tells d before → Tells (definition_behind d w) (before ++ t ∷ [])
word_step d before t (Keyword k) e h = keyword_step d before t k e h
word_step d before t (Sign s) e h = sign_step d before t s e h
word_step d before t (Id n) e h = name_step d before t n (inl e) h
word_step d before t (TypeName n) e h = name_step d before t n (inr (inl e)) h
word_step d before t (Base n) e h = name_step d before t n (inr (inr e)) h
word_step d before t _ e h = other_step d before t (λ m named. no_other m t.word (λ p. cc) (λ p. cc) (λ p. cc) named) (λ s. cc) (λ s. cc) h

pub tells : (before : List Token) → Tells (behind before).definition before
tells = snoc_ind (λ before. Tells (behind before).definition before)
    (λ o. middle_not_nil o.earlier o.typedef o.inside o.spelled, λ m l. middle_not_nil (l.earlier ++ l.typedef ∷ l.inside) l.named_by l.rest l.spelled)
    (λ before t h. subst (λ b. Tells b.definition (before ++ t ∷ [])) (sym (behind_push before t)) (word_step (behind before).definition before t t.word refl h))
