-- Which names are types behind one more token.
use Rattle.std.proofs.Common.{◌≡◌, ◌↔◌, ℕ, List, [], ◌∷◌, ◌++◌, Contains, append_assoc, refl, sym, ap, ◌∙◌, subst, inl, inr, ◌⊎◌}
use Rattle.std.proofs.lemmas.List.{same_from_push}
use Rattle.p4_lexer.specs.declared.token.Token.{Token}
use Rattle.p4_lexer.specs.declared.token.Word.TheVariants.{Sign}
use Rattle.p4_lexer.specs.declared.token.Sign.TheVariants.{Semicolon}
use Rattle.p4_lexer.specs.Spellings.{first_types}
use Rattle.p4_lexer.specs.TypeNames.{IsNameOf, IsDeclared, IsDeclaredWithWidth, IsDefined, IsTypeBehind}
use Rattle.p4_lexer.proofs.SnocLemmas.{has_last, middle_not_nil}
use Rattle.p4_lexer.proofs.LastLemmas.{EndsDeclaring, EndsEnumBit}
use Rattle.p4_lexer.proofs.WidthLemmas.{EndsWidth, Pending}
use Rattle.p4_lexer.proofs.DefinitionLemmas.{LastDefined}

-- the token makes the name a type
abbrev pub IsNew : List Token → Token → List ℕ → Type 0
IsNew before t name = (IsNameOf name t.word × (EndsDeclaring before ⊎ EndsWidth before)) ⊎ ((t.word ≡ Sign Semicolon) × LastDefined before name)

declared_back : (before : List Token) (t : Token) (name : List ℕ) → IsDeclared (before ++ t ∷ []) name → IsDeclared before name ⊎ (EndsDeclaring before × IsNameOf name t.word)
declared_back before t name d = elim (has_last d.later) [
  | inl none ↦
      let same = same_from_push before (d.earlier ++ d.first ∷ []) t d.second
      (d.spelled ∙ ap (λ r. d.earlier ++ d.first ∷ d.second ∷ r) none ∙ sym (append_assoc d.earlier (d.first ∷ []) (d.second ∷ []))) in
      inr ((d.keyword, (d.earlier, d.first, same.0, d.word), d.declares), subst (λ (u : Token). IsNameOf name u.word) (sym same.1) d.named)
  | inr pushed ↦
      let same = same_from_push before (d.earlier ++ d.first ∷ d.second ∷ pushed.0) t pushed.1
      (d.spelled ∙ ap (λ r. d.earlier ++ d.first ∷ d.second ∷ r) pushed.2 ∙ sym (append_assoc d.earlier (d.first ∷ d.second ∷ pushed.0) (pushed.1 ∷ []))) in
      inl (record { earlier = d.earlier; keyword = d.keyword; first = d.first; second = d.second; later = pushed.0; spelled = same.0; word = d.word; declares = d.declares; named = d.named })
]

declared_on : (before : List Token) (t : Token) (name : List ℕ) → IsDeclared before name → IsDeclared (before ++ t ∷ []) name
declared_on before t name d = record {
  earlier = d.earlier;
  keyword = d.keyword;
  first = d.first;
  second = d.second;
  later = d.later ++ t ∷ [];
  spelled = ap (λ b. b ++ t ∷ []) d.spelled ∙ append_assoc d.earlier (d.first ∷ d.second ∷ d.later) (t ∷ []);
  word = d.word;
  declares = d.declares;
  named = d.named;
}

declared_new : (before : List Token) (t : Token) (name : List ℕ) → EndsDeclaring before → IsNameOf name t.word → IsDeclared (before ++ t ∷ []) name
declared_new before t name h named = record {
  earlier = h.1.0;
  keyword = h.0;
  first = h.1.1;
  second = t;
  later = [];
  spelled = ap (λ b. b ++ t ∷ []) h.1.2 ∙ append_assoc h.1.0 (h.1.1 ∷ []) (t ∷ []);
  word = h.1.3;
  declares = h.2;
  named = named;
}

width_back : (before : List Token) (t : Token) (name : List ℕ) → IsDeclaredWithWidth (before ++ t ∷ []) name → IsDeclaredWithWidth before name ⊎ (EndsWidth before × IsNameOf name t.word)
width_back before t name d =
    let start : List Token = d.earlier ++ d.enum ∷ d.bit ∷ d.open_ ∷ d.arguments in
    elim (has_last d.later) [
      | inl none ↦
          let same = same_from_push before (start ++ d.close ∷ []) t d.named_by
          (d.spelled ∙ ap (λ r. start ++ d.close ∷ d.named_by ∷ r) none ∙ sym (append_assoc start (d.close ∷ []) (d.named_by ∷ []))) in
          inr (
            (
              start,
              d.close,
              same.0,
              d.closes,
              record {
                front = d.earlier ++ d.enum ∷ d.bit ∷ [];
                opening = d.open_;
                inside = d.arguments;
                spelled = sym (append_assoc d.earlier (d.enum ∷ d.bit ∷ []) (d.open_ ∷ d.arguments));
                ends = (d.earlier, d.enum, d.bit, refl, d.first, d.second);
                opens = d.opens;
                stays = d.balanced.1;
                above_is = d.balanced.0;
              },
            ),
            subst (λ (u : Token). IsNameOf name u.word) (sym same.1) d.named,
          )
      | inr pushed ↦
          let same = same_from_push before (start ++ d.close ∷ d.named_by ∷ pushed.0) t pushed.1
          (d.spelled ∙ ap (λ r. start ++ d.close ∷ d.named_by ∷ r) pushed.2 ∙ sym (append_assoc start (d.close ∷ d.named_by ∷ pushed.0) (pushed.1 ∷ []))) in
          inl (record {
            earlier = d.earlier;
            enum = d.enum;
            bit = d.bit;
            open_ = d.open_;
            arguments = d.arguments;
            close = d.close;
            named_by = d.named_by;
            later = pushed.0;
            spelled = same.0;
            first = d.first;
            second = d.second;
            opens = d.opens;
            balanced = d.balanced;
            closes = d.closes;
            named = d.named;
          })
    ]

width_on : (before : List Token) (t : Token) (name : List ℕ) → IsDeclaredWithWidth before name → IsDeclaredWithWidth (before ++ t ∷ []) name
width_on before t name d = record {
  earlier = d.earlier;
  enum = d.enum;
  bit = d.bit;
  open_ = d.open_;
  arguments = d.arguments;
  close = d.close;
  named_by = d.named_by;
  later = d.later ++ t ∷ [];
  spelled = ap (λ b. b ++ t ∷ []) d.spelled ∙ append_assoc (d.earlier ++ d.enum ∷ d.bit ∷ d.open_ ∷ d.arguments) (d.close ∷ d.named_by ∷ d.later) (t ∷ []);
  first = d.first;
  second = d.second;
  opens = d.opens;
  balanced = d.balanced;
  closes = d.closes;
  named = d.named;
}

width_new : (before : List Token) (t : Token) (name : List ℕ) → EndsWidth before → IsNameOf name t.word → IsDeclaredWithWidth (before ++ t ∷ []) name
width_new before t name h named =
    let p : Pending [] h.0 = h.4 in
    let e : EndsEnumBit p.front = p.ends in
    let inner : h.0 ≡ e.0 ++ e.1 ∷ e.2 ∷ p.opening ∷ p.inside = p.spelled ∙ ap (λ f. f ++ p.opening ∷ p.inside) e.3 ∙ append_assoc e.0 (e.1 ∷ e.2 ∷ []) (p.opening ∷ p.inside) in
    record {
      earlier = e.0;
      enum = e.1;
      bit = e.2;
      open_ = p.opening;
      arguments = p.inside;
      close = h.1;
      named_by = t;
      later = [];
      spelled = ap (λ b. b ++ t ∷ []) h.2 ∙ append_assoc h.0 (h.1 ∷ []) (t ∷ []) ∙ ap (λ i. i ++ h.1 ∷ t ∷ []) inner;
      first = e.4;
      second = e.5;
      opens = p.opens;
      balanced = (p.above_is, p.stays);
      closes = h.3;
      named = named;
    }

defined_back : (before : List Token) (t : Token) (name : List ℕ) → IsDefined (before ++ t ∷ []) name → IsDefined before name ⊎ ((t.word ≡ Sign Semicolon) × LastDefined before name)
defined_back before t name d =
    let start : List Token = d.earlier ++ d.typedef ∷ d.inside ++ d.named_by ∷ d.rest in
    elim (has_last d.later) [
      | inl none ↦
          let same = same_from_push before start t d.semicolon (d.spelled ∙ ap (λ r. start ++ d.semicolon ∷ r) none) in
          inr (
            ap (λ (v : Token). v.word) same.1 ∙ d.ended,
            record {
              earlier = d.earlier;
              typedef = d.typedef;
              inside = d.inside;
              named_by = d.named_by;
              rest = d.rest;
              spelled = same.0;
              first = d.first;
              one = d.one;
              named = d.named;
              last = d.last;
              ends = d.ends;
            },
          )
      | inr pushed ↦
          let same = same_from_push before (start ++ d.semicolon ∷ pushed.0) t pushed.1
          (d.spelled ∙ ap (λ r. start ++ d.semicolon ∷ r) pushed.2 ∙ sym (append_assoc start (d.semicolon ∷ pushed.0) (pushed.1 ∷ []))) in
          inl (record {
            earlier = d.earlier;
            typedef = d.typedef;
            inside = d.inside;
            named_by = d.named_by;
            rest = d.rest;
            semicolon = d.semicolon;
            later = pushed.0;
            spelled = same.0;
            first = d.first;
            one = d.one;
            named = d.named;
            last = d.last;
            ends = d.ends;
            ended = d.ended;
          })
    ]

defined_on : (before : List Token) (t : Token) (name : List ℕ) → IsDefined before name → IsDefined (before ++ t ∷ []) name
defined_on before t name d = record {
  earlier = d.earlier;
  typedef = d.typedef;
  inside = d.inside;
  named_by = d.named_by;
  rest = d.rest;
  semicolon = d.semicolon;
  later = d.later ++ t ∷ [];
  spelled = ap (λ b. b ++ t ∷ []) d.spelled ∙ append_assoc (d.earlier ++ d.typedef ∷ d.inside ++ d.named_by ∷ d.rest) (d.semicolon ∷ d.later) (t ∷ []);
  first = d.first;
  one = d.one;
  named = d.named;
  last = d.last;
  ends = d.ends;
  ended = d.ended;
}

defined_new : (before : List Token) (t : Token) (name : List ℕ) → t.word ≡ Sign Semicolon → LastDefined before name → IsDefined (before ++ t ∷ []) name
defined_new before t name e l = record {
  earlier = l.earlier;
  typedef = l.typedef;
  inside = l.inside;
  named_by = l.named_by;
  rest = l.rest;
  semicolon = t;
  later = [];
  spelled = ap (λ b. b ++ t ∷ []) l.spelled;
  first = l.first;
  one = l.one;
  named = l.named;
  last = l.last;
  ends = l.ends;
  ended = e;
}

-- a name is a type behind one more token: it was one, or the token makes it one
type_back : (before : List Token) (t : Token) (name : List ℕ) → IsTypeBehind (before ++ t ∷ []) name → IsTypeBehind before name ⊎ IsNew before t name
type_back before t name (inl first) = inl (inl first)
type_back before t name (inr (inl declared)) = elim (declared_back before t name declared) [
  | inl was ↦ inl (inr (inl was))
  | inr new ↦ inr (inl (new.1, inl new.0))
]
type_back before t name (inr (inr (inl width))) = elim (width_back before t name width) [
  | inl was ↦ inl (inr (inr (inl was)))
  | inr new ↦ inr (inl (new.1, inr new.0))
]
type_back before t name (inr (inr (inr defined))) = elim (defined_back before t name defined) [
  | inl was ↦ inl (inr (inr (inr was)))
  | inr new ↦ inr (inr new)
]

type_on : (before : List Token) (t : Token) (name : List ℕ) → IsTypeBehind before name → IsTypeBehind (before ++ t ∷ []) name
type_on before t name (inl first) = inl first
type_on before t name (inr (inl declared)) = inr (inl (declared_on before t name declared))
type_on before t name (inr (inr (inl width))) = inr (inr (inl (width_on before t name width)))
type_on before t name (inr (inr (inr defined))) = inr (inr (inr (defined_on before t name defined)))

type_new : (before : List Token) (t : Token) (name : List ℕ) → IsNew before t name → IsTypeBehind (before ++ t ∷ []) name
type_new before t name (inl (named, inl declaring)) = inr (inl (declared_new before t name declaring named))
type_new before t name (inl (named, inr width)) = inr (inr (inl (width_new before t name width named)))
type_new before t name (inr (semicolon, l)) = inr (inr (inr (defined_new before t name semicolon l)))

pub type_step : (before : List Token) (t : Token) (name : List ℕ) → IsTypeBehind (before ++ t ∷ []) name ↔ (IsTypeBehind before name ⊎ IsNew before t name)
type_step before t name = (type_back before t name, λ h. elim h [ inl was ↦ type_on before t name was | inr new ↦ type_new before t name new ])

pub type_none : (name : List ℕ) → IsTypeBehind [] name ↔ Contains first_types name
type_none name = (
  λ h. elim h [
    | inl first ↦ first
    | inr later ↦ elim later [
      | inl d ↦ absurd (middle_not_nil d.earlier d.first (d.second ∷ d.later) d.spelled)
      | inr later2 ↦ elim later2 [
        | inl w ↦ absurd (middle_not_nil (w.earlier ++ w.enum ∷ w.bit ∷ w.open_ ∷ w.arguments) w.close (w.named_by ∷ w.later) w.spelled)
        | inr f ↦ absurd (middle_not_nil (f.earlier ++ f.typedef ∷ f.inside ++ f.named_by ∷ f.rest) f.semicolon f.later f.spelled)
      ]
    ]
  ],
  λ first. inl first,
)
