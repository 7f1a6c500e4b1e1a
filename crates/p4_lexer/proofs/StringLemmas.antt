-- Whether words are one string, and which text it has.
use Rattle.std.proofs.Common.{◌≡◌, ℕ, ◌==◌, false, List, [], ◌∷◌, ◌++◌, refl, sym, ap, ◌∙◌, ◌⊎◌, inl, inr, eq-eqb}
use Rattle.std.proofs.lemmas.List.{append_cancel_right}
use Rattle.std.proofs.lemmas.Bool.{cases_Bool, both_ways, eqb-true}
use Rattle.p4_lexer.specs.declared.piece.Kind.{Kind}
use Rattle.p4_lexer.specs.declared.piece.Kind.TheVariants.{Text as TextPiece}
use Rattle.p4_lexer.specs.Bytes.{quotation_mark}
use Rattle.p4_lexer.specs.SourceWords.{Placed}
use Rattle.p4_lexer.specs.Annotations.{IsString}
use Rattle.p4_lexer.proofs.ParenthesisLemmas.{cut_of}

not_empty : (xs : List ℕ) (c : ℕ) → xs ++ c ∷ [] ≡ [] → ⊥
not_empty [] c e = cc
not_empty (x ∷ xs) c e = cc

abbrev EndsWith : ℕ → List ℕ → Type 0
EndsWith c bytes = ((text : List ℕ) × (bytes ≡ text ++ c ∷ [])) ⊎ ((text : List ℕ) → bytes ≡ text ++ c ∷ [] → ⊥)

one_byte : (c d : ℕ) → EndsWith c (d ∷ [])
one_byte c d = elim (cases_Bool (d == c)) [
  | inl same ↦ inl ([], ap (λ b. b ∷ []) (eqb-true d c same))
  | inr differs ↦ inr (not_it differs)
] where
  not_it : (d == c) ≡ false → (text : List ℕ) → d ∷ [] ≡ text ++ c ∷ [] → ⊥
  not_it differs [] e = let same : d ≡ c = cc in both_ways (d == c) differs (eq-eqb d c same)
  not_it differs (b ∷ text) e = let tail : [] ≡ text ++ c ∷ [] = cc in not_empty text c (sym tail)

ends_with : (c d : ℕ) (bytes : List ℕ) → EndsWith c (d ∷ bytes)
ends_with c d [] = one_byte c d
ends_with c d (b ∷ bytes) = elim (ends_with c b bytes) [
  | inl t ↦ inl (d ∷ t.0, ap (λ w. d ∷ w) t.1)
  | inr none ↦ inr (not_it none)
] where
  not_it : ((text : List ℕ) → b ∷ bytes ≡ text ++ c ∷ [] → ⊥) → (text : List ℕ) → d ∷ b ∷ bytes ≡ text ++ c ∷ [] → ⊥
  not_it none [] e = cc
  not_it none (a ∷ text) e = none text cc

abbrev Quoted : List ℕ → Type 0
Quoted bytes = ((text : List ℕ) × (bytes ≡ quotation_mark ∷ text ++ quotation_mark ∷ [])) ⊎ ((text : List ℕ) → bytes ≡ quotation_mark ∷ text ++ quotation_mark ∷ [] → ⊥)

quoted_or : (bytes : List ℕ) → Quoted bytes
quoted_or [] = inr (λ text e. cc)
quoted_or (d ∷ []) = inr (λ text e. let tail : [] ≡ text ++ quotation_mark ∷ [] = cc in not_empty text quotation_mark (sym tail))
quoted_or (d ∷ b ∷ bytes) = elim (cases_Bool (d == quotation_mark)) [
  | inl opens ↦ elim (ends_with quotation_mark b bytes) [
    | inl t ↦ inl (t.0, ap (λ w. d ∷ w) t.1 ∙ ap (λ c. c ∷ t.0 ++ quotation_mark ∷ []) (eqb-true d quotation_mark opens))
    | inr none ↦ inr (λ text e. none text (cc))
  ]
  | inr differs ↦ inr (λ text e. let same : d ≡ quotation_mark = cc in both_ways (d == quotation_mark) differs (eq-eqb d quotation_mark same))
]

abbrev pub StringOr : List Placed → Type 0
StringOr inside = ((text : List ℕ) × IsString inside text) ⊎ ((text : List ℕ) → IsString inside text → ⊥)

text_or : (kind : Kind) (w : Placed) → w.cut.kind ≡ kind → StringOr (w ∷ [])
text_or TextPiece w is = elim (quoted_or w.cut.bytes) [
  | inl t ↦ inl (t.0, (w, refl, ap (λ k. cut_of k w.cut.bytes) is ∙ ap (cut_of TextPiece) t.1))
  | inr none ↦ inr (λ text s. let same : w ≡ s.0 = (let e = s.1 in cc) in none text (ap (λ v. v.cut.bytes) same ∙ ap (λ c. c.bytes) s.2))
]
text_or _ w is = inr (λ text s. let same : w ≡ s.0 = (let e = s.1 in cc) in let kinds : w.cut.kind ≡ TextPiece = ap (λ v. v.cut.kind) same ∙ ap (λ c. c.kind) s.2 in cc)

-- words are one string or not
pub string_or : (inside : List Placed) → StringOr inside
string_or [] = inr (λ text s. let e = s.1 in cc)
string_or (w ∷ []) = text_or w.cut.kind w refl
string_or (v ∷ w ∷ inside) = inr (λ text s. let e = s.1 in cc)

-- one string has one text
pub one_text : (inside : List Placed) (s t : List ℕ) → IsString inside s → IsString inside t → s ≡ t
one_text inside s t (v, v_is, v_cut) (w, w_is, w_cut) =
    let one : v ∷ [] ≡ w ∷ [] = sym v_is ∙ w_is in
    let same : v ≡ w = cc in
    let bytes : quotation_mark ∷ s ++ quotation_mark ∷ [] ≡ quotation_mark ∷ t ++ quotation_mark ∷ [] = sym (ap (λ c. c.bytes) v_cut) ∙ ap (λ u. u.cut.bytes) same ∙ ap (λ c. c.bytes) w_cut in
    let tails : s ++ quotation_mark ∷ [] ≡ t ++ quotation_mark ∷ [] = cc in
    append_cancel_right s t (quotation_mark ∷ []) tails
