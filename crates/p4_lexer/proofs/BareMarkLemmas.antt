-- A word has one mark.
use Rattle.std.proofs.Common.{◌≡◌, ℕ, List, [], ◌∷◌, ◌++◌, codes, refl, sym, ap, ◌∙◌, inl, inr}
use Rattle.std.specs.Str.{bytes_eq}
use Rattle.std.proofs.lemmas.Bool.{false≢true, cases_Bool}
use Rattle.std.proofs.lemmas.List.{same_from_push}
use Rattle.std.proofs.lemmas.Slice.Eq.{bytes_eq-Decides}
use Rattle.p4_lexer.specs.declared.piece.Kind.{Kind}
use Rattle.p4_lexer.specs.declared.piece.Kind.TheVariants.{Name as NamePiece, Number as NumberPiece, Text as TextPiece, Sign as SignPiece, Blank, Comment, Annotation, OpenComment, OpenText, Stray}
use Rattle.p4_lexer.specs.declared.token.Token.{Token}
use Rattle.p4_lexer.specs.declared.token.Word.{Word}
use Rattle.p4_lexer.specs.declared.token.Word.TheVariants.{Int, Text, Sign, OpenArguments, Named as NamedWord, DefaultOnly as DefaultOnlyWord, TableOnly as TableOnlyWord}
use Rattle.p4_lexer.specs.declared.token.Sign.{Sign as SignName}
use Rattle.p4_lexer.specs.declared.token.Sign.TheVariants.{Dot, Less}
use Rattle.p4_lexer.specs.Bytes.{quotation_mark}
use Rattle.p4_lexer.specs.Pieces.{IsPiece}
use Rattle.p4_lexer.specs.Cuts.{Cut}
use Rattle.p4_lexer.specs.SourceWords.{Placed}
use Rattle.p4_lexer.specs.Annotations.{Bare, Plain, Named, DefaultOnly, TableOnly}
use Rattle.p4_lexer.specs.Behind.{behind, is_dot, takes_arguments}
use Rattle.p4_lexer.specs.BareWords.{IsWordKind, IsProper}
use Rattle.p4_lexer.specs.Marks.{IsMarkOfName, IsMarkOf, sign_cut}
use Rattle.p4_lexer.proofs.SpelledOnceLemmas.{keyword_by, reserved_by, one_sign}
use Rattle.p4_lexer.proofs.SpellingLemmas.{keyword_exact, reserved_exact}
use Rattle.p4_lexer.proofs.LiteralLemmas.{one_literal, has_literal}
use Rattle.p4_lexer.proofs.LastLemmas.{dot_decides, takes_decides}
use Rattle.p4_lexer.proofs.NewTypeLemmas.{type_decided}
use Rattle.p4_lexer.proofs.NextLemmas.{next_is, next_decides, same_cut}
use Rattle.p4_lexer.proofs.MarkLemmas.{Seen, name_mark, name_fits, name_only}

pub seen : (before : List Token) (name : List ℕ) (words : List Bare) → Seen before name words
seen before name words = record {
  dot = is_dot (behind before).last;
  lookahead = bytes_eq name (codes "lookahead");
  less = next_is words Less;
  point = next_is words Dot;
  type = (type_decided before name).0;
  keyword = keyword_by name;
  reserved = reserved_by name;
  dot_is = dot_decides before;
  lookahead_is = bytes_eq-Decides name (codes "lookahead");
  less_is = next_decides words Less;
  point_is = next_decides words Dot;
  type_is = (type_decided before name).1;
  keyword_is = keyword_exact name (keyword_by name) refl;
  reserved_is = reserved_exact name (reserved_by name) refl;
}

one_of_name : (before : List Token) (name : List ℕ) (words : List Bare) (m n : Word) → IsMarkOfName before name words m → IsMarkOfName before name words n → m ≡ n
one_of_name before name words m n p q = sym (name_only (seen before name words) m p) ∙ name_only (seen before name words) n q

kinds_apart : {A : Type 0} (k l m : Kind) → k ≡ l → k ≡ m → (l ≡ m → ⊥) → A
kinds_apart k l m p q apart = absurd (apart (sym p ∙ q))

kind_of_sign : (w : Placed) (s : SignName) → w.cut ≡ sign_cut s → w.cut.kind ≡ SignPiece
kind_of_sign w s e = ap (λ (c : Cut). c.kind) e

one_inside : (a b : List ℕ) → quotation_mark ∷ a ++ quotation_mark ∷ [] ≡ quotation_mark ∷ b ++ quotation_mark ∷ [] → a ≡ b
one_inside a b e =
    let tail : a ++ quotation_mark ∷ [] ≡ b ++ quotation_mark ∷ [] = cc in
    (same_from_push a b quotation_mark quotation_mark tail).0

same_sign : (w : Placed) (s r : SignName) → w.cut ≡ sign_cut s → w.cut ≡ sign_cut r → s ≡ r
same_sign w s r p q = one_sign w.cut.bytes s r (ap (λ (c : Cut). c.bytes) p) (ap (λ (c : Cut). c.bytes) q)

pub one_mark : (before : List Token) (b : Bare) (words : List Bare) (m n : Word) → IsMarkOf before b words m → IsMarkOf before b words n → m ≡ n
one_mark before b words m n (IsMarkOf.name w behind mark k p) (IsMarkOf.name w' behind' mark' k' p') = one_of_name before w.cut.bytes behind m n p p'
one_mark before b words m n (IsMarkOf.name w behind mark k p) (IsMarkOf.number w' behind' l k' p') = kinds_apart w.cut.kind NamePiece NumberPiece k k' (λ e. cc)
one_mark before b words m n (IsMarkOf.name w behind mark k p) (IsMarkOf.text w' behind' i k' p') = kinds_apart w.cut.kind NamePiece TextPiece k k' (λ e. cc)
one_mark before b words m n (IsMarkOf.name w behind mark k p) (IsMarkOf.open_arguments w' behind' e' p') = kinds_apart w.cut.kind NamePiece SignPiece k (kind_of_sign w Less e') (λ e. cc)
one_mark before b words m n (IsMarkOf.name w behind mark k p) (IsMarkOf.sign w' behind' s e' p') = kinds_apart w.cut.kind NamePiece SignPiece k (kind_of_sign w s e') (λ e. cc)
one_mark before b words m n (IsMarkOf.number w behind l k p) (IsMarkOf.name w' behind' mark k' p') = kinds_apart w.cut.kind NumberPiece NamePiece k k' (λ e. cc)
one_mark before b words m n (IsMarkOf.number w behind l k p) (IsMarkOf.number w' behind' l' k' p') = ap (λ x. Int x) (one_literal w.cut.bytes l l' p p')
one_mark before b words m n (IsMarkOf.number w behind l k p) (IsMarkOf.text w' behind' i k' p') = kinds_apart w.cut.kind NumberPiece TextPiece k k' (λ e. cc)
one_mark before b words m n (IsMarkOf.number w behind l k p) (IsMarkOf.open_arguments w' behind' e' p') = kinds_apart w.cut.kind NumberPiece SignPiece k (kind_of_sign w Less e') (λ e. cc)
one_mark before b words m n (IsMarkOf.number w behind l k p) (IsMarkOf.sign w' behind' s e' p') = kinds_apart w.cut.kind NumberPiece SignPiece k (kind_of_sign w s e') (λ e. cc)
one_mark before b words m n (IsMarkOf.text w behind i k p) (IsMarkOf.name w' behind' mark k' p') = kinds_apart w.cut.kind TextPiece NamePiece k k' (λ e. cc)
one_mark before b words m n (IsMarkOf.text w behind i k p) (IsMarkOf.number w' behind' l k' p') = kinds_apart w.cut.kind TextPiece NumberPiece k k' (λ e. cc)
one_mark before b words m n (IsMarkOf.text w behind i k p) (IsMarkOf.text w' behind' i' k' p') = ap (λ x. Text x) (one_inside i i' (sym p ∙ p'))
one_mark before b words m n (IsMarkOf.text w behind i k p) (IsMarkOf.open_arguments w' behind' e' p') = kinds_apart w.cut.kind TextPiece SignPiece k (kind_of_sign w Less e') (λ e. cc)
one_mark before b words m n (IsMarkOf.text w behind i k p) (IsMarkOf.sign w' behind' s e' p') = kinds_apart w.cut.kind TextPiece SignPiece k (kind_of_sign w s e') (λ e. cc)
one_mark before b words m n (IsMarkOf.open_arguments w behind e p) (IsMarkOf.name w' behind' mark k' p') = kinds_apart w.cut.kind SignPiece NamePiece (kind_of_sign w Less e) k' (λ e. cc)
one_mark before b words m n (IsMarkOf.open_arguments w behind e p) (IsMarkOf.number w' behind' l k' p') = kinds_apart w.cut.kind SignPiece NumberPiece (kind_of_sign w Less e) k' (λ e. cc)
one_mark before b words m n (IsMarkOf.open_arguments w behind e p) (IsMarkOf.text w' behind' i k' p') = kinds_apart w.cut.kind SignPiece TextPiece (kind_of_sign w Less e) k' (λ e. cc)
one_mark before b words m n (IsMarkOf.open_arguments w behind e p) (IsMarkOf.open_arguments w' behind' e' p') = refl
one_mark before b words m n (IsMarkOf.open_arguments w behind e p) (IsMarkOf.sign w' behind' s e' p') = absurd (p' (same_sign w s Less e' e) p)
one_mark before b words m n (IsMarkOf.sign w behind r e p) (IsMarkOf.name w' behind' mark k' p') = kinds_apart w.cut.kind SignPiece NamePiece (kind_of_sign w r e) k' (λ e. cc)
one_mark before b words m n (IsMarkOf.sign w behind r e p) (IsMarkOf.number w' behind' l k' p') = kinds_apart w.cut.kind SignPiece NumberPiece (kind_of_sign w r e) k' (λ e. cc)
one_mark before b words m n (IsMarkOf.sign w behind r e p) (IsMarkOf.text w' behind' i k' p') = kinds_apart w.cut.kind SignPiece TextPiece (kind_of_sign w r e) k' (λ e. cc)
one_mark before b words m n (IsMarkOf.sign w behind r e p) (IsMarkOf.open_arguments w' behind' e' p') = absurd (p (same_sign w r Less e e') p')
one_mark before b words m n (IsMarkOf.sign w behind r e p) (IsMarkOf.sign w' behind' s e' p') = ap (λ x. Sign x) (same_sign w r s e e')
one_mark before b words m n (IsMarkOf.named text place behind) (IsMarkOf.named text' place' behind') = refl
one_mark before b words m n (IsMarkOf.default_only place behind) (IsMarkOf.default_only place' behind') = refl
one_mark before b words m n (IsMarkOf.table_only place behind) (IsMarkOf.table_only place' behind') = refl

-- and each proper word has one
abbrev pub HasMark : List Token → Bare → List Bare → Type 0
HasMark before b words = (m : Word) × IsMarkOf before b words m

less_mark : (before : List Token) (w : Placed) (words : List Bare) → w.cut ≡ sign_cut Less → HasMark before (Plain w) words
less_mark before w words e = elim (cases_Bool (takes_arguments (behind before).last)) [
  | inl takes ↦ (OpenArguments, IsMarkOf.open_arguments w words e ((takes_decides before).0 takes))
  | inr takes_none ↦ (Sign Less, IsMarkOf.sign w words Less e (λ _ takes. false≢true (sym takes_none ∙ (takes_decides before).1 takes)))
]

sign_mark : (before : List Token) (w : Placed) (words : List Bare) (s : SignName) → w.cut ≡ sign_cut s → HasMark before (Plain w) words
sign_mark before w words Less e = less_mark before w words e
sign_mark before w words s e = (Sign s, IsMarkOf.sign w words s e (λ l _. cc))

kind_mark : (before : List Token) (w : Placed) (words : List Bare) (k : Kind) → w.cut.kind ≡ k → IsWordKind k → IsPiece k w.cut.bytes → HasMark before (Plain w) words
kind_mark before w words NamePiece e word piece =
    let s : Seen before w.cut.bytes words = seen before w.cut.bytes words in
    (name_mark s s.dot, IsMarkOf.name w words (name_mark s s.dot) e (name_fits s))
kind_mark before w words NumberPiece e word piece = let l = has_literal w.cut.bytes piece in (Int l.0, IsMarkOf.number w words l.0 e l.1)
kind_mark before w words TextPiece e word piece = (Text piece.inside, IsMarkOf.text w words piece.inside e piece.spelled)
kind_mark before w words SignPiece e word piece = sign_mark before w words piece.0 (same_cut w.cut (sign_cut piece.0) e piece.1)
kind_mark before w words Blank e word piece = absurd word
kind_mark before w words Comment e word piece = absurd word
kind_mark before w words Annotation e word piece = absurd word
kind_mark before w words OpenComment e word piece = absurd word
kind_mark before w words OpenText e word piece = absurd word
kind_mark before w words Stray e word piece = absurd word

pub has_mark : (before : List Token) (b : Bare) (words : List Bare) → IsProper b → HasMark before b words
has_mark before (Plain w) words proper = kind_mark before w words w.cut.kind refl proper.0 proper.1
has_mark before (Named text place) words proper = (NamedWord text, IsMarkOf.named text place words)
has_mark before (DefaultOnly place) words proper = (DefaultOnlyWord, IsMarkOf.default_only place words)
has_mark before (TableOnly place) words proper = (TableOnlyWord, IsMarkOf.table_only place words)
