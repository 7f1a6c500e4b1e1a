-- What is kept behind one more token.
use Rattle.std.proofs.Common.{◌≡◌, ℕ, Bool, true, false, ◌||◌, codes, Decides, List, [], ◌∷◌, ◌++◌, refl, sym, ap, ◌∙◌, subst}
use Rattle.std.proofs.lemmas.Bool.Decides.{Decides-or, Decides-like, Decides-at}
use Rattle.p4_lexer.specs.declared.token.Token.{Token}
use Rattle.p4_lexer.specs.declared.marks.Marker.{Marker}
use Rattle.p4_lexer.specs.declared.token.Word.TheVariants.{Sign}
use Rattle.p4_lexer.specs.declared.token.Keyword.{Keyword as KeywordName}
use Rattle.p4_lexer.specs.declared.token.Sign.{Sign as SignName}
use Rattle.p4_lexer.specs.declared.token.Sign.TheVariants.{Dot, Less}
use Rattle.p4_lexer.specs.declared.piece.Kind.{Kind}
use Rattle.p4_lexer.specs.declared.piece.Kind.TheVariants.{Name as NamePiece, Number as NumberPiece, Text as TextPiece, Sign as SignPiece}
use Rattle.p4_lexer.specs.Cuts.{Cut}
use Rattle.p4_lexer.specs.SourceWords.{Placed}
use Rattle.p4_lexer.specs.BareWords.{IsWordKind, IsWord}
use Rattle.std.specs.Str.{bytes_eq}
use Rattle.std.proofs.lemmas.Bool.{false≢true}
use Rattle.std.proofs.lemmas.Slice.Eq.{bytes_eq-Decides}
use Rattle.p4_lexer.specs.Annotations.{Bare, Plain}
use Rattle.p4_lexer.specs.Spellings.{keyword_spelling}
use Rattle.p4_lexer.specs.Marks.{EndsWith, SignIsNext, IsPlainName, IsMarkOfName, IsMarkOf, TakesArguments, sign_cut}
use Rattle.p4_lexer.specs.TypeNames.{IsTypeBehind}
use Rattle.p4_lexer.specs.Names.{has}
use Rattle.p4_lexer.specs.Behind.{behind, behind_of, step, start, is_first_type, new_type, is_name, is_dot, takes_arguments}
use Rattle.p4_lexer.specs.Marking.{Follows, member_mark, keyword_mark, plain_mark, less_mark, sign_mark}
use Rattle.p4_lexer.proofs.SpelledOnceLemmas.{keyword_by, reserved_by}
use Rattle.p4_lexer.proofs.SpellingLemmas.{keyword_exact, reserved_exact}
use Rattle.p4_lexer.proofs.LastLemmas.{dot_decides, takes_decides}
use Rattle.p4_lexer.proofs.NextLemmas.{next_is, next_decides}
use Rattle.p4_lexer.proofs.MarkLemmas.{Seen, member_fits, keyword_fits, plain_fits}
use Rattle.p4_lexer.proofs.OpenLemmas.{behind_push}
use Rattle.p4_lexer.proofs.TypeLemmas.{IsNew, type_step, type_none}
use Rattle.p4_lexer.proofs.NewTypeLemmas.{new_is, option_decides, first_type_decides}

or_false : (a b : Bool) → b ≡ false → (a || b) ≡ a
or_false true b e = refl
or_false false b e = e

or_third : (a b c : Bool) → (a || (b || c)) ≡ ((a || c) || b)
or_third true b c = refl
or_third false true true = refl
or_third false true false = refl
or_third false false true = refl
or_third false false false = refl

pub follows_start : (m : Marker) → m.tokens ≡ [] → behind_of m.kept ≡ start → ((name : List ℕ) → has m.types name ≡ false) → Follows m
follows_start m none kept types = record {
  kept_is = kept ∙ ap behind (sym none);
  types = λ name.
      subst (λ tokens. Decides (is_first_type name || has m.types name) (IsTypeBehind tokens name)) (sym none)
      (Decides-at (is_first_type name || has m.types name) (is_first_type name) (or_false (is_first_type name) (has m.types name) (types name))
      (Decides-like (is_first_type name) (type_none name).1 (type_none name).0 (first_type_decides name)));
}

types_push : (m : Marker) (t : Token) (name : List ℕ) → Follows m → Decides ((is_first_type name || has m.types name) || is_name (new_type (behind_of m.kept) t.word) name) (IsTypeBehind (m.tokens ++ t ∷ []) name)
types_push m t name f =
    let was : Bool = is_first_type name || has m.types name in
    let new : Bool = is_name (new_type (behind_of m.kept) t.word) name in
    let is_new : Decides new (IsNew m.tokens t name) =
    subst (λ b. Decides (is_name (new_type b t.word) name) (IsNew m.tokens t name)) (sym f.kept_is)
    (Decides-like (is_name (new_type (behind m.tokens) t.word) name) (new_is m.tokens t name).1 (new_is m.tokens t name).0 (option_decides (new_type (behind m.tokens) t.word) name)) in
    Decides-like (was || new) (type_step m.tokens t name).1 (type_step m.tokens t name).0 (Decides-or was new (f.types name) is_new)

pub follows_push : (m n : Marker) (t : Token) → Follows m → n.tokens ≡ m.tokens ++ t ∷ [] → behind_of n.kept ≡ step (behind_of m.kept) t.word
    → ((name : List ℕ) → has n.types name ≡ (is_name (new_type (behind_of m.kept) t.word) name || has m.types name)) → Follows n
follows_push m n t f tokens kept types = record {
  kept_is = kept ∙ ap (λ b. step b t.word) f.kept_is ∙ sym (behind_push m.tokens t) ∙ ap behind (sym tokens);
  types = λ name.
      subst (λ ts. Decides (is_first_type name || has n.types name) (IsTypeBehind ts name)) (sym tokens)
      (Decides-at (is_first_type name || has n.types name) ((is_first_type name || has m.types name) || is_name (new_type (behind_of m.kept) t.word) name)
      (ap (λ h. is_first_type name || h) (types name) ∙ or_third (is_first_type name) (is_name (new_type (behind_of m.kept) t.word) name) (has m.types name))
      (types_push m t name f));
}

-- what the code sees of a name
pub seen_with : (m : Marker) (name : List ℕ) (words : List Bare) (less point : Bool) → Follows m → Decides less (SignIsNext Less words) → Decides point (SignIsNext Dot words) → Seen m.tokens name words
seen_with m name words less point f less_is point_is = record {
  dot = is_dot m.kept.last;
  lookahead = bytes_eq name (codes "lookahead");
  less = less;
  point = point;
  type = is_first_type name || has m.types name;
  keyword = keyword_by name;
  reserved = reserved_by name;
  dot_is = subst (λ b. Decides (is_dot b.last) (EndsWith m.tokens (Sign Dot))) (sym f.kept_is) (dot_decides m.tokens);
  lookahead_is = bytes_eq-Decides name (codes "lookahead");
  less_is = less_is;
  point_is = point_is;
  type_is = f.types name;
  keyword_is = keyword_exact name (keyword_by name) refl;
  reserved_is = reserved_exact name (reserved_by name) refl;
}

pub no_dot : (m : Marker) → Follows m → is_dot m.kept.last ≡ false → EndsWith m.tokens (Sign Dot) → ⊥
no_dot m f e dot =
    false≢true (sym e ∙ (subst (λ b. Decides (is_dot b.last) (EndsWith m.tokens (Sign Dot))) (sym f.kept_is) (dot_decides m.tokens)).1 dot)

pub member_marked : (m : Marker) (name : List ℕ) (words : List Bare) (less : Bool) → Follows m → is_dot m.kept.last ≡ true → Decides less (SignIsNext Less words)
    → IsMarkOfName m.tokens name words (member_mark name (bytes_eq name (codes "lookahead")) less)
unfolding seen_with
member_marked m name words less f e less_is =
    let s : Seen m.tokens name words = seen_with m name words less (next_is words Dot) f less_is (next_decides words Dot) in
    member_fits s (s.dot_is.0 e) (bytes_eq name (codes "lookahead")) less refl refl

pub keyword_marked : (m : Marker) (name : List ℕ) (words : List Bare) (point : Bool) (k : KeywordName) → Follows m → is_dot m.kept.last ≡ false → Decides point (SignIsNext Dot words) → name ≡ keyword_spelling k
    → IsMarkOfName m.tokens name words (keyword_mark name point k)
unfolding seen_with
keyword_marked m name words point k f e point_is spelled =
    keyword_fits (seen_with m name words (next_is words Less) point f (next_decides words Less) point_is) (no_dot m f e) k spelled

pub plain_marked : (m : Marker) (name : List ℕ) (words : List Bare) (point : Bool) → Follows m → is_dot m.kept.last ≡ false → Decides point (SignIsNext Dot words) → IsPlainName name
    → IsMarkOfName m.tokens name words (plain_mark name (is_first_type name || has m.types name) point)
unfolding seen_with
plain_marked m name words point f e point_is plain =
    plain_fits (seen_with m name words (next_is words Less) point f (next_decides words Less) point_is) (no_dot m f e) plain (is_first_type name || has m.types name) point refl refl

takes_is : (m : Marker) → Follows m → Decides (takes_arguments m.kept.last) (TakesArguments m.tokens)
takes_is m f = subst (λ b. Decides (takes_arguments b.last) (TakesArguments m.tokens)) (sym f.kept_is) (takes_decides m.tokens)

less_marked : (before : List Token) (w : Placed) (words : List Bare) (takes : Bool) → Decides takes (TakesArguments before) → w.cut ≡ sign_cut Less → IsMarkOf before (Plain w) words (less_mark takes)
less_marked before w words true d e = IsMarkOf.open_arguments w words e (d.0 refl)
less_marked before w words false d e = IsMarkOf.sign w words Less e (λ _ takes. false≢true (d.1 takes))

pub sign_marked : (m : Marker) (w : Placed) (words : List Bare) (s : SignName) → Follows m → w.cut ≡ sign_cut s → IsMarkOf m.tokens (Plain w) words (sign_mark (takes_arguments m.kept.last) s)
sign_marked m w words Less f e = less_marked m.tokens w words (takes_arguments m.kept.last) (takes_is m f) e
sign_marked m w words s f e = IsMarkOf.sign w words s e (λ l _. cc)

other_kind : (k : Kind) → IsWordKind k → (k ≡ NamePiece → ⊥) → (k ≡ NumberPiece → ⊥) → (k ≡ TextPiece → ⊥) → k ≡ SignPiece
other_kind SignPiece word a b c = refl
other_kind NamePiece word a b c = absurd (a refl)
other_kind NumberPiece word a b c = absurd (b refl)
other_kind TextPiece word a b c = absurd (c refl)
other_kind _ word a b c = absurd word

pub other_is_sign : (c : Cut) → IsWord c → (c.kind ≡ NamePiece → ⊥) → (c.kind ≡ NumberPiece → ⊥) → (c.kind ≡ TextPiece → ⊥) → c.kind ≡ SignPiece
other_is_sign c word a b d = other_kind c.kind word.0 a b d
