-- How words become tokens: which names are types, and which `<` and `>` enclose the arguments of a type.
use Rattle.std.specs.Prelude.{◌≡◌, ◌≢◌, ℕ, ◌+◌, List, [], ◌∷◌, ◌++◌, codes, ◌⊎◌, if◌then◌else◌}
use Rattle.tg_base.specs.declared.place.Span.{Span}
use Rattle.tg_base.specs.declared.literal.Literal.{Literal}
use Rattle.p4_lexer.specs.declared.piece.Kind.TheVariants.{Name as NamePiece, Number as NumberPiece, Text as TextPiece, Sign as SignPiece}
use Rattle.p4_lexer.specs.declared.token.Token.{Token}
use Rattle.p4_lexer.specs.declared.token.Word.{Word}
use Rattle.p4_lexer.specs.declared.token.Word.TheVariants.{Keyword, Reserved, Sign, Id, TypeName, Base, Int, Text, Named as NamedWord, DefaultOnly as DefaultOnlyWord, TableOnly as TableOnlyWord, Lookahead, OpenArguments, CloseArguments}
use Rattle.p4_lexer.specs.declared.token.Keyword.{Keyword as KeywordName}
use Rattle.p4_lexer.specs.declared.token.Keyword.TheVariants.{Bit, Int as IntWord, Error}
use Rattle.p4_lexer.specs.declared.token.Reserved.{Reserved as ReservedName}
use Rattle.p4_lexer.specs.declared.token.Sign.{Sign as SignName}
use Rattle.p4_lexer.specs.declared.token.Sign.TheVariants.{Dot, Less}
use Rattle.p4_lexer.specs.Bytes.{quotation_mark, greater}
use Rattle.p4_lexer.specs.Numbers.{StandsFor}
use Rattle.p4_lexer.specs.Cuts.{Cut}
use Rattle.p4_lexer.specs.SourceWords.{Placed}
use Rattle.p4_lexer.specs.Annotations.{Bare, Plain, Named, DefaultOnly, TableOnly}
use Rattle.p4_lexer.specs.Spellings.{keyword_spelling, reserved_spelling, sign_spelling}
use Rattle.p4_lexer.specs.Brackets.{InArguments}
use Rattle.p4_lexer.specs.TypeNames.{IsTypeBehind}

abbrev pub sign_cut : SignName → Cut
sign_cut s = record { kind = SignPiece; bytes = sign_spelling s }

-- the word is the last of the tokens
abbrev pub EndsWith : List Token → Word → Type 0
EndsWith before w = (earlier : List Token) × (t : Token) × (before ≡ earlier ++ t ∷ []) × (t.word ≡ w)

-- the sign stands next
abbrev pub SignIsNext : SignName → List Bare → Type 0
SignIsNext s behind = (w : Placed) × (rest : List Bare) × (behind ≡ Plain w ∷ rest) × (w.cut ≡ sign_cut s)

-- behind these tokens a `<` opens the arguments of a type
abbrev pub TakesArguments : List Token → Type 0
TakesArguments before =
    EndsWith before (Keyword Bit) ⊎ (EndsWith before (Keyword IntWord) ⊎ (EndsWith before (TypeName (codes "register")) ⊎ EndsWith before Lookahead))

-- a name that is no keyword and no reserved word
pub record IsPlainName (name : List ℕ) : Type 0 where
  pub no_keyword : (k : KeywordName) → name ≢ keyword_spelling k
  pub no_reserved : (r : ReservedName) → name ≢ reserved_spelling r

-- what a word that is spelled as a name is, where it stands behind `before` and `behind` follows
pub data IsMarkOfName (before : List Token) (name : List ℕ) (behind : List Bare) : Word → Type 0 where
  lookahead : EndsWith before (Sign Dot) → name ≡ codes "lookahead" → SignIsNext Less behind → IsMarkOfName before name behind Lookahead
  member : EndsWith before (Sign Dot) → (name ≡ codes "lookahead" → SignIsNext Less behind → ⊥) → IsMarkOfName before name behind (Id name)
  error_base : (EndsWith before (Sign Dot) → ⊥) → name ≡ codes "error" → SignIsNext Dot behind → IsMarkOfName before name behind (Base name)
  keyword : (k : KeywordName) → (EndsWith before (Sign Dot) → ⊥) → name ≡ keyword_spelling k → (k ≡ Error → SignIsNext Dot behind → ⊥) → IsMarkOfName before name behind (Keyword k)
  reserved : (r : ReservedName) → (EndsWith before (Sign Dot) → ⊥) → name ≡ reserved_spelling r → IsMarkOfName before name behind (Reserved r)
  base : (EndsWith before (Sign Dot) → ⊥) → IsPlainName name → IsTypeBehind before name → SignIsNext Dot behind → IsMarkOfName before name behind (Base name)
  type_name : (EndsWith before (Sign Dot) → ⊥) → IsPlainName name → IsTypeBehind before name → (SignIsNext Dot behind → ⊥) → IsMarkOfName before name behind (TypeName name)
  id : (EndsWith before (Sign Dot) → ⊥) → IsPlainName name → (IsTypeBehind before name → ⊥) → IsMarkOfName before name behind (Id name)

-- what a word is, by how it is spelled and what stands before it and behind it
pub data IsMarkOf (before : List Token) : Bare → List Bare → Word → Type 0 where
  name : (w : Placed) (behind : List Bare) (mark : Word) → w.cut.kind ≡ NamePiece → IsMarkOfName before w.cut.bytes behind mark → IsMarkOf before (Plain w) behind mark
  number : (w : Placed) (behind : List Bare) (l : Literal) → w.cut.kind ≡ NumberPiece → StandsFor w.cut.bytes l → IsMarkOf before (Plain w) behind (Int l)
  text : (w : Placed) (behind : List Bare) (inside : List ℕ) → w.cut.kind ≡ TextPiece → w.cut.bytes ≡ quotation_mark ∷ inside ++ quotation_mark ∷ [] → IsMarkOf before (Plain w) behind (Text inside)
  open_arguments : (w : Placed) (behind : List Bare) → w.cut ≡ sign_cut Less → TakesArguments before → IsMarkOf before (Plain w) behind OpenArguments
  sign : (w : Placed) (behind : List Bare) (s : SignName) → w.cut ≡ sign_cut s → (s ≡ Less → TakesArguments before → ⊥) → IsMarkOf before (Plain w) behind (Sign s)
  named : (text : List ℕ) (place : Span) (behind : List Bare) → IsMarkOf before (Named text place) behind (NamedWord text)
  default_only : (place : Span) (behind : List Bare) → IsMarkOf before (DefaultOnly place) behind DefaultOnlyWord
  table_only : (place : Span) (behind : List Bare) → IsMarkOf before (TableOnly place) behind TableOnlyWord

abbrev pub place_of : Bare → Span
place_of (Plain w) = w.place
place_of (Named _ place) = place
place_of (DefaultOnly place) = place
place_of (TableOnly place) = place

-- the sign begins with `>`; `rest` is what it has behind that
pub record BeginsWithGreater (w : Placed) (rest : List ℕ) : Type 0 where
  pub spelled : w.cut ≡ record { kind = SignPiece; bytes = greater ∷ rest }

-- what is left of a word behind its `>`: nothing, or a sign one byte further, unless the word stands in a replacement
abbrev pub next_byte : Placed → Span
next_byte w = if w.replacement then w.place else record { line = w.place.line; column = w.place.column + 1 }

abbrev pub left_of : Placed → List ℕ → List Bare
left_of w [] = []
left_of w (c ∷ rest) = Plain (record { cut = record { kind = SignPiece; bytes = c ∷ rest }; place = next_byte w; replacement = w.replacement }) ∷ []

-- The words become these tokens behind the tokens of `before`. In the arguments of a type, outside of brackets that were
-- opened behind their `<`, a word that begins with `>` is cut behind it, and the `>` closes them.
pub data Become : List Token → List Bare → List Token → Type 0 where
  none : (before : List Token) → Become before [] []
  whole : (before : List Token) (b : Bare) (bare : List Bare) (t : Token) (tokens : List Token)
      → ((w : Placed) (rest : List ℕ) → b ≡ Plain w → BeginsWithGreater w rest → InArguments before → ⊥)
      → IsMarkOf before b bare t.word → t.span ≡ place_of b
      → Become (before ++ t ∷ []) bare tokens → Become before (b ∷ bare) (t ∷ tokens)
  cut : (before : List Token) (w : Placed) (rest : List ℕ) (bare : List Bare) (t : Token) (tokens : List Token)
      → BeginsWithGreater w rest → InArguments before
      → t.word ≡ CloseArguments → t.span ≡ w.place
      → Become (before ++ t ∷ []) (left_of w rest ++ bare) tokens → Become before (Plain w ∷ bare) (t ∷ tokens)
