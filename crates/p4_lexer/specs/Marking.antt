-- What the tokens so far leave to be known while words are marked, and how far the words have become tokens.
use Rattle.std.specs.Prelude.{◌≡◌, ℕ, ◌+◌, ◌<◌, ◌^◌, ◌||◌, ◌&&◌, ◌==◌, ◌-◌, if◌then◌else◌, Bool, true, false, List, [], ◌∷◌, ◌++◌}
use Rattle.std.specs.Bool.{Decides}
use Rattle.p4_lexer.specs.declared.token.Token.{Token}
use Rattle.p4_lexer.specs.declared.token.Word.{Word}
use Rattle.p4_lexer.specs.declared.token.Word.TheVariants.{Keyword, Sign, Id, TypeName, Base, Lookahead, OpenArguments}
use Rattle.p4_lexer.specs.declared.token.Sign.{Sign as SignName}
use Rattle.p4_lexer.specs.declared.token.Sign.TheVariants.{Less}
use Rattle.p4_lexer.specs.declared.piece.Kind.{Kind}
use Rattle.p4_lexer.specs.declared.piece.Kind.TheVariants.{Sign as SignPiece}
use Rattle.p4_lexer.specs.Bytes.{greater}
use Rattle.p4_lexer.specs.Cuts.{Cut}
use Rattle.p4_lexer.specs.declared.token.Keyword.{Keyword as KeywordName}
use Rattle.p4_lexer.specs.declared.token.Keyword.TheVariants.{Error}
use Rattle.p4_lexer.specs.declared.extents.Bare.{Bare as BareAt}
use Rattle.p4_lexer.specs.declared.extents.Bare.TheVariants.{Plain as PlainAt, Named as NamedAt, DefaultOnly as DefaultOnlyAt, TableOnly as TableOnlyAt}
use Rattle.p4_lexer.specs.declared.marks.Marker.{Marker}
use Rattle.tg_base.specs.declared.place.Span.{Span}
use Rattle.p4_lexer.specs.declared.extents.WordAt.{WordAt}
use Rattle.p4_lexer.specs.SourceWords.{Placed}
use Rattle.p4_lexer.specs.Brackets.{InArguments}
use Rattle.p4_lexer.specs.Annotations.{Bare, Plain}
use Rattle.p4_lexer.specs.BareWords.{IsWord}
use Rattle.p4_lexer.specs.Extents.{IsIn, cut_at}
use Rattle.p4_lexer.specs.TypeNames.{IsTypeBehind}
use Rattle.p4_lexer.specs.Names.{has}
use Rattle.p4_lexer.specs.Behind.{behind, behind_of, is_first_type}
use Rattle.p4_lexer.specs.Marks.{BeginsWithGreater, Become}

-- the extent lies in the text, and a plain word is a proper one
abbrev pub IsBareOf : List ℕ → BareAt → Type 0
IsBareOf text (PlainAt w) = IsIn text w.piece.extent × IsWord (cut_at text w.piece)
IsBareOf text (NamedAt e place) = IsIn text e
IsBareOf text (DefaultOnlyAt place) = Unit {0}
IsBareOf text (TableOnlyAt place) = Unit {0}

-- the column behind the first byte of a plain word is a number of 32 bits
abbrev pub HasRoom : BareAt → Type 0
HasRoom (PlainAt w) = w.place.column + 1 < 2 ^ 32
HasRoom (NamedAt e place) = Unit {0}
HasRoom (DefaultOnlyAt place) = Unit {0}
HasRoom (TableOnlyAt place) = Unit {0}

-- what is kept is that of the tokens so far
pub record Follows (m : Marker) : Type 0 where
  pub kept_is : behind_of m.kept ≡ behind m.tokens
  pub types : (name : List ℕ) → Decides (is_first_type name || has m.types name) (IsTypeBehind m.tokens name)

-- the words became these tokens as far as `left`: whatever the rest becomes behind them, all become
abbrev pub Reaches : List Bare → List Token → List Bare → Type 0
Reaches words tokens left = (more : List Token) → Become tokens left more → Become [] words (tokens ++ more)

-- the mark of a name behind a `.`: whether it is `lookahead`, and a `<` is next
abbrev pub member_mark : List ℕ → Bool → Bool → Word
member_mark name true true = Lookahead
member_mark name true false = Id name
member_mark name false _ = Id name

-- the mark of a keyword: whether a `.` is next
abbrev pub error_mark : List ℕ → Bool → Word
error_mark name true = Base name
error_mark name false = Keyword Error

abbrev pub keyword_mark : List ℕ → Bool → KeywordName → Word
keyword_mark name point Error = error_mark name point
keyword_mark name point k = Keyword k

-- the mark of a name that the language does not keep: whether it is a type, and a `.` is next
abbrev pub plain_mark : List ℕ → Bool → Bool → Word
plain_mark name true true = Base name
plain_mark name true false = TypeName name
plain_mark name false _ = Id name

-- the mark of a sign, where a `<` here opens the arguments of a type or does not
abbrev pub less_mark : Bool → Word
less_mark true = OpenArguments
less_mark false = Sign Less

abbrev pub sign_mark : Bool → SignName → Word
sign_mark takes Less = less_mark takes
sign_mark takes s = Sign s

-- a sign that begins with `>`
abbrev pub head_is_greater : List ℕ → Bool
head_is_greater [] = false
head_is_greater (c ∷ rest) = c == greater

abbrev pub is_sign_kind : Kind → Bool
is_sign_kind SignPiece = true
is_sign_kind _ = false

abbrev pub begins_with_greater : Cut → Bool
begins_with_greater c = is_sign_kind c.kind && head_is_greater c.bytes

-- the token is not cut behind these
abbrev pub IsNotCut : List Token → Bare → Type 0
IsNotCut before b = (w : Placed) (left : List ℕ) → b ≡ Plain w → BeginsWithGreater w left → InArguments before → ⊥

-- what reaches the words behind the tokens `before` reaches what is left of them behind the tokens `after`
abbrev pub Leads : List Token → List Bare → List Token → List Bare → Type 0
Leads before words after left = (all : List Bare) → Reaches all before words → Reaches all after left

abbrev pub left_place : WordAt → Span
left_place w = if w.replacement then w.place else record { line = w.place.line; column = w.place.column + 1 }

-- what is left of a word behind its first byte
abbrev pub left_word : WordAt → WordAt
left_word w = record { piece = record { kind = SignPiece; extent = record { at = w.piece.extent.at + 1; len = w.piece.extent.len - 1 } }; place = left_place w; replacement = w.replacement }
