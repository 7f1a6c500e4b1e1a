-- Which names are types behind the tokens of a text.
use Rattle.std.specs.Prelude.{◌≡◌, ℕ, List, [], ◌∷◌, ◌++◌, Contains, ◌⊎◌}
use Rattle.std.specs.List.{AllByRecursion}
use Rattle.p4_lexer.specs.declared.token.Token.{Token}
use Rattle.p4_lexer.specs.declared.token.Word.{Word}
use Rattle.p4_lexer.specs.declared.token.Word.TheVariants.{Keyword, Sign, Id, TypeName, Base, OpenArguments, CloseArguments}
use Rattle.p4_lexer.specs.declared.token.Keyword.{Keyword as KeywordName}
use Rattle.p4_lexer.specs.declared.token.Keyword.TheVariants.{Struct, Header, Parser, Control, Enum, Bit, Typedef}
use Rattle.p4_lexer.specs.declared.token.Sign.TheVariants.{Semicolon}
use Rattle.p4_lexer.specs.Spellings.{first_types}
use Rattle.p4_lexer.specs.Brackets.{open_behind}

-- the word is this name
abbrev pub IsNameOf : List ℕ → Word → Type 0
IsNameOf name w = (w ≡ Id name) ⊎ ((w ≡ TypeName name) ⊎ (w ≡ Base name))

abbrev pub NoName : Token → Type 0
NoName t = (name : List ℕ) → IsNameOf name t.word → ⊥

abbrev pub NoSemicolon : Token → Type 0
NoSemicolon t = t.word ≡ Sign Semicolon → ⊥

-- a keyword before the name that it declares
abbrev pub Declares : KeywordName → Type 0
Declares Struct = Unit {0}
Declares Header = Unit {0}
Declares Parser = Unit {0}
Declares Control = Unit {0}
Declares Enum = Unit {0}
Declares _ = ⊥

-- the name stands directly behind such a keyword
pub record IsDeclared (before : List Token) (name : List ℕ) : Type 0 where
  pub earlier : List Token
  pub keyword : KeywordName
  pub first : Token
  pub second : Token
  pub later : List Token
  pub spelled : before ≡ earlier ++ first ∷ second ∷ later
  pub word : first.word ≡ Keyword keyword
  pub declares : Declares keyword
  pub named : IsNameOf name second.word

-- the tokens are the arguments between a `<` and its partner: no `>` among them closes that `<`
abbrev pub AreArguments : List Token → Type 0
AreArguments arguments = (open_behind [] arguments ≡ []) × ((front rest : List Token) (t : Token) → arguments ≡ front ++ t ∷ rest → t.word ≡ CloseArguments → open_behind [] front ≡ [] → ⊥)

-- the name stands behind `enum bit<..>`
pub record IsDeclaredWithWidth (before : List Token) (name : List ℕ) : Type 0 where
  pub earlier : List Token
  pub enum : Token
  pub bit : Token
  pub open_ : Token
  pub arguments : List Token
  pub close : Token
  pub named_by : Token
  pub later : List Token
  pub spelled : before ≡ earlier ++ enum ∷ bit ∷ open_ ∷ arguments ++ close ∷ named_by ∷ later
  pub first : enum.word ≡ Keyword Enum
  pub second : bit.word ≡ Keyword Bit
  pub opens : open_.word ≡ OpenArguments
  pub balanced : AreArguments arguments
  pub closes : close.word ≡ CloseArguments
  pub named : IsNameOf name named_by.word

-- the name is the last of a `typedef`, which goes to its `;`
pub record IsDefined (before : List Token) (name : List ℕ) : Type 0 where
  pub earlier : List Token
  pub typedef : Token
  pub inside : List Token
  pub named_by : Token
  pub rest : List Token
  pub semicolon : Token
  pub later : List Token
  pub spelled : before ≡ earlier ++ typedef ∷ inside ++ named_by ∷ rest ++ semicolon ∷ later
  pub first : typedef.word ≡ Keyword Typedef
  pub one : AllByRecursion NoSemicolon inside
  pub named : IsNameOf name named_by.word
  pub last : AllByRecursion NoName rest
  pub ends : AllByRecursion NoSemicolon rest
  pub ended : semicolon.word ≡ Sign Semicolon

-- the name is a type behind these tokens
abbrev pub IsTypeBehind : List Token → List ℕ → Type 0
IsTypeBehind before name = Contains first_types name ⊎ (IsDeclared before name ⊎ (IsDeclaredWithWidth before name ⊎ IsDefined before name))
