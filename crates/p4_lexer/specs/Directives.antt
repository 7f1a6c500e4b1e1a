-- The directives, by the pieces of their lines behind the `#`.
use Rattle.std.specs.Prelude.{◌≡◌, ◌≢◌, ℕ, List, [], ◌∷◌, ◌++◌, codes, ◌⊎◌}
use Rattle.std.specs.List.{AllByRecursion}
use Rattle.p4_lexer.specs.declared.piece.Kind.TheVariants.{Blank, Comment, Name, Sign, OpenComment}
use Rattle.p4_lexer.specs.Bytes.{line_feed}
use Rattle.p4_lexer.specs.Cuts.{Cut, bytes_of}

pub data Directive : Type 0 where
  Include : Directive
  Define : (name : List ℕ) (words : List Cut) → Directive
  Undefine : (name : List ℕ) → Directive
  IfDefined : (name : List ℕ) → Directive
  IfNotDefined : (name : List ℕ) → Directive
  Else : Directive
  EndIf : Directive

abbrev pub name_piece : List ℕ → Cut
name_piece name = record { kind = Name; bytes = name }

-- a blank of the line itself
abbrev pub IsGap : Cut → Type 0
IsGap c = (c.kind ≡ Blank) × (c.bytes ≢ line_feed ∷ [])

-- a blank, or a comment
abbrev pub IsFiller : Cut → Type 0
IsFiller c = (c.kind ≡ Blank) ⊎ ((c.kind ≡ Comment) ⊎ (c.kind ≡ OpenComment))

-- the pieces begin with a word, blanks of the line behind it, at least one, and a name; `left` is behind the name
pub record NamesAfter (pieces : List Cut) (word name : List ℕ) (left : List Cut) : Type 0 where
  pub gap : Cut
  pub gaps : List Cut
  pub spelled : pieces ≡ name_piece word ∷ (gap ∷ gaps) ++ name_piece name ∷ left
  pub blank : AllByRecursion IsGap (gap ∷ gaps)

-- the pieces are a word, a name behind blanks, and then only blanks and comments
pub record IsNameAlone (pieces : List Cut) (word name : List ℕ) : Type 0 where
  pub left : List Cut
  pub names : NamesAfter pieces word name left
  pub filler : AllByRecursion IsFiller left

-- the pieces are a word, and then only blanks and comments
pub record IsWordAlone (pieces : List Cut) (word : List ℕ) : Type 0 where
  pub left : List Cut
  pub spelled : pieces ≡ name_piece word ∷ left
  pub filler : AllByRecursion IsFiller left

-- the file names that may be included: their pieces have these bytes
abbrev pub IsFile : List ℕ → Type 0
IsFile name = (name ≡ codes "<core.p4>") ⊎ (name ≡ codes "<v1model.p4>")

-- `include`, blanks or none, a file name, and then only blanks and comments
pub record IsInclude (pieces : List Cut) : Type 0 where
  pub gaps : List Cut
  pub file : List Cut
  pub left : List Cut
  pub spelled : pieces ≡ name_piece (codes "include") ∷ gaps ++ file ++ left
  pub blank : AllByRecursion IsGap gaps
  pub named : IsFile (bytes_of file)
  pub filler : AllByRecursion IsFiller left

-- `define`, a name behind blanks, and what is put in its place; no `(` follows the name directly
pub record IsDefine (pieces : List Cut) (name : List ℕ) (words : List Cut) : Type 0 where
  pub names : NamesAfter pieces (codes "define") name words
  pub plain : (more : List Cut) → words ≢ record { kind = Sign; bytes = codes "(" } ∷ more

-- the pieces behind the `#` of a line are this directive
abbrev pub IsDirective : List Cut → Directive → Type 0
IsDirective pieces Include = IsInclude pieces
IsDirective pieces (Define name words) = IsDefine pieces name words
IsDirective pieces (Undefine name) = IsNameAlone pieces (codes "undef") name
IsDirective pieces (IfDefined name) = IsNameAlone pieces (codes "ifdef") name
IsDirective pieces (IfNotDefined name) = IsNameAlone pieces (codes "ifndef") name
IsDirective pieces Else = IsWordAlone pieces (codes "else")
IsDirective pieces EndIf = IsWordAlone pieces (codes "endif")
