-- What pieces by extents are in a text, and which directive the code's answer stands for.
use Rattle.std.specs.Prelude.{ℕ, ◌<◌, ◌≤◌, List, length, drop, map}
use Rattle.p4_lexer.specs.declared.extents.PieceAt.{PieceAt}
use Rattle.p4_lexer.specs.declared.directives.DirectiveAt.{DirectiveAt}
use Rattle.p4_lexer.specs.declared.directives.DirectiveAt.TheVariants.{Include as IncludeAt, Define as DefineAt, Undefine as UndefineAt, IfDefined as IfDefinedAt, IfNotDefined as IfNotDefinedAt, Else as ElseAt, EndIf as EndIfAt}
use Rattle.p4_lexer.specs.Pieces.{IsPiece}
use Rattle.p4_lexer.specs.Directives.{Directive, Include, Define, Undefine, IfDefined, IfNotDefined, Else, EndIf}
use Rattle.p4_lexer.specs.Extents.{bytes_at, IsIn, cut_at}

-- the extent lies in the text, has a byte, and its bytes are a piece of this kind
pub record IsPieceAt (text : List ℕ) (p : PieceAt) : Type 0 where
  pub within : IsIn text p.extent
  pub some : 0 < p.extent.len
  pub piece : IsPiece p.kind (bytes_at text p.extent)

-- the directive that the answer stands for, among these pieces of its line
abbrev pub directive_at : List ℕ → List PieceAt → DirectiveAt → Directive
directive_at text pieces IncludeAt = Include
directive_at text pieces (DefineAt name first) = Define (bytes_at text name) (map (cut_at text) (drop first pieces))
directive_at text pieces (UndefineAt name) = Undefine (bytes_at text name)
directive_at text pieces (IfDefinedAt name) = IfDefined (bytes_at text name)
directive_at text pieces (IfNotDefinedAt name) = IfNotDefined (bytes_at text name)
directive_at text pieces ElseAt = Else
directive_at text pieces EndIfAt = EndIf

-- what the answer names lies in the text and in its line
abbrev pub DirectiveFits : List ℕ → List PieceAt → DirectiveAt → Type 0
DirectiveFits text pieces (DefineAt name first) = IsIn text name × (first ≤ length pieces)
DirectiveFits text pieces (UndefineAt name) = IsIn text name
DirectiveFits text pieces (IfDefinedAt name) = IsIn text name
DirectiveFits text pieces (IfNotDefinedAt name) = IsIn text name
DirectiveFits text pieces _ = Unit {0}
