-- What stands at the start of a text: at each place the longest word, blank or comment is taken.
use Rattle.std.specs.Prelude.{◌≡◌, ◌≢◌, ℕ, ◌≤◌, List, take, length}
use Rattle.p4_lexer.specs.declared.piece.Kind.{Kind}
use Rattle.p4_lexer.specs.declared.piece.Kind.TheVariants.{Blank, Comment, Name, Number, Text, Sign, Annotation, OpenComment, OpenText, Stray}
use Rattle.p4_lexer.specs.Numbers.{IsNumber}
use Rattle.p4_lexer.specs.Words.{IsBlank, IsName, IsAnnotation, IsText, IsOpenText, IsLineComment, IsBlockComment, IsOpenComment}
use Rattle.p4_lexer.specs.Signs.{IsSign}
use Rattle.std.specs.Prelude.{◌⊎◌}

-- the bytes are a piece of this kind
abbrev pub IsPiece : Kind → List ℕ → Type 0
IsPiece Blank w = IsBlank w
IsPiece Comment w = IsLineComment w ⊎ IsBlockComment w
IsPiece Name w = IsName w
IsPiece Number w = IsNumber w
IsPiece Text w = IsText w
IsPiece Sign w = IsSign w
IsPiece Annotation w = IsAnnotation w
IsPiece OpenComment w = IsOpenComment w
IsPiece OpenText w = IsOpenText w
IsPiece Stray w = length w ≡ 1

-- The first len bytes of the text are a piece of this kind, and no more of them are a piece of any kind. One byte is
-- stray only where it is no other piece.
pub record Begins (text : List ℕ) (kind : Kind) (len : ℕ) : Type 0 where
  pub within : len ≤ length text
  pub piece : IsPiece kind (take len text)
  pub longest : (other : Kind) (more : ℕ) → more ≤ length text → IsPiece other (take more text) → more ≤ len
  pub nothing : kind ≡ Stray → (other : Kind) → other ≢ Stray → ¬ IsPiece other (take len text)
