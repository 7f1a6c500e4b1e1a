-- The pieces of the line with which a text begins, each as its kind and its length.
use Rattle.std.specs.Prelude.{◌≡◌, ℕ, List, length, map}
use Rattle.p4_lexer.specs.declared.piece.Piece.{Piece}
use Rattle.p4_lexer.specs.Cuts.{Cut, CutsInto, AreLine}

-- a piece without its bytes
abbrev pub without_bytes : Cut → Piece
without_bytes c = record { kind = c.kind; len = length c.bytes }

-- the text begins with a line, and these are its pieces
pub record AreFirstLine (text : List ℕ) (pieces : List Piece) : Type 0 where
  pub cuts : List Cut
  pub left : List ℕ
  pub spelled : pieces ≡ map without_bytes cuts
  pub cut : CutsInto text cuts left
  pub line : AreLine cuts left
