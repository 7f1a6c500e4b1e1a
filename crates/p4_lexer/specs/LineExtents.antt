-- The pieces of a line by their extents.
use Rattle.std.specs.Prelude.{ℕ, ◌+◌, ◌≤◌, List, [], ◌∷◌, length, drop, map, All}
use Rattle.p4_lexer.specs.declared.piece.Piece.{Piece}
use Rattle.p4_lexer.specs.declared.extents.PieceAt.{PieceAt}
use Rattle.p4_lexer.specs.Cuts.{CutsInto, AreLine}
use Rattle.p4_lexer.specs.Extents.{cut_at}
use Rattle.p4_lexer.specs.DirectiveExtents.{IsPieceAt}
use Rattle.p4_lexer.specs.BadPieces.{AreInRow}

-- pieces in a row from a place on
abbrev pub placed_from : ℕ → List Piece → List PieceAt
placed_from at [] = []
placed_from at (p ∷ pieces) = record { kind = p.kind; extent = record { at = at; len = p.len } } ∷ placed_from (at + p.len) pieces

-- where they end
abbrev pub end_from : ℕ → List Piece → ℕ
end_from at [] = at
end_from at (p ∷ pieces) = end_from (at + p.len) pieces

-- these pieces of the text are a line that goes on from a place to its end
pub record IsLineAt (text : List ℕ) (start : ℕ) (pieces : List PieceAt) (end : ℕ) : Type 0 where
  pub from : start ≤ end
  pub within : end ≤ length text
  pub few : length pieces ≤ length text
  pub fit : All (IsPieceAt text) pieces
  pub row : AreInRow start pieces
  pub cut : CutsInto (drop start text) (map (cut_at text) pieces) (drop end text)
  pub line : AreLine (map (cut_at text) pieces) (drop end text)
