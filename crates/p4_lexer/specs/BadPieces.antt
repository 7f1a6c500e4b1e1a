-- Bad pieces of a line by their extents, and the refusals that they are.
use Rattle.std.specs.Prelude.{◌≡◌, ℕ, ◌+◌, List, [], ◌∷◌, take, drop, Contains}
use Rattle.tg_base.specs.declared.place.Code.TheVariants.{Lex}
use Rattle.tg_base.specs.declared.place.Refusal.{Refusal}
use Rattle.p4_lexer.specs.declared.extents.PieceAt.{PieceAt}
use Rattle.p4_lexer.specs.Places.{place_after}
use Rattle.p4_lexer.specs.Extents.{cut_at}
use Rattle.p4_lexer.specs.Tokens.{IsBadPiece, refusal_at}

-- the pieces stand directly behind one another from a place on
abbrev pub AreInRow : ℕ → List PieceAt → Type 0
AreInRow at [] = Unit {0}
AreInRow at (p ∷ pieces) = (p.extent.at ≡ at) × AreInRow (at + p.extent.len) pieces

-- the refusal at a piece
abbrev pub piece_refusal : List ℕ → PieceAt → Refusal
piece_refusal text p = refusal_at Lex (place_after (take p.extent.at text))

-- some piece is bad, and this is its refusal
pub record HasBadAt (text : List ℕ) (pieces : List PieceAt) (f : Refusal) : Type 0 where
  pub piece : PieceAt
  pub there : Contains pieces piece
  pub bad : IsBadPiece (cut_at text piece) (drop (piece.extent.at + piece.extent.len) text)
  pub refusal : f ≡ piece_refusal text piece
