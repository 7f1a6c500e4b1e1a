-- A text cut into pieces, each the longest at its place, and the pieces of one line.
use Rattle.std.specs.Prelude.{◌≡◌, ℕ, List, [], ◌∷◌, ◌++◌, length, Contains, ◌⊎◌}
use Rattle.p4_lexer.specs.declared.piece.Kind.{Kind}
use Rattle.p4_lexer.specs.Bytes.{line_feed}
use Rattle.p4_lexer.specs.Pieces.{Begins}

-- a piece with its bytes
pub record Cut : Type 0 where
  pub kind : Kind
  pub bytes : List ℕ

-- the text begins with these pieces, and what is behind them is left
abbrev pub CutsInto : List ℕ → List Cut → List ℕ → Type 0
CutsInto text [] left = text ≡ left
CutsInto text (c ∷ cuts) left = (rest : List ℕ) × (text ≡ c.bytes ++ rest) × Begins text c.kind (length c.bytes) × CutsInto rest cuts left

-- the bytes of pieces in a row
abbrev pub bytes_of : List Cut → List ℕ
bytes_of [] = []
bytes_of (c ∷ cuts) = c.bytes ++ bytes_of cuts

-- the piece holds a line feed: it is one, or a comment or a string that passes the end of its line
abbrev pub PassesLine : Cut → Type 0
PassesLine c = Contains c.bytes line_feed

-- the pieces up to the end of a line: up to the first that holds a line feed, or to the end of the text
abbrev pub AreLine : List Cut → List ℕ → Type 0
AreLine [] left = left ≡ []
AreLine (c ∷ []) left = PassesLine c ⊎ (left ≡ [])
AreLine (c ∷ d ∷ cuts) left = ¬ PassesLine c × AreLine (d ∷ cuts) left
