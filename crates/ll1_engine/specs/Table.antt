-- Rows and tokens of a table of rows.
use Rattle.std.specs.Prelude.{◌≡◌, ◌≢◌, ℕ, ◌<◌, List, length, Some, slice_get}
use Rattle.std.specs.List.{AllByRecursion}
use Rattle.ll1_engine.specs.declared.grammar.Row.{Row}

-- row k of the table
abbrev pub IsRow : List Row → ℕ → Row → Type 0
IsRow g k r = slice_get g k ≡ Some r

-- a symbol for which there is no row
abbrev pub IsToken : List Row → ℕ → Type 0
IsToken g x = (k : ℕ) (r : Row) → IsRow g k r → r.left ≢ x

-- each symbol of the row is below n
pub record RowIsBelow (n : ℕ) (r : Row) : Type 0 where
  pub left : r.left < n
  pub right : AllByRecursion (λ y. y < n) r.right

-- a table of rows many rows over the symbols below symbols, of which 0 is the start
pub record FitsIn (symbols rows : ℕ) (g : List Row) : Type 0 where
  pub start : 0 < symbols
  pub count : length g ≡ rows
  pub below : (k : ℕ) (r : Row) → IsRow g k r → RowIsBelow symbols r
