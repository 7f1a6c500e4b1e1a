-- The row that is predicted for a symbol from the token that stands next.
use Rattle.std.specs.Prelude.{◌≡◌, ℕ, ◌<◌, Bool, false, IsTrue, ◌↔◌, List, [], length, slice_index_or, Option, None, Some, ◌⊎◌}
use Rattle.ll1_engine.specs.declared.grammar.Row.{Row}
use Rattle.ll1_engine.specs.Table.{IsRow, IsToken, FitsIn}
use Rattle.ll1_engine.specs.Trees.{Nullable}
use Rattle.ll1_engine.specs.First.{BeginsWith}
use Rattle.ll1_engine.specs.Conditions.{IsGood}

-- a row of symbol x that derives the empty list, or none where there is no such row
abbrev pub PredictsNullable : List Row → ℕ → Option ℕ → Type 0
PredictsNullable g x None = (k : ℕ) (r : Row) → IsRow g k r → r.left ≡ x → ¬ Nullable g r.right
PredictsNullable g x (Some k) = (r : Row) × IsRow g k r × (r.left ≡ x) × Nullable g r.right

-- a row of symbol x that has t in its FIRST, or none where there is no such row
abbrev pub PredictsFirst : List Row → ℕ → ℕ → Option ℕ → Type 0
PredictsFirst g t x None = (k : ℕ) (r : Row) → IsRow g k r → r.left ≡ x → ¬ BeginsWith g r.right t
PredictsFirst g t x (Some k) = (r : Row) × IsRow g k r × (r.left ≡ x) × BeginsWith g r.right t

-- the row predicted for x where `next` stands: one that begins with it, else one that derives the empty list
abbrev pub Predicts : List Row → ℕ → Option ℕ → Option ℕ → Type 0
Predicts g x None choice = PredictsNullable g x choice
Predicts g x (Some t) choice =
    ((k : ℕ) × (choice ≡ Some k) × PredictsFirst g t x (Some k)) ⊎ (PredictsFirst g t x None × PredictsNullable g x choice)

-- what a checked table keeps beside its rows: which symbols are tokens, for each token and symbol the row that
-- begins with the token, and for each symbol the row that derives the empty list
pub record IsPrepared (symbols rows : ℕ) (g : List Row) (tokens : List Bool)
    (first_predictions : List (List (Option ℕ))) (nullable_predictions : List (Option ℕ)) : Type 0 where
  pub good : IsGood g
  pub fits : FitsIn symbols rows g
  pub token_count : length tokens ≡ symbols
  pub token_marks : (x : ℕ) → x < symbols → IsTrue (slice_index_or tokens x false) ↔ IsToken g x
  pub nullable_count : length nullable_predictions ≡ symbols
  pub nullable_predicted : (x : ℕ) → x < symbols → PredictsNullable g x (slice_index_or nullable_predictions x None)
  pub prediction_count : length first_predictions ≡ symbols
  pub row_count : (t : ℕ) → t < symbols → length (slice_index_or first_predictions t []) ≡ symbols
  pub first_predicted : (t x : ℕ) → t < symbols → x < symbols →
      PredictsFirst g t x (slice_index_or (slice_index_or first_predictions t []) x None)
