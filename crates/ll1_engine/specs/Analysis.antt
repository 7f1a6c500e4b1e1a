-- What is found out of a table before its rows are judged.
use Rattle.std.specs.Prelude.{◌≡◌, ℕ, ◌<◌, Bool, IsTrue, ◌↔◌, List, [], ◌∷◌, length, slice_index_or, Option, None, Some}
use Rattle.ll1_engine.specs.declared.grammar.Row.{Row}
use Rattle.ll1_engine.specs.declared.analysis.AllTokenSets.{AllTokenSets}
use Rattle.ll1_engine.specs.declared.analysis.Analysis.{Analysis}
use Rattle.ll1_engine.specs.declared.relations.Relations.{Relations}
use Rattle.ll1_engine.specs.Table.{IsRow, IsToken, RowIsBelow}
use Rattle.ll1_engine.specs.Trees.{Productive, Nullable}
use Rattle.ll1_engine.specs.First.{BeginsWith, InFirst, InFollow}
use Rattle.ll1_engine.specs.Conditions.{IsOther}
use Rattle.ll1_engine.specs.Prediction.{PredictsNullable, PredictsFirst}
use Rattle.ll1_engine.specs.Marks.{marked, Has, all_in}
use Rattle.ll1_engine.specs.Relations.{BeginsDirectly, StandsBefore, EndsDirectly, Represents}

abbrev pub AreBelow : ℕ → List Row → Type 0
AreBelow size g = (k : ℕ) (r : Row) → IsRow g k r → RowIsBelow size r

-- the marked symbols are the tokens
abbrev pub MarksTokens : ℕ → List Row → List Bool → Type 0
MarksTokens size g marks = (x : ℕ) → x < size → Has marks x ↔ IsToken g x

-- those that derive some list of tokens
abbrev pub MarksProductive : ℕ → List Row → List Bool → Type 0
MarksProductive size g marks = (x : ℕ) → x < size → Has marks x ↔ Productive g (x ∷ [])

-- those that derive the empty list
abbrev pub MarksNullable : List Row → List Bool → Type 0
MarksNullable g marks = (x : ℕ) → Has marks x ↔ Nullable g (x ∷ [])

-- those with the token in their FIRST
abbrev pub MarksFirst : List Row → ℕ → List Bool → Type 0
MarksFirst g t marks = (x : ℕ) → Has marks x ↔ InFirst g x t

-- those with the token in their FOLLOW
abbrev pub MarksFollow : List Row → ℕ → List Bool → Type 0
MarksFollow g t marks = (x : ℕ) → Has marks x ↔ InFollow g x (Some t)

-- some row of the symbol has its right side in the set
abbrev pub HasRowWithin : List Row → List Bool → ℕ → Type 0
HasRowWithin g set x = (k : ℕ) × (r : Row) × IsRow g k r × (r.left ≡ x) × IsTrue (all_in (marked set) r.right)

-- the relations whose closures are FIRST and FOLLOW
pub record AreRelations (size : ℕ) (g : List Row) (s : Relations) : Type 0 where
  pub begins : Represents s.begins.items (BeginsDirectly g)
  pub begins_below : AreBelow size s.begins.items
  pub next : Represents s.next.items (StandsBefore g)
  pub next_below : AreBelow size s.next.items
  pub ends : Represents s.ends.items (EndsDirectly g)
  pub ends_below : AreBelow size s.ends.items

-- the marked rows are those that derive the empty list
abbrev pub MarksNullableRows : List Row → List Bool → Type 0
MarksNullableRows g marks = (k : ℕ) (r : Row) → IsRow g k r → Has marks k ↔ Nullable g r.right

-- those with the token in their FIRST
abbrev pub MarksFirstRows : List Row → ℕ → List Bool → Type 0
MarksFirstRows g t marks = (k : ℕ) (r : Row) → IsRow g k r → Has marks k ↔ BeginsWith g r.right t

-- a marked row of the symbol, or none where there is none
abbrev pub PredictsMarked : List Row → List Bool → ℕ → Option ℕ → Type 0
PredictsMarked g marks x None = (k : ℕ) (r : Row) → IsRow g k r → r.left ≡ x → ¬ Has marks k
PredictsMarked g marks x (Some k) = (r : Row) × IsRow g k r × (r.left ≡ x) × Has marks k

-- what is found out for one token
pub record AreTokenSets (size : ℕ) (g : List Row) (t : ℕ)
    (first_rows follow : List Bool) (first : List (Option ℕ)) : Type 0 where
  pub first_row_size : length first_rows ≡ length g
  pub first_row_marks : MarksFirstRows g t first_rows
  pub follow_size : length follow ≡ size
  pub follow_marks : MarksFollow g t follow
  pub prediction_size : length first ≡ size
  pub first_predicted : (x : ℕ) → x < size → PredictsFirst g t x (slice_index_or first x None)

-- and for each token below count
pub record AreSetsBelow (count size : ℕ) (g : List Row)
    (first_rows follows : List (List Bool)) (first_predictions : List (List (Option ℕ))) : Type 0 where
  pub first_row_count : length first_rows ≡ count
  pub follow_count : length follows ≡ count
  pub prediction_count : length first_predictions ≡ count
  pub each : (t : ℕ) → t < count →
      AreTokenSets size g t (slice_index_or first_rows t []) (slice_index_or follows t []) (slice_index_or first_predictions t [])

-- and for each token of the table
abbrev pub AreAllTokenSets : ℕ → List Row → AllTokenSets → Type 0
AreAllTokenSets size g s = AreSetsBelow size size g s.first_rows.items s.follows.items s.first_predictions.items

-- and for the whole table
pub record IsAnalysis (size : ℕ) (g : List Row) (s : Analysis) : Type 0 where
  pub token_count : length s.tokens.items ≡ size
  pub token_marks : MarksTokens size g s.tokens.items
  pub productive_count : length s.productive.items ≡ size
  pub productive_marks : MarksProductive size g s.productive.items
  pub nullable_row_count : length s.nullable_rows.items ≡ length g
  pub nullable_row_marks : MarksNullableRows g s.nullable_rows.items
  pub nullable_count : length s.nullable_predictions ≡ size
  pub nullable_predicted : (x : ℕ) → x < size → PredictsNullable g x (slice_index_or s.nullable_predictions x None)
  pub token_sets : AreAllTokenSets size g s.token_sets

-- another row of the symbol of row k is marked
abbrev pub OtherMarked : List Row → ℕ → Row → List Bool → Type 0
OtherMarked g k r marks = (j : ℕ) × (s : Row) × IsOther g k r j s × Has marks j

-- the symbol of row k has one other row, and that is the empty row with rank 0
pub record HasPlainTwin (g : List Row) (k : ℕ) (r : Row) : Type 0 where
  pub j : ℕ
  pub s : Row
  pub other : IsOther g k r j s
  pub empty : s.right ≡ []
  pub plain : s.rank ≡ 0
  pub only : (i : ℕ) (q : Row) → IsOther g k r i q → i ≡ j

-- a token is in FIRST of row k and in FOLLOW of its symbol
abbrev pub BeginsAndFollows : List Row → Row → Type 0
BeginsAndFollows g r = (t : ℕ) × BeginsWith g r.right t × InFollow g r.left (Some t)
