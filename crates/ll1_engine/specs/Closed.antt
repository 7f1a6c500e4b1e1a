-- Sets of symbols that are closed under the rules of nullable, FIRST and FOLLOW, and so hold at least what the least ones
-- do. With such sets a table can be shown to be good by looking at its rows one by one.
use Rattle.std.specs.Prelude.{◌≡◌, ℕ, Bool, IsTrue, List, ◌∷◌, ◌++◌}
use Rattle.ll1_engine.specs.declared.grammar.Row.{Row}
use Rattle.ll1_engine.specs.Table.{IsRow, IsToken}
use Rattle.ll1_engine.specs.Marks.{all_in, begins_in}

-- nullable symbols, and for each token the symbols that have it in FIRST, and those that have it in FOLLOW
pub record AreClosed (g : List Row) (nullable : ℕ → Bool) (first follow : ℕ → ℕ → Bool) : Type 0 where
  pub nullable_row : (k : ℕ) (r : Row) → IsRow g k r → IsTrue (all_in nullable r.right) → IsTrue (nullable r.left)
  pub first_token : (t : ℕ) → IsToken g t → IsTrue (first t t)
  pub first_row : (k : ℕ) (r : Row) (t : ℕ) → IsRow g k r →
      IsTrue (begins_in (first t) nullable r.right) → IsTrue (first t r.left)
  pub follow_next : (k : ℕ) (r : Row) (before : List ℕ) (y : ℕ) (after : List ℕ) (t : ℕ) → IsRow g k r →
      r.right ≡ before ++ y ∷ after → IsTrue (begins_in (first t) nullable after) → IsTrue (follow t y)
  pub follow_left : (k : ℕ) (r : Row) (before : List ℕ) (y : ℕ) (after : List ℕ) (t : ℕ) → IsRow g k r →
      r.right ≡ before ++ y ∷ after → IsTrue (all_in nullable after) → IsTrue (follow t r.left) → IsTrue (follow t y)
