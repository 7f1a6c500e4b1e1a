-- The relations between symbols that FIRST and FOLLOW are the closures of, and pairs of symbols as rows.
use Rattle.std.specs.Prelude.{◌≡◌, ℕ, Bool, List, [], ◌∷◌, ◌++◌, if◌then◌else◌}
use Rattle.ll1_engine.specs.declared.grammar.Row.{Row}
use Rattle.ll1_engine.specs.Table.{IsRow}
use Rattle.ll1_engine.specs.Trees.{Nullable}
use Rattle.ll1_engine.specs.Marks.{all_in}

-- a row of x has y behind symbols that derive the empty list
pub record BeginsDirectly (g : List Row) (x y : ℕ) : Type 0 where
  pub k : ℕ
  pub r : Row
  pub before : List ℕ
  pub after : List ℕ
  pub row : IsRow g k r
  pub left : r.left ≡ x
  pub parts : r.right ≡ before ++ y ∷ after
  pub skipped : Nullable g before

-- a row has x, then symbols that derive the empty list, then y
pub record StandsBefore (g : List Row) (x y : ℕ) : Type 0 where
  pub k : ℕ
  pub r : Row
  pub before : List ℕ
  pub between : List ℕ
  pub after : List ℕ
  pub row : IsRow g k r
  pub parts : r.right ≡ before ++ x ∷ (between ++ y ∷ after)
  pub skipped : Nullable g between

-- a row of y has x before symbols that derive the empty list
pub record EndsDirectly (g : List Row) (x y : ℕ) : Type 0 where
  pub k : ℕ
  pub r : Row
  pub before : List ℕ
  pub after : List ℕ
  pub row : IsRow g k r
  pub left : r.left ≡ y
  pub parts : r.right ≡ before ++ x ∷ after
  pub skipped : Nullable g after

-- the rows are the pairs of the relation: the left symbol, and the other alone on the right side
pub record Represents (pairs : List Row) (Relates : ℕ → ℕ → Type 0) : Type 0 where
  pub sound : (k : ℕ) (r : Row) → IsRow pairs k r → (y : ℕ) × (r.right ≡ y ∷ []) × Relates r.left y
  pub whole : (x y : ℕ) → Relates x y → (k : ℕ) × (r : Row) × IsRow pairs k r × (r.left ≡ x) × (r.right ≡ y ∷ [])

-- a pair as a row
abbrev pub pair : ℕ → ℕ → Row
pair x y = record { left = x; right = y ∷ []; rank = 0 }

-- x with each symbol that stands behind nullable ones alone
abbrev pub begin_pairs : (ℕ → Bool) → ℕ → List ℕ → List Row
begin_pairs nullable x [] = []
begin_pairs nullable x (y ∷ ys) = pair x y ∷ (if nullable y then begin_pairs nullable x ys else [])

-- each symbol with those that stand behind it and behind nullable ones alone
abbrev pub next_pairs : (ℕ → Bool) → List ℕ → List Row
next_pairs nullable [] = []
next_pairs nullable (y ∷ ys) = begin_pairs nullable y ys ++ next_pairs nullable ys

-- each symbol that stands before nullable ones alone, with x
abbrev pub end_pairs : (ℕ → Bool) → ℕ → List ℕ → List Row
end_pairs nullable x [] = []
end_pairs nullable x (y ∷ ys) = (if all_in nullable ys then pair y x ∷ [] else []) ++ end_pairs nullable x ys

-- the pairs of each row
abbrev pub over : (Row → List Row) → List Row → List Row
over f [] = []
over f (r ∷ rows) = f r ++ over f rows
