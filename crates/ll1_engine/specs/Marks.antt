-- Sets of symbols as marks, one for each symbol, and how a pass over the rows widens them.
use Rattle.std.specs.Prelude.{◌≡◌, ℕ, ◌<◌, ◌≤◌, suc, Bool, true, false, ◌&&◌, ◌||◌, IsTrue, IsFalse, List, [], ◌∷◌, length, slice_index_or}
use Rattle.std.specs.List.{AllByRecursion}
use Rattle.ll1_engine.specs.declared.grammar.Row.{Row}
use Rattle.ll1_engine.specs.Trees.{Trees, roots, leaves, AreTrees}

-- whether x is marked
abbrev pub marked : List Bool → ℕ → Bool
marked marks x = slice_index_or marks x false

abbrev pub Has : List Bool → ℕ → Type 0
Has marks x = IsTrue (marked marks x)

-- how many are not marked
abbrev pub unmarked : List Bool → ℕ
unmarked [] = 0
unmarked (true ∷ marks) = unmarked marks
unmarked (false ∷ marks) = suc (unmarked marks)

-- each symbol is in the set
abbrev pub all_in : (ℕ → Bool) → List ℕ → Bool
all_in p [] = true
all_in p (x ∷ xs) = p x && all_in p xs

-- a symbol is in `first`, and each before it in `nullable`
abbrev pub begins_in : (ℕ → Bool) → (ℕ → Bool) → List ℕ → Bool
begins_in first nullable [] = false
begins_in first nullable (x ∷ xs) = first x || (nullable x && begins_in first nullable xs)

-- new has the marks of old, and more where something was added
pub record Widens (old new : List Bool) (added : Bool) : Type 0 where
  pub size : length new ≡ length old
  pub grows : (x : ℕ) → Has old x → Has new x
  pub no_more : unmarked new ≤ unmarked old
  pub fewer : IsTrue added → unmarked new < unmarked old
  pub same : IsFalse added → new ≡ old

-- the symbols derive a list of marked ones alone
pub record DerivesWithin (g : List Row) (seed : List Bool) (symbols : List ℕ) : Type 0 where
  pub trees : Trees
  pub valid : AreTrees g trees
  pub top : roots trees ≡ symbols
  pub bottom : AllByRecursion (Has seed) (leaves trees)

abbrev pub AllDerive : List Row → List Bool → List Bool → Type 0
AllDerive g seed marks = (x : ℕ) → Has marks x → DerivesWithin g seed (x ∷ [])

-- the left of the row is in the set, where its right side is
abbrev pub ClosedAt : (ℕ → Bool) → Row → Type 0
ClosedAt p r = IsTrue (all_in p r.right) → IsTrue (p r.left)

-- what is marked is in the set
abbrev pub Within : List Bool → (ℕ → Bool) → Type 0
Within marks p = (x : ℕ) → Has marks x → IsTrue (p x)
