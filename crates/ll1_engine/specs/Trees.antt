-- Derivation trees of a context-free grammar, and what they derive.
use Rattle.std.specs.Prelude.{◌≡◌, ℕ, List, [], ◌∷◌, ◌++◌}
use Rattle.std.specs.List.{AllByRecursion}
use Rattle.ll1_engine.specs.declared.grammar.Row.{Row}
use Rattle.ll1_engine.specs.Table.{IsRow, IsToken}

-- a list of trees: empty; or a leaf, and the trees after it; or a node by row k, which is r, with the trees
-- below it, and the trees after it
pub data Trees : Type 0 where
  End : Trees
  Leaf : (symbol : ℕ) (after : Trees) → Trees
  Node : (k : ℕ) (r : Row) (below after : Trees) → Trees

-- the symbol at the root of each tree
abbrev pub roots : Trees → List ℕ
roots End = []
roots (Leaf x after) = x ∷ roots after
roots (Node k r below after) = r.left ∷ roots after

-- the leaves, from left to right
abbrev pub leaves : Trees → List ℕ
leaves End = []
leaves (Leaf x after) = x ∷ leaves after
leaves (Node k r below after) = leaves below ++ leaves after

-- the rows of the nodes, each before those below it, from left to right
abbrev pub preorder : Trees → List ℕ
preorder End = []
preorder (Leaf x after) = preorder after
preorder (Node k r below after) = k ∷ (preorder below ++ preorder after)

-- each node with the roots below it is a row of the table
abbrev pub AreTrees : List Row → Trees → Type 0
AreTrees g End = Unit {0}
AreTrees g (Leaf x after) = AreTrees g after
AreTrees g (Node k r below after) = IsRow g k r × (roots below ≡ r.right) × AreTrees g below × AreTrees g after

-- the symbols derive the tokens: there are trees with these roots and these leaves
pub record Derives (g : List Row) (symbols tokens : List ℕ) : Type 0 where
  pub trees : Trees
  pub valid : AreTrees g trees
  pub top : roots trees ≡ symbols
  pub bottom : leaves trees ≡ tokens
  pub terminal : AllByRecursion (IsToken g) tokens

-- the symbols derive some list of tokens
pub record Productive (g : List Row) (symbols : List ℕ) : Type 0 where
  pub tokens : List ℕ
  pub derives : Derives g symbols tokens

-- the symbols derive the empty list
abbrev pub Nullable : List Row → List ℕ → Type 0
Nullable g symbols = Derives g symbols []
