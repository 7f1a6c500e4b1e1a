-- The nodes of a tree that are open around a leaf, and those that begin before it.
use Rattle.std.specs.Prelude.{◌≡◌, ℕ, ◌-◌, List, [], ◌∷◌, ◌++◌, length, take, nat_lt, if◌then◌else◌}
use Prim.Native.Nat.{zero, suc}
use Rattle.ll1_engine.specs.declared.grammar.Row.{Row}
use Rattle.ll1_engine.specs.Trees.{Trees, End, Leaf, Node, leaves, preorder}
use Rattle.ll1_engine.specs.Parse.{IsAllowedTree}

-- a node by this row, in which the symbol at this place of the right side holds the leaf
pub record OpenNode : Type 0 where
  pub row : ℕ
  pub place : ℕ

-- which of the trees holds leaf i of all
abbrev pub holder : Trees → ℕ → ℕ
holder End i = 0
holder (Leaf x after) zero = 0
holder (Leaf x after) (suc i) = suc (holder after i)
holder (Node k r below after) i =
    if nat_lt i (length (leaves below)) then 0 else suc (holder after (i - length (leaves below)))

-- the nodes that are open around leaf i, from the root on
abbrev pub open_around : Trees → ℕ → List OpenNode
open_around End i = []
open_around (Leaf x after) zero = []
open_around (Leaf x after) (suc i) = open_around after i
open_around (Node k r below after) i =
    if nat_lt i (length (leaves below)) then record { row = k; place = holder below i } ∷ open_around below i
    else open_around after (i - length (leaves below))

-- the rows of the nodes that begin before leaf i, each before those below it
abbrev pub rows_before : Trees → ℕ → List ℕ
rows_before End i = []
rows_before (Leaf x after) zero = []
rows_before (Leaf x after) (suc i) = rows_before after i
rows_before (Node k r below after) i =
    k ∷ (if nat_lt i (length (leaves below)) then rows_before below i
    else (preorder below ++ rows_before after (i - length (leaves below))))

-- In each tree that the ranks allow of a list that begins with so many of the tokens, the nodes that begin before the last of
-- these have the rows with which these rows begin.
abbrev pub TellTrees : List Row → List ℕ → List ℕ → ℕ → Type 0
TellTrees g rows tokens place =
    (tree : Trees) (rest : List ℕ) (last : ℕ) → IsAllowedTree g tree (take place tokens ++ rest) → place ≡ suc last →
    (more : List ℕ) × (rows ≡ rows_before tree last ++ more)
