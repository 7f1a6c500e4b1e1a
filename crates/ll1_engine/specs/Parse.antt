-- Trees of a list of tokens, as their rows in preorder, and the place where a list can not go on.
use Rattle.std.specs.Prelude.{◌≡◌, ℕ, ◌+◌, ◌<◌, ◌≤◌, List, [], ◌∷◌, ◌++◌, length, take, Option, None, Some}
use Rattle.std.specs.List.{AllByRecursion}
use Rattle.ll1_engine.specs.declared.grammar.Row.{Row}
use Rattle.ll1_engine.specs.Table.{IsRow, IsToken}
use Rattle.ll1_engine.specs.Trees.{Trees, End, Leaf, Node, roots, leaves, preorder, AreTrees}

-- the first of the tokens, or what stands after them
abbrev pub first_or : List ℕ → Option ℕ → Option ℕ
first_or [] after = after
first_or (t ∷ ts) after = Some t

-- a node by row k, at whose start `next` stands, is by the row of its symbol that has a rank and begins with that
-- token, where there is one
abbrev pub TakesRank : List Row → ℕ → Row → Option ℕ → Type 0
TakesRank g k r next = (j : ℕ) (s : Row) (t : ℕ) (rest : List ℕ) → IsRow g j s →
    s.left ≡ r.left → 0 < s.rank → s.right ≡ t ∷ rest → next ≡ Some t → j ≡ k

-- the ranks allow each node of these trees, after which `next` stands
abbrev pub RanksAllow : List Row → Trees → Option ℕ → Type 0
RanksAllow g End next = Unit {0}
RanksAllow g (Leaf x after) next = RanksAllow g after next
RanksAllow g (Node k r below after) next =
    TakesRank g k r (first_or (leaves below ++ leaves after) next)
    × RanksAllow g below (first_or (leaves after) next) × RanksAllow g after next

-- one tree from the start symbol has these leaves, and the ranks allow it
pub record IsAllowedTree (g : List Row) (tree : Trees) (tokens : List ℕ) : Type 0 where
  pub valid : AreTrees g tree
  pub top : roots tree ≡ 0 ∷ []
  pub bottom : leaves tree ≡ tokens
  pub terminal : AllByRecursion (IsToken g) tokens
  pub ranks : RanksAllow g tree None

-- such a tree has these rows in preorder
pub record IsTreeOf (g : List Row) (rows tokens : List ℕ) : Type 0 where
  pub tree : Trees
  pub allowed : IsAllowedTree g tree tokens
  pub order : preorder tree ≡ rows

-- the tokens have a tree that the ranks allow
pub record HasTree (g : List Row) (tokens : List ℕ) : Type 0 where
  pub rows : List ℕ
  pub tree : IsTreeOf g rows tokens

-- the tokens are the start of a list that has a tree
pub record CanGoOn (g : List Row) (tokens : List ℕ) : Type 0 where
  pub rest : List ℕ
  pub whole : HasTree g (tokens ++ rest)

-- The place of the first token such that no list that has a tree begins with the tokens up to it; the end, where there
-- is no such token and the tokens have no tree.
pub record StopsAt (g : List Row) (tokens : List ℕ) (place : ℕ) : Type 0 where
  pub within : place ≤ length tokens
  pub before : CanGoOn g (take place tokens)
  pub stuck : place < length tokens → ¬ CanGoOn g (take (place + 1) tokens)
  pub treeless : ¬ HasTree g tokens
