-- A way along the rows of a derivation that keeps of the nodes only how many count, and what it gives for each token.
use Rattle.std.specs.Prelude.{◌≡◌, ℕ, suc, ◌+◌, ◌≤◌, nat_lt, if◌then◌else◌, List, [], ◌∷◌, ◌++◌, map, take, drop, reverse, length, Option, None, Some, slice_get}
use Rattle.std.specs.List.{AllByRecursion}
use Rattle.ll1_engine.specs.declared.grammar.Row.{Row}
use Rattle.ll1_engine.specs.Trees.{Trees}
use Rattle.ll1_engine.specs.Open.{rows_before}
use Rattle.ll1_engine.specs.Parse.{IsAllowedTree}
use Rattle.p4_lexer.specs.declared.token.Token.{Token}
use Rattle.p4_grammar.specs.declared.symbols.TheConstants.{FORM_COUNT}
use Rattle.p4_grammar.specs.declared.depth.Part.{Part}
use Rattle.p4_grammar.specs.declared.depth.Descent.{Descent}
use Rattle.p4_grammar.specs.Rows.{grammar_rows}
use Rattle.p4_grammar.specs.Words.{terminals_of}
use Rattle.p4_grammar.specs.Depth.{counts_in}

-- Some list that has a derivation begins with so many of the tokens, and the nodes that begin in it before the last of these
-- have the rows with which these rows begin.
pub record TellTokens (rows : List ℕ) (tokens : List Token) (count : ℕ) : Type 0 where
  pub rest : List ℕ
  pub tree : Trees
  pub derives : IsAllowedTree grammar_rows tree (take count (terminals_of tokens) ++ rest)
  pub told : (last : ℕ) → count ≡ suc last → (more : List ℕ) × (rows ≡ rows_before tree last ++ more)

-- the start symbol, inside of no node
abbrev pub start : Part
start = record { symbol = 0; depth = 0 }

-- a symbol of the right side of a node that is itself inside so many
abbrev pub part_in : ℕ → ℕ → ℕ → Part
part_in left depth symbol = record { symbol = symbol; depth = (if counts_in left symbol then depth + 1 else depth) }

abbrev pub parts_below : Row → ℕ → List Part
parts_below r depth = map (part_in r.left depth) r.right

-- the parts of a node in place of its form
abbrev pub row_then : (List Part → List ℕ) → Option Row → Part → List Part → List ℕ
row_then go None form behind = []
row_then go (Some r) form behind = go (parts_below r form.depth ++ behind)

-- a word is a token
abbrev pub words_then : (Part → List Part → List ℕ) → List Part → List ℕ
words_then go [] = []
words_then go (p ∷ ps) = if nat_lt p.symbol FORM_COUNT then go p ps else (p.depth ∷ words_then go ps)

-- how many nodes that count are around each of the tokens of these parts, as far as the rows tell them
unfoldable pub node_depths : List ℕ → List Part → List ℕ
node_depths [] parts = words_then (λ form behind. []) parts
node_depths (k ∷ rows) parts = words_then (row_then (node_depths rows) (slice_get grammar_rows k)) parts

-- what is still told
abbrev pub depths_ahead : Descent → List ℕ
depths_ahead d = node_depths (drop d.next_row d.rows.now) (reverse d.parts.items)

-- a way along rows of the grammar, no part of which is inside more nodes than were entered
pub record IsOnTheWay (d : Descent) : Type 0 where
  pub known : d.grammar.now ≡ grammar_rows
  pub within : d.next_row ≤ length d.rows.now
  pub entered : AllByRecursion (λ p. p.depth ≤ d.next_row) (reverse d.parts.items)
