-- The derivation that rows and tokens tell, and what is left of it behind some of them.
use Rattle.std.specs.Prelude.{◌≡◌, ℕ, zero, suc, ◌+◌, Bool, nat_lt, true, false, List, [], ◌∷◌, length, drop, Option, None, Some, slice_get}
use Rattle.p4_lexer.specs.declared.token.Token.{Token}
use Rattle.ll1_engine.specs.declared.grammar.Row.{Row}
use Rattle.p4_grammar.specs.declared.symbols.TheConstants.{FORM_COUNT}
use Rattle.p4_grammar.specs.Rows.{grammar_rows}
use Rattle.ll1_engine.specs.Trees.{preorder}
use Rattle.p4_grammar.specs.Parses.{Parse, End, Word, Node, trees_of, tokens_in}
use Rattle.p4_grammar.specs.Ahead.{opened}

-- trees, and the rows and tokens behind them
pub record Walked : Type 0 where
  pub trees : Parse
  pub rows : List ℕ
  pub tokens : List Token

abbrev pub nothing : List ℕ → List Token → Walked
nothing rows tokens = record { trees = End; rows = rows; tokens = tokens }

abbrev pub with_word : Token → Walked → Walked
with_word t more = record { trees = Word t more.trees; rows = more.rows; tokens = more.tokens }

abbrev pub with_node : ℕ → Row → Parse → Walked → Walked
with_node k r under more = record { trees = Node k r under more.trees; rows = more.rows; tokens = more.tokens }

-- a walk over symbols, rows and tokens
abbrev pub Walk : Type 0
Walk = List ℕ → List ℕ → List Token → Walked

-- a node by row k, with what is below it, and the walk behind it
abbrev pub node_then : Walk → List ℕ → ℕ → Row → Walked → Walked
node_then go symbols k r under = with_node k r under.trees (go symbols under.rows under.tokens)

abbrev pub row_then : Walk → List ℕ → ℕ → Option Row → List ℕ → List Token → Walked
row_then go symbols k None rows tokens = nothing rows tokens
row_then go symbols k (Some r) rows tokens = node_then go symbols k r (go r.right rows tokens)

-- a form takes a row
abbrev pub form_then : Walk → List ℕ → List ℕ → List Token → Walked
form_then go symbols [] tokens = nothing [] tokens
form_then go symbols (k ∷ rows) tokens = row_then go symbols k (slice_get grammar_rows k) rows tokens

-- a word takes a token
abbrev pub word_then : Walk → List ℕ → List ℕ → List Token → Walked
word_then go symbols rows [] = nothing rows []
word_then go symbols rows (t ∷ tokens) = with_word t (go symbols rows tokens)

abbrev pub symbol_then : Walk → Bool → List ℕ → List ℕ → List Token → Walked
symbol_then go true symbols rows tokens = form_then go symbols rows tokens
symbol_then go false symbols rows tokens = word_then go symbols rows tokens

-- the trees of these symbols, of at most so many nodes and tokens
unfoldable pub walk : ℕ → List ℕ → List ℕ → List Token → Walked
walk zero symbols rows tokens = nothing rows tokens
walk (suc n) [] rows tokens = nothing rows tokens
walk (suc n) (x ∷ symbols) rows tokens = symbol_then (walk n) (nat_lt x FORM_COUNT) symbols rows tokens

-- the tree that is told by these rows and tokens, from the start symbol
unfoldable pub told_by : List ℕ → List Token → Parse
told_by rows tokens = (walk (length rows + length tokens) (0 ∷ []) rows tokens).trees

-- what is left of trees, each step of which enters a node or takes a token
unfoldable pub left_of : Parse → ℕ → Parse
left_of trees zero = trees
left_of trees (suc n) = opened (left_of trees n)

-- what is left behind so many of the rows and of the tokens
unfoldable pub ahead : List ℕ → List Token → ℕ → ℕ → Parse
ahead rows tokens row token = left_of (told_by rows tokens) (row + token)

-- the rows and tokens from there on are those of the trees that are left
pub record IsInStep (grammar : List Row) (rows : List ℕ) (tokens : List Token) (row token : ℕ) : Type 0 where
  pub known : grammar ≡ grammar_rows
  pub rows_ahead : drop row rows ≡ preorder (trees_of (ahead rows tokens row token))
  pub tokens_ahead : drop token tokens ≡ tokens_in (ahead rows tokens row token)
