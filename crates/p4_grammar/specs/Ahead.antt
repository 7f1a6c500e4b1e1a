-- What a reader of a derivation stands before: the trees that it has not read yet, the first of them next.
use Rattle.std.specs.Prelude.{◌≡◌, ℕ, suc, ◌+◌, List, [], ◌∷◌, Option, None, Some}
use Rattle.p4_lexer.specs.declared.token.Token.{Token}
use Rattle.ll1_engine.specs.declared.grammar.Row.{Row}
use Rattle.ll1_engine.specs.Table.{IsRow}
use Rattle.ll1_engine.specs.Trees.{roots, AreTrees}
use Rattle.p4_grammar.specs.Rows.{grammar_rows}
use Rattle.p4_grammar.specs.Words.{terminal_of}
use Rattle.p4_grammar.specs.Parses.{Parse, End, Word, Node, trees_of}

-- a node of this form, by row k of the grammar, which is r, with these trees below it
pub record IsForm (form k : ℕ) (r : Row) (under : Parse) : Type 0 where
  pub row : IsRow grammar_rows k r
  pub left : r.left ≡ form
  pub right : roots (trees_of under) ≡ r.right
  pub valid : AreTrees grammar_rows (trees_of under)

-- the first tree is of this form
abbrev pub Begins : ℕ → Parse → Type 0
Begins form End = ⊥
Begins form (Word t rest) = ⊥
Begins form (Node k r under rest) = IsForm form k r under

-- the first tree is a token
abbrev pub IsWord : Parse → Type 0
IsWord End = ⊥
IsWord (Word t rest) = Unit {0}
IsWord (Node k r under rest) = ⊥

-- the trees below the first
abbrev pub below : Parse → Parse
below End = End
below (Word t rest) = End
below (Node k r under rest) = under

-- the trees behind the first
abbrev pub after : Parse → Parse
after End = End
after (Word t rest) = rest
after (Node k r under rest) = rest

-- these trees, and then more
abbrev pub joined : Parse → Parse → Parse
joined End more = more
joined (Word t rest) more = Word t (joined rest more)
joined (Node k r under rest) more = Node k r under (joined rest more)

-- the trees below the first, and then those behind it
abbrev pub opened : Parse → Parse
opened End = End
opened (Word t rest) = rest
opened (Node k r under rest) = joined under rest

-- the first tree, where it is a token
abbrev pub token_at : Parse → Option Token
token_at End = None
token_at (Word t rest) = Some t
token_at (Node k r under rest) = None

-- its symbol
abbrev pub symbol_at : Parse → Option ℕ
symbol_at End = None
symbol_at (Word t rest) = Some (terminal_of t.word)
symbol_at (Node k r under rest) = None

abbrev pub first_of : List ℕ → Option ℕ
first_of [] = None
first_of (x ∷ xs) = Some x

-- the first symbol of the first tree's row
abbrev pub first_symbol : Parse → Option ℕ
first_symbol End = None
first_symbol (Word t rest) = None
first_symbol (Node k r under rest) = first_of r.right

-- how many nodes there are
abbrev pub nodes : Parse → ℕ
nodes End = 0
nodes (Word t rest) = nodes rest
nodes (Node k r under rest) = suc (nodes under + nodes rest)
