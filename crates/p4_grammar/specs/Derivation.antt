-- Derivations of a list of tokens, and the place at which one that has none is refused.
use Rattle.std.specs.Prelude.{◌≡◌, ℕ, List, MatchOption, slice_get}
use Rattle.tg_base.specs.declared.place.Span.{Span}
use Rattle.tg_base.specs.declared.place.Refusal.{Refusal}
use Rattle.tg_base.specs.declared.place.Code.TheVariants.{Syntax}
use Rattle.p4_lexer.specs.declared.token.Token.{Token}
use Rattle.p4_lexer.specs.declared.token.Tokens.{Tokens}
use Rattle.ll1_engine.specs.Trees.{Trees}
use Rattle.ll1_engine.specs.Parse.{IsAllowedTree, IsTreeOf, HasTree, StopsAt}
use Rattle.p4_grammar.specs.Rows.{grammar_rows}
use Rattle.p4_grammar.specs.Words.{terminals_of}

-- The leaves of the tree are the tokens, each node with its children is a row of the grammar, and an `else` goes with the
-- nearest `if` before it.
abbrev pub IsDerivation : Trees → List Token → Type 0
IsDerivation tree tokens = IsAllowedTree grammar_rows tree (terminals_of tokens)

-- the rows of such a tree, each before those below it
abbrev pub AreRowsOf : List ℕ → List Token → Type 0
AreRowsOf rows tokens = IsTreeOf grammar_rows rows (terminals_of tokens)

abbrev pub HasDerivation : List Token → Type 0
HasDerivation tokens = HasTree grammar_rows (terminals_of tokens)

-- the place of the token of this number, or the place behind the text where there are no more
abbrev pub IsPlaceOf : Tokens → ℕ → Span → Type 0
IsPlaceOf tokens at span = MatchOption (slice_get tokens.tokens at) (span ≡ tokens.end) (λ token. span ≡ token.span)

-- Syntax, at the first token such that no list that has a derivation begins with the tokens up to it; at the end, where there
-- is no such token and the tokens have no derivation.
pub record IsSyntaxFault (tokens : Tokens) (refusal : Refusal) : Type 0 where
  pub at : ℕ
  pub stops : StopsAt grammar_rows (terminals_of tokens.tokens) at
  pub code : refusal.code ≡ Syntax
  pub place : IsPlaceOf tokens at (record { line = refusal.line; column = refusal.column })
