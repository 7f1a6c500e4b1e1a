-- How many forms are open around a token of a list that some derivation begins with: brackets, operands of unary operators
-- and of casts, the second and the third operand of `?:`, and the branches of `if`.
use Rattle.std.specs.Prelude.{◌≡◌, ℕ, ◌+◌, ◌-◌, ◌<◌, ◌≤◌, Bool, false, ◌||◌, ◌&&◌, ◌==◌, List, ◌++◌, length, take, Option, None, Some, slice_get}
use Rattle.std.specs.List.{count_by}
use Rattle.tg_base.specs.declared.place.Refusal.{Refusal}
use Rattle.tg_base.specs.declared.place.Code.TheVariants.{TooDeep}
use Rattle.p4_lexer.specs.declared.token.Token.{Token}
use Rattle.p4_lexer.specs.declared.token.Tokens.{Tokens}
use Rattle.ll1_engine.specs.declared.grammar.Row.{Row}
use Rattle.ll1_engine.specs.Trees.{Trees}
use Rattle.ll1_engine.specs.Open.{OpenNode, open_around}
use Rattle.ll1_engine.specs.Parse.{IsAllowedTree}
use Rattle.p4_grammar.specs.declared.symbols.TheConstants.{UNARY, KEY_SET, PARENTHESIS, KEY_PARENTHESIS, CHOICE, EXPRESSION, STATEMENT, ELSE_BRANCH, SIGN_LEFT_PAREN, SIGN_LEFT_BRACKET, SIGN_LEFT_BRACE, OPEN_ARGUMENTS, SIGN_RIGHT_PAREN, SIGN_RIGHT_BRACKET, SIGN_RIGHT_BRACE, CLOSE_ARGUMENTS}
use Rattle.p4_grammar.specs.declared.limits.TheConstants.{MAX_DEPTH}
use Rattle.p4_grammar.specs.Rows.{grammar_rows}
use Rattle.p4_grammar.specs.Words.{terminals_of}
use Rattle.p4_grammar.specs.Derivation.{IsPlaceOf}

abbrev pub is_opening : ℕ → Bool
is_opening t = (t == SIGN_LEFT_PAREN) || (t == SIGN_LEFT_BRACKET) || (t == SIGN_LEFT_BRACE) || (t == OPEN_ARGUMENTS)

abbrev pub is_closing : ℕ → Bool
is_closing t = (t == SIGN_RIGHT_PAREN) || (t == SIGN_RIGHT_BRACKET) || (t == SIGN_RIGHT_BRACE) || (t == CLOSE_ARGUMENTS)

-- The brackets that are open around token k: those opened before it, less those closed before it or by it. A bracket is not
-- inside itself.
abbrev pub open_brackets : List ℕ → ℕ → ℕ
open_brackets tokens k = count_by is_opening (take k tokens) - count_by is_closing (take (k + 1) tokens)

-- a form of the second kind counts where it stands in one of the first: an operand of a unary operator or of a cast, the
-- second or third operand of `?:`, a branch of `if`
abbrev pub counts_in : ℕ → ℕ → Bool
counts_in left symbol =
    ((symbol == UNARY) && ((left == UNARY) || (left == KEY_SET) || (left == PARENTHESIS) || (left == KEY_PARENTHESIS)))
    || ((symbol == EXPRESSION) && (left == CHOICE))
    || ((symbol == STATEMENT) && ((left == STATEMENT) || (left == ELSE_BRANCH)))

abbrev pub counts_at : ℕ → Option ℕ → Bool
counts_at left None = false
counts_at left (Some symbol) = counts_in left symbol

abbrev pub row_counts : Option Row → ℕ → Bool
row_counts None place = false
row_counts (Some r) place = counts_at r.left (slice_get r.right place)

-- whether the part of the node that holds the token counts
abbrev pub node_counts : OpenNode → Bool
node_counts node = row_counts (slice_get grammar_rows node.row) node.place

-- the forms that are open around token k of a list with this derivation
abbrev pub depth_in : Trees → List ℕ → ℕ → ℕ
depth_in tree tokens k = open_brackets tokens k + count_by node_counts (open_around tree k)

-- So many forms are open around token k in each derivation of a list that begins with the tokens up to it, and there is one.
pub record HasDepth (tokens : List Token) (k depth : ℕ) : Type 0 where
  pub rest : List ℕ
  pub tree : Trees
  pub within : k < length tokens
  pub derives : IsAllowedTree grammar_rows tree (take (k + 1) (terminals_of tokens) ++ rest)
  pub counted : depth ≡ depth_in tree (terminals_of tokens) k

-- none of the first tokens, so many, has too many forms open around it
abbrev pub IsShallowBefore : List Token → ℕ → Type 0
IsShallowBefore tokens count = (k depth : ℕ) → k < count → HasDepth tokens k depth → depth ≤ MAX_DEPTH

-- the first token that has more than MAX_DEPTH forms open around it
pub record IsFirstDeep (tokens : List Token) (at : ℕ) : Type 0 where
  pub depth : ℕ
  pub here : HasDepth tokens at depth
  pub over : MAX_DEPTH < depth
  pub first : IsShallowBefore tokens at

-- TooDeep, at that token
pub record IsDepthFault (tokens : Tokens) (refusal : Refusal) : Type 0 where
  pub at : ℕ
  pub deep : IsFirstDeep tokens.tokens at
  pub code : refusal.code ≡ TooDeep
  pub place : IsPlaceOf tokens at (record { line = refusal.line; column = refusal.column })

-- no token has too many
abbrev pub IsShallow : List Token → Type 0
IsShallow tokens = (k depth : ℕ) → HasDepth tokens k depth → depth ≤ MAX_DEPTH
