-- The keys and key sets of a source, by the rows of their forms.
use Rattle.std.specs.Prelude.{◌≡◌, ℕ, Bool, ◌==◌, ◌||◌, List, [], ◌∷◌, Option, None, Some, if◌then◌else◌}
use Rattle.tg_base.specs.declared.place.Span.{Span}
use Rattle.p4_lexer.specs.declared.token.Keyword.TheVariants as keyword
use Rattle.p4_lexer.specs.declared.token.Sign.TheVariants as sign
use Rattle.p4_lexer.specs.declared.token.Word.{Word}
use Rattle.p4_lexer.specs.declared.token.Word.TheVariants as word
use Rattle.p4_tree.specs.declared.expressions.Expression.{Expression}
use Rattle.p4_tree.specs.declared.expressions.ExpressionKind.TheVariants as kind
use Rattle.p4_tree.specs.declared.expressions.SimpleKey.{SimpleKey}
use Rattle.p4_tree.specs.declared.expressions.SimpleKeyKind.{SimpleKeyKind}
use Rattle.p4_tree.specs.declared.expressions.SimpleKeyKind.TheVariants as key
use Rattle.p4_tree.specs.declared.keys.KeySet.{KeySet}
use Rattle.p4_tree.specs.declared.keys.KeySetKind.{KeySetKind}
use Rattle.p4_tree.specs.declared.keys.KeySetKind.TheVariants.{One, Several}
use Rattle.p4_grammar.specs.declared.keys.GroupedKey.{GroupedKey}
use Rattle.p4_grammar.specs.declared.keys.GroupedKey.TheVariants as read
use Rattle.p4_grammar.specs.declared.symbols.TheConstants.{KEYWORD_DEFAULT, SIGN_MASK, SIGN_RANGE, SIGN_UNDERSCORE, UNARY_OPERATOR}
use Rattle.p4_grammar.specs.Parses.{Parse, End, Word as Leaf, Node, option_map, both, all_three}
use Rattle.p4_grammar.specs.Expressions.{expression_at, span_of, with_parts, key_at, expression, operations, unary_of, with_operator, atom, parts, type_form}

-- a key of one word
abbrev pub plain_key : Word → Option SimpleKeyKind
plain_key (word.Keyword keyword.Default) = Some key.Default
plain_key (word.Sign sign.Underscore) = Some key.Any
plain_key _ = None

-- the symbols of keys of one word
abbrev pub is_plain_key : ℕ → Bool
is_plain_key x = (x == KEYWORD_DEFAULT) || (x == SIGN_UNDERSCORE)

-- `&&&` or `..`, between two expressions
abbrev pub pair_of : Word → Option (Expression → Expression → SimpleKeyKind)
pair_of (word.Sign sign.Mask) = Some (λ e m. key.Mask e m)
pair_of (word.Sign sign.Range) = Some (λ e m. key.Range e m)
pair_of _ = None

-- the symbols between the two expressions of a key
abbrev pub is_pair : ℕ → Bool
is_pair x = (x == SIGN_MASK) || (x == SIGN_RANGE)

abbrev pub pair_at : (Expression → Expression → SimpleKeyKind) → Expression → Expression → SimpleKey
pair_at pair first second = key_at (span_of first) (pair first second)

-- MASK, behind an expression
abbrev pub masked : Option Expression → Parse → Option SimpleKey
masked e End = option_map (λ v. key_at (span_of v) (key.Value v)) e
masked e (Leaf t (Node k r below End)) = all_three pair_at (pair_of t.word) e (expression below)
masked e _ = None

-- SIMPLE_KEY
abbrev pub simple_key : Parse → Option SimpleKey
simple_key (Leaf t End) = option_map (λ kind. key_at t.span kind) (plain_key t.word)
simple_key (Node k r below (Node j s mask End)) = masked (expression below) mask
simple_key _ = None

-- a key in parentheses that open there: an expression where it is one alone
abbrev pub grouped : Span → Parse → Option Expression
grouped span (Node k r below (Node j s End End)) = option_map (λ e. expression_at span (kind.Parenthesized e)) (expression below)
grouped span below = option_map (λ one. expression_at span (kind.ParenthesizedKey one)) (simple_key below)

-- the same behind an expression, with what MASK has behind it
abbrev pub grouped_behind : Span → Option Expression → Parse → Option Expression
grouped_behind span e End = option_map (λ inner. expression_at span (kind.Parenthesized inner)) e
grouped_behind span e mask = option_map (λ one. expression_at span (kind.ParenthesizedKey one)) (masked e mask)

-- a key in parentheses that was read, as a key
abbrev pub key_of : GroupedKey → SimpleKey
key_of (read.Expression e) = key_at (span_of e) (key.Value e)
key_of (read.Key one) = one

-- the same as an operand
abbrev pub operand_of : Span → GroupedKey → Expression
operand_of span (read.Expression e) = expression_at span (kind.Parenthesized e)
operand_of span (read.Key one) = expression_at span (kind.ParenthesizedKey one)

-- what is below SIMPLE_KEY is this key
pub record IsGroupedKey (one : GroupedKey) (under : Parse) : Type 0 where
  pub key : simple_key under ≡ Some (key_of one)
  pub operand : (span : Span) → grouped span under ≡ Some (operand_of span one)

-- what is below MASK, behind this expression, makes this key of it
pub record IsGroupedBehind (one : GroupedKey) (first : Expression) (mask : Parse) : Type 0 where
  pub key : masked (Some first) mask ≡ Some (key_of one)
  pub operand : (span : Span) → grouped_behind span (Some first) mask ≡ Some (operand_of span one)

abbrev pub key_set_at : Span → KeySetKind → KeySet
key_set_at span kind = record { kind = kind; span = span }

-- one key, at this place
abbrev pub one_key : Span → Option SimpleKey → Option KeySet
one_key span one = option_map (λ k. key_set_at span (One k)) one

-- several keys in parentheses that open there
abbrev pub several_keys : Span → Option SimpleKey → Option SimpleKey → Option (List SimpleKey) → Option KeySet
several_keys span first second more =
    both (λ one rest. key_set_at span (Several (one ∷ rest))) first (both (λ one rest. one ∷ rest) second more)

-- KEY_PARENTHESIS_TAIL
abbrev pub more_keys : Parse → Option (List SimpleKey)
more_keys End = Some []
more_keys (Leaf comma (Node k r below (Node j s rest End))) = both (λ one more. one ∷ more) (simple_key below) (more_keys rest)
more_keys _ = None

-- KEY_PARENTHESIS_REST, behind a key in parentheses that open there
abbrev pub key_parenthesis_rest : Span → Parse → Parse → Option KeySet
key_parenthesis_rest span first (Leaf comma (Node k r second (Node j s tail (Leaf close End)))) =
    both (λ one more. key_set_at span (Several (one ∷ more))) (simple_key first) (both (λ one more. one ∷ more) (simple_key second) (more_keys tail))
key_parenthesis_rest span first (Leaf close (Node k r behind (Node j s more (Node i q mask End)))) =
    one_key span (masked (operations (both with_parts (grouped span first) (parts behind)) more) mask)
key_parenthesis_rest span first _ = None

-- KEY_PARENTHESIS, behind a parenthesis that opens there
abbrev pub key_parenthesis : Span → Parse → Option KeySet
key_parenthesis span (Node k r below (Leaf close (Node j s behind (Node i q more (Node l v mask End))))) =
    one_key span (masked (operations (both (λ t e. expression_at span (kind.Cast t e)) (type_form below) (unary_of behind)) more) mask)
key_parenthesis span (Node k r first (Node j s rest End)) = key_parenthesis_rest span first rest
key_parenthesis span _ = None

-- KEY_SET
abbrev pub key_set : Parse → Option KeySet
key_set (Leaf t End) = option_map (λ kind. key_set_at t.span (One (key_at t.span kind))) (plain_key t.word)
key_set (Leaf begin (Node k r below End)) = key_parenthesis begin.span below
key_set (Node k r below (Node j s behind (Node i q more (Node l v mask End)))) =
    option_map (λ one. key_set_at one.span (One one))
    (masked (operations (if r.left == UNARY_OPERATOR then with_operator below (unary_of behind) else both with_parts (atom below) (parts behind)) more) mask)
key_set _ = None
