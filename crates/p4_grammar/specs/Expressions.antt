-- The types, expressions and single keys of a source. Each definition is given what is below a node, and covers the rows of
-- its form; where an expression has begun, it is also given the expression so far.
use Rattle.std.specs.Prelude.{ℕ, Bool, ◌==◌, ◌||◌, true, false, List, [], ◌∷◌, Option, None, Some, if◌then◌else◌}
use Rattle.tg_base.specs.declared.place.Span.{Span}
use Rattle.p4_lexer.specs.declared.token.Keyword.TheVariants as keyword
use Rattle.p4_lexer.specs.declared.token.Sign.TheVariants as sign
use Rattle.p4_lexer.specs.declared.token.Word.{Word}
use Rattle.p4_lexer.specs.declared.token.Word.TheVariants as word
use Rattle.p4_tree.specs.declared.expressions.Operator.{Operator}
use Rattle.p4_tree.specs.declared.expressions.Operator.TheVariants as operator
use Rattle.p4_tree.specs.declared.expressions.UnaryOperator.{UnaryOperator}
use Rattle.p4_tree.specs.declared.expressions.UnaryOperator.TheVariants as unary
use Rattle.p4_tree.specs.declared.expressions.TypeForm.{TypeForm, roll-TypeForm}
use Rattle.p4_tree.specs.declared.expressions.BaseType.{BaseType}
use Rattle.p4_tree.specs.declared.expressions.BaseType.TheVariants as base
use Rattle.p4_tree.specs.declared.expressions.Width.{Width, roll-Width}
use Rattle.p4_tree.specs.declared.expressions.WidthKind.{WidthKind}
use Rattle.p4_tree.specs.declared.expressions.WidthKind.TheVariants as width
use Rattle.p4_tree.specs.declared.expressions.Expression.{Expression, out-Expression, roll-Expression}
use Rattle.p4_tree.specs.declared.expressions.ExpressionKind.{ExpressionKind}
use Rattle.p4_tree.specs.declared.expressions.ExpressionKind.TheVariants as kind
use Rattle.p4_tree.specs.declared.expressions.Operation.{Operation, roll-Operation}
use Rattle.p4_tree.specs.declared.expressions.PostfixPart.{PostfixPart, roll-PostfixPart}
use Rattle.p4_tree.specs.declared.expressions.PostfixKind.{PostfixKind}
use Rattle.p4_tree.specs.declared.expressions.PostfixKind.TheVariants as postfix
use Rattle.p4_tree.specs.declared.expressions.SimpleKey.{SimpleKey, roll-SimpleKey}
use Rattle.p4_tree.specs.declared.expressions.SimpleKeyKind.{SimpleKeyKind}
use Rattle.p4_grammar.specs.declared.symbols.TheConstants.{UNARY_OPERATOR, TYPE_FORM, WIDTH_ARGUMENTS, BASE, INT_LITERAL, KEYWORD_BIT, KEYWORD_BOOL, KEYWORD_ERROR, KEYWORD_FALSE, KEYWORD_INT, KEYWORD_TRUE, SIGN_MINUS, SIGN_NOT, SIGN_TILDE, TEXT}
use Rattle.p4_grammar.specs.Parses.{Parse, End, Word as Leaf, Node, place_of, option_map, both, all_three}
use Rattle.p4_grammar.specs.Names.{name_at, word_name}

abbrev pub expression_at : Span → ExpressionKind → Expression
expression_at span kind = roll-Expression (record { kind = kind; span = span })

abbrev pub span_of : Expression → Span
span_of e = (out-Expression e).span

-- operators of one level behind an operand; none leaves it as it is
abbrev pub run : Expression → List Operation → Expression
run e [] = e
run e (o ∷ os) = expression_at (span_of e) (kind.Operations e (o ∷ os))

-- the parts behind an operand
abbrev pub with_parts : Expression → List PostfixPart → Expression
with_parts e [] = e
with_parts e (p ∷ ps) = expression_at (span_of e) (kind.Postfix e (p ∷ ps))

abbrev pub operator_of : Word → Option Operator
operator_of (word.Sign sign.Star) = Some operator.Times
operator_of (word.Sign sign.Slash) = Some operator.Divide
operator_of (word.Sign sign.Percent) = Some operator.Remainder
operator_of (word.Sign sign.Plus) = Some operator.Plus
operator_of (word.Sign sign.Minus) = Some operator.Minus
operator_of (word.Sign sign.SaturatingPlus) = Some operator.SaturatingPlus
operator_of (word.Sign sign.SaturatingMinus) = Some operator.SaturatingMinus
operator_of (word.Sign sign.Concat) = Some operator.Concat
operator_of (word.Sign sign.ShiftLeft) = Some operator.ShiftLeft
operator_of (word.Sign sign.ShiftRight) = Some operator.ShiftRight
operator_of (word.Sign sign.Ampersand) = Some operator.BitAnd
operator_of (word.Sign sign.Caret) = Some operator.BitXor
operator_of (word.Sign sign.Bar) = Some operator.BitOr
operator_of (word.Sign sign.Less) = Some operator.Less
operator_of (word.Sign sign.AtMost) = Some operator.AtMost
operator_of (word.Sign sign.Greater) = Some operator.Greater
operator_of (word.Sign sign.AtLeast) = Some operator.AtLeast
operator_of (word.Sign sign.Equal) = Some operator.Equal
operator_of (word.Sign sign.NotEqual) = Some operator.NotEqual
operator_of (word.Sign sign.And) = Some operator.And
operator_of (word.Sign sign.Or) = Some operator.Or
operator_of _ = None

abbrev pub unary_operator_of : Word → Option UnaryOperator
unary_operator_of (word.Sign sign.Not) = Some unary.Not
unary_operator_of (word.Sign sign.Tilde) = Some unary.Complement
unary_operator_of (word.Sign sign.Minus) = Some unary.Minus
unary_operator_of _ = None

-- the symbols of operators before an operand
abbrev pub is_unary_operator : ℕ → Bool
is_unary_operator x = (x == SIGN_NOT) || (x == SIGN_TILDE) || (x == SIGN_MINUS)

-- an atom of one word, at its place
abbrev pub atom_at : Span → Word → Option ExpressionKind
atom_at span (word.Int literal) = Some (kind.Literal literal)
atom_at span (word.Text text) = Some (kind.Text text)
atom_at span (word.Keyword keyword.True) = Some (kind.Bool true)
atom_at span (word.Keyword keyword.False) = Some (kind.Bool false)
atom_at span (word.Base text) = Some (kind.Base (record { text = text; span = span }))
atom_at span _ = None

-- the symbols of atoms of one word
abbrev pub is_atom : ℕ → Bool
is_atom x = (x == INT_LITERAL) || (x == TEXT) || (x == KEYWORD_TRUE) || (x == KEYWORD_FALSE) || (x == BASE)

abbrev pub width_at : Word → Option WidthKind
width_at (word.Int literal) = Some (width.Literal literal)
width_at _ = None

-- a type of one word
abbrev pub base_at : Word → Option BaseType
base_at (word.Keyword keyword.Bool) = Some base.Bool
base_at (word.Keyword keyword.Error) = Some base.Error
base_at _ = None

-- the symbols of types of one word
abbrev pub is_base : ℕ → Bool
is_base x = (x == KEYWORD_BOOL) || (x == KEYWORD_ERROR)

-- `bit` or `int` with what stands behind it
abbrev pub sized_at : Word → Option (Option Width → BaseType)
sized_at (word.Keyword keyword.Bit) = Some (λ w. base.Bit w)
sized_at (word.Keyword keyword.Int) = Some (λ w. base.Int w)
sized_at _ = None

-- the symbols of types with a width behind them
abbrev pub is_sized : ℕ → Bool
is_sized x = (x == KEYWORD_BIT) || (x == KEYWORD_INT)

abbrev pub type_at : Span → BaseType → Option Expression → TypeForm
type_at span base size = roll-TypeForm (record { base = base; size = size; span = span })

abbrev pub part_at : Span → PostfixKind → PostfixPart
part_at span kind = roll-PostfixPart (record { kind = kind; span = span })

abbrev pub key_at : Span → SimpleKeyKind → SimpleKey
key_at span kind = roll-SimpleKey (record { kind = kind; span = span })

abbrev pub choice_of : Expression → Expression → Expression → Expression
choice_of condition second third = expression_at (span_of condition) (kind.Choice condition second third)

-- `[index]`, or `[high : low]`
abbrev pub index_at : Span → Expression → Option Expression → PostfixPart
index_at span e None = part_at span (postfix.Index e)
index_at span e (Some low) = part_at span (postfix.Slice e low)

abbrev mutual
  -- TYPE_FORM
  pub type_form : Parse → Option TypeForm
  type_form (Node k r below (Node j s size End)) = all_three type_at (place_of below) (base_type below) (stack_size size)
  type_form _ = None

  -- BASE_TYPE
  pub base_type : Parse → Option BaseType
  base_type (Leaf t End) = base_at t.word
  base_type (Leaf t (Node k r below End)) =
      if r.left == WIDTH_ARGUMENTS then both (λ f w. f w) (sized_at t.word) (width_arguments below)
      else both (λ n a. base.Named n a) (name_at t) (type_arguments below)
  base_type _ = None

  -- STACK_SIZE
  pub stack_size : Parse → Option (Option Expression)
  stack_size End = Some None
  stack_size (Leaf begin (Node k r below (Leaf close End))) = option_map (λ e. Some e) (expression below)
  stack_size _ = None

  -- WIDTH_ARGUMENTS
  pub width_arguments : Parse → Option (Option Width)
  width_arguments End = Some None
  width_arguments (Leaf begin (Node k r below (Leaf close End))) = option_map (λ w. Some w) (width_of below)
  width_arguments _ = None

  -- WIDTH
  pub width_of : Parse → Option Width
  width_of (Leaf t End) = option_map (λ kind. roll-Width (record { kind = kind; span = t.span })) (width_at t.word)
  width_of (Node k r below End) = both (λ span n. roll-Width (record { kind = width.Name n; span = span })) (place_of below) (word_name below)
  width_of (Leaf begin (Node k r below (Leaf close End))) =
      option_map (λ e. roll-Width (record { kind = width.Parenthesized e; span = begin.span })) (expression below)
  width_of _ = None

  -- TYPE_ARGUMENTS
  pub type_arguments : Parse → Option (Option TypeForm)
  type_arguments End = Some None
  type_arguments (Leaf begin (Node k r below (Leaf close End))) = option_map (λ t. Some t) (type_form below)
  type_arguments _ = None

  -- EXPRESSION
  pub expression : Parse → Option Expression
  expression (Node k r below (Node j s behind End)) = operations (unary_of below) behind
  expression _ = None

  -- OPERATIONS: the levels from the tightest on, each behind what the tighter ones make, and at last a choice
  pub operations : Option Expression → Parse → Option Expression
  operations e (Node k r below End) = choice e below
  operations e (Node k r below more) = operations (both run e (level below)) more
  operations e _ = None

  -- CHOICE
  pub choice : Option Expression → Parse → Option Expression
  choice e End = e
  choice e (Leaf mark (Node k r second (Leaf colon (Node j s third End)))) = all_three choice_of e (expression second) (expression third)
  choice e _ = None

  -- A level of operators: the operator, an operand, the tighter levels behind it, and the rest of the level
  pub level : Parse → Option (List Operation)
  level End = Some []
  level (Leaf t (Node k r below more)) = rest_of_level (Some t.span) (operator_of t.word) (unary_of below) more
  level (Node i q (Leaf t End) (Node k r below more)) = rest_of_level (Some t.span) (operator_of t.word) (unary_of below) more
  level _ = None

  pub rest_of_level : Option Span → Option Operator → Option Expression → Parse → Option (List Operation)
  rest_of_level span o e (Node k r rest End) =
      both (λ one more. one ∷ more) (all_three (λ at by operand. roll-Operation (record { operator = by; operand = operand; span = at })) span o e) (level rest)
  rest_of_level span o e (Node k r below more) = rest_of_level span o (both run e (level below)) more
  rest_of_level span o e _ = None

  -- UNARY
  pub unary_of : Parse → Option Expression
  unary_of (Node k r below (Node j s behind End)) =
      if r.left == UNARY_OPERATOR then with_operator below (unary_of behind) else both with_parts (atom below) (parts behind)
  unary_of (Leaf begin (Node k r below End)) = parenthesis begin.span below
  unary_of _ = None

  -- UNARY_OPERATOR, before this operand
  pub with_operator : Parse → Option Expression → Option Expression
  with_operator (Leaf t End) e = both (λ o operand. expression_at t.span (kind.Unary o operand)) (unary_operator_of t.word) e
  with_operator _ e = None

  -- PARENTHESIS, behind a parenthesis that opens there
  pub parenthesis : Span → Parse → Option Expression
  parenthesis span (Node k r below (Leaf close (Node j s behind End))) =
      if r.left == TYPE_FORM then both (λ t e. expression_at span (kind.Cast t e)) (type_form below) (unary_of behind)
      else both with_parts (option_map (λ e. expression_at span (kind.Parenthesized e)) (expression below)) (parts behind)
  parenthesis span _ = None

  -- ATOM
  pub atom : Parse → Option Expression
  atom (Leaf t End) = option_map (λ kind. expression_at t.span kind) (atom_at t.span t.word)
  atom (Node k r below End) = both (λ span n. expression_at span (kind.Name n)) (place_of below) (word_name below)
  atom (Leaf begin (Node k r below (Leaf close End))) = option_map (λ es. expression_at begin.span (kind.List es)) (optional_expressions below)
  atom _ = None

  -- POSTFIX_PARTS
  pub parts : Parse → Option (List PostfixPart)
  parts End = Some []
  parts (Leaf dot (Node k r below (Node j s rest End))) =
      both (λ one more. one ∷ more) (option_map (λ m. part_at dot.span m) (member below)) (parts rest)
  parts (Leaf begin (Node k r below (Node j s end (Leaf close (Node i q rest End))))) =
      both (λ one more. one ∷ more) (both (λ e low. index_at begin.span e low) (expression below) (slice_end end)) (parts rest)
  parts (Leaf begin (Node k r below (Leaf close (Node j s rest End)))) =
      both (λ one more. one ∷ more) (option_map (λ es. part_at begin.span (postfix.Call es)) (optional_expressions below)) (parts rest)
  parts _ = None

  -- MEMBER_PART
  pub member : Parse → Option PostfixKind
  member (Leaf t End) = option_map (λ n. postfix.Member n) (name_at t)
  member (Leaf look (Leaf begin (Node k r below (Leaf close End)))) = option_map (λ t. postfix.Lookahead t) (type_form below)
  member _ = None

  -- SLICE_END
  pub slice_end : Parse → Option (Option Expression)
  slice_end End = Some None
  slice_end (Leaf colon (Node k r below End)) = option_map (λ e. Some e) (expression below)
  slice_end _ = None

  -- OPTIONAL_EXPRESSIONS
  pub optional_expressions : Parse → Option (List Expression)
  optional_expressions End = Some []
  optional_expressions (Node k r below End) = expressions below
  optional_expressions _ = None

  -- EXPRESSIONS
  pub expressions : Parse → Option (List Expression)
  expressions (Node k r below (Node j s rest End)) = both (λ one more. one ∷ more) (expression below) (expressions_tail rest)
  expressions _ = None

  -- EXPRESSIONS_TAIL
  pub expressions_tail : Parse → Option (List Expression)
  expressions_tail End = Some []
  expressions_tail (Leaf comma (Node k r below (Node j s rest End))) = both (λ one more. one ∷ more) (expression below) (expressions_tail rest)
  expressions_tail _ = None
