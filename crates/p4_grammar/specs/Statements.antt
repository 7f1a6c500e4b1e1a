-- The statements and blocks of a source, by the rows of their forms.
use Rattle.std.specs.Prelude.{◌==◌, List, [], ◌∷◌, Option, None, Some, if◌then◌else◌}
use Rattle.tg_base.specs.declared.place.Span.{Span}
use Rattle.p4_lexer.specs.declared.token.Keyword.TheVariants as keyword
use Rattle.p4_lexer.specs.declared.token.Word.{Word}
use Rattle.p4_lexer.specs.declared.token.Word.TheVariants as word
use Rattle.p4_tree.specs.declared.names.Name.{Name}
use Rattle.p4_tree.specs.declared.expressions.Expression.{Expression}
use Rattle.p4_tree.specs.declared.expressions.ExpressionKind.TheVariants as kind
use Rattle.p4_tree.specs.declared.expressions.TypeForm.{TypeForm}
use Rattle.p4_tree.specs.declared.declarations.Constant.{Constant}
use Rattle.p4_tree.specs.declared.declarations.Variable.{Variable}
use Rattle.p4_tree.specs.declared.statements.Block.{Block, roll-Block}
use Rattle.p4_tree.specs.declared.statements.BlockPart.{BlockPart, roll-BlockPart}
use Rattle.p4_tree.specs.declared.statements.BlockPartKind.{BlockPartKind}
use Rattle.p4_tree.specs.declared.statements.BlockPartKind.TheVariants as part
use Rattle.p4_tree.specs.declared.statements.Statement.{Statement, roll-Statement}
use Rattle.p4_tree.specs.declared.statements.StatementKind.{StatementKind}
use Rattle.p4_tree.specs.declared.statements.StatementKind.TheVariants as statement
use Rattle.p4_tree.specs.declared.statements.SwitchCase.{SwitchCase, roll-SwitchCase}
use Rattle.p4_tree.specs.declared.statements.SwitchLabel.{SwitchLabel}
use Rattle.p4_tree.specs.declared.statements.SwitchLabel.TheVariants as label
use Rattle.p4_grammar.specs.declared.symbols.TheConstants.{STATEMENT}
use Rattle.p4_grammar.specs.Parses.{Parse, End, Word as Leaf, Node, place_of, option_map, both, all_three, all_four}
use Rattle.p4_grammar.specs.Names.{word_name, name_of, annotations}
use Rattle.p4_grammar.specs.Expressions.{expression_at, span_of, with_parts, expression, type_form, parts}

-- INITIAL_VALUE
unfoldable pub initial_value : Parse → Option (Option Expression)
initial_value End = Some None
initial_value (Leaf assign (Node k r below End)) = option_map (λ e. Some e) (expression below)
initial_value _ = None

-- CONSTANT
unfoldable pub constant : Parse → Option Constant
constant (Leaf begin (Node k r t (Node j s n (Leaf assign (Node i q e (Leaf end End)))))) =
    all_three (λ form name value. record { type_form = form; name = name; value = value; span = begin.span }) (type_form t) (name_of n) (expression e)
constant _ = None

abbrev pub variable_at : Span → TypeForm → Name → Option Expression → Variable
variable_at span form name value = record { type_form = form; name = name; value = value; span = span }

-- VARIABLE: a constant or a variable
unfoldable pub variable : {X : Type 0} → (Constant → X) → (Variable → X) → Parse → Option X
variable fixed free (Node k r below End) = option_map fixed (constant below)
variable fixed free (Node k r t (Node j s n (Node i q value (Leaf end End)))) =
    option_map free (all_four variable_at (place_of t) (type_form t) (name_of n) (initial_value value))
variable fixed free _ = None

abbrev pub statement_at : Span → StatementKind → Statement
statement_at span kind = roll-Statement (record { kind = kind; span = span })

-- a statement of one word and `;`
abbrev pub word_statement : Word → Option StatementKind
word_statement (word.Keyword keyword.Exit) = Some statement.Exit
word_statement (word.Keyword keyword.Return) = Some statement.Return
word_statement _ = None

-- STATEMENT_REST, behind a path
unfoldable pub statement_rest : Parse → Option (Expression → StatementKind)
statement_rest (Leaf end End) = Some (λ path. statement.Call path)
statement_rest (Leaf assign (Node k r below (Leaf end End))) = option_map (λ value path. statement.Assign path value) (expression below)
statement_rest _ = None

-- SWITCH_LABEL
unfoldable pub switch_label : Parse → Option SwitchLabel
switch_label (Leaf t End) = Some label.Default
switch_label (Node k r below End) = option_map (λ n. label.Action n) (name_of below)
switch_label _ = None

abbrev pub case_at : Span → SwitchLabel → Option Block → SwitchCase
case_at span label body = roll-SwitchCase (record { label = label; body = body; span = span })

unfoldable mutual
  -- BLOCK
  pub block : Parse → Option Block
  block (Leaf begin (Node k r below (Leaf close End))) = option_map (λ ps. roll-Block (record { parts = ps; span = begin.span })) (block_parts below)
  block _ = None

  -- BLOCK_PARTS, and STATE_PARTS
  pub block_parts : Parse → Option (List BlockPart)
  block_parts End = Some []
  block_parts (Node k r notes (Node j s below (Node i q rest End))) =
      both (λ one more. one ∷ more) (both (λ notes kind. roll-BlockPart (record { annotations = notes; kind = kind })) (annotations notes) (block_part below)) (block_parts rest)
  block_parts _ = None

  -- BLOCK_PART, and STATE_PART
  pub block_part : Parse → Option BlockPartKind
  block_part (Node k r below End) =
      if r.left == STATEMENT then option_map (λ s. part.Statement s) (statement_of below)
      else variable (λ c. part.Constant c) (λ v. part.Variable v) below
  block_part _ = None

  -- STATEMENT
  pub statement_of : Parse → Option Statement
  statement_of (Leaf end End) = Some (statement_at end.span statement.Empty)
  statement_of (Leaf t (Leaf end End)) = option_map (λ kind. statement_at t.span kind) (word_statement t.word)
  statement_of (Node k r below End) = both (λ span b. statement_at span (statement.Block b)) (place_of below) (block below)
  statement_of (Leaf begin (Leaf left (Node k r test (Leaf right (Node j s below (Node i q other End)))))) =
      all_three (λ e first second. statement_at begin.span (statement.If e first second)) (expression test) (statement_of below) (else_branch other)
  statement_of (Leaf begin (Leaf left (Node k r value (Leaf right (Leaf open_brace (Node j s cases (Leaf close End))))))) =
      both (λ e cs. statement_at begin.span (statement.Switch e cs)) (expression value) (switch_cases cases)
  statement_of (Node k r first (Node j s behind (Node i q rest End))) =
      both (λ path kind. statement_at (span_of path) (kind path))
      (all_three (λ span n ps. with_parts (expression_at span (kind.Name n)) ps) (place_of first) (word_name first) (parts behind))
      (statement_rest rest)
  statement_of _ = None

  -- ELSE_BRANCH
  pub else_branch : Parse → Option (Option Statement)
  else_branch End = Some None
  else_branch (Leaf begin (Node k r below End)) = option_map (λ s. Some s) (statement_of below)
  else_branch _ = None

  -- SWITCH_CASES
  pub switch_cases : Parse → Option (List SwitchCase)
  switch_cases End = Some []
  switch_cases (Node k r name (Leaf colon (Node j s body (Node i q rest End)))) =
      both (λ one more. one ∷ more) (all_three case_at (place_of name) (switch_label name) (switch_body body)) (switch_cases rest)
  switch_cases _ = None

  -- SWITCH_BODY
  pub switch_body : Parse → Option (Option Block)
  switch_body End = Some None
  switch_body (Node k r below End) = option_map (λ b. Some b) (block below)
  switch_body _ = None
