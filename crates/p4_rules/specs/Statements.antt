-- Statements and blocks: what each does in a run.
use Rattle.std.specs.Prelude.{ℕ, ◌+◌, List, [], ◌∷◌, ◌++◌, Bool, true, false, Option, None, Some, slice_get, if◌then◌else◌}
use Rattle.std.specs.List.{position}
use Rattle.std.specs.Str.{bytes_eq}
use Rattle.tg_base.specs.declared.place.Span.{Span}
use Rattle.tg_base.specs.declared.place.Code.TheVariants as code
use Rattle.p4_tree.specs.declared.names.Name.{Name}
use Rattle.p4_tree.specs.declared.expressions.Expression.{Expression}
use Rattle.p4_tree.specs.declared.expressions.ExpressionKind.{ExpressionKind, Row_of-PostfixPart, end_of-PostfixPart, more_of-PostfixPart}
use Rattle.p4_tree.specs.declared.expressions.ExpressionKind.TheVariants as kind
use Rattle.p4_tree.specs.declared.expressions.PostfixKind.TheVariants as postfix
use Rattle.p4_tree.specs.declared.names.Annotation.{Annotation}
use Rattle.p4_tree.specs.declared.statements.BlockPart.{BlockPart}
use Rattle.p4_tree.specs.declared.statements.BlockPartKind.{BlockPartKind}
use Rattle.p4_tree.specs.declared.statements.Block.{Block', Row_of-BlockPart, end_of-BlockPart, more_of-BlockPart}
use Rattle.p4_tree.specs.declared.statements.BlockPartKind.TheVariants as part
use Rattle.p4_tree.specs.declared.statements.StatementKind.{StatementKind, end_of-Statement, more_of-Statement, Held-StatementKind-If-2, StatementKind-If-2-None', StatementKind-If-2-Some', Row_of-SwitchCase, end_of-SwitchCase, more_of-SwitchCase}
use Rattle.p4_tree.specs.declared.statements.StatementKind.TheVariants as statement
use Rattle.p4_tree.specs.declared.statements.SwitchCase.{SwitchCase', SwitchCase-body-None', SwitchCase-body-Some'}
use Rattle.p4_tree.specs.declared.statements.SwitchLabel.{SwitchLabel}
use Rattle.p4_tree.specs.declared.statements.SwitchLabel.TheVariants as label
use Rattle.p4_program.specs.declared.typed.statements.Label.{Label}
use Rattle.p4_program.specs.declared.typed.statements.Label.TheVariants as target
use Rattle.p4_program.specs.declared.typed.types.ValueType.{ValueType}
use Rattle.p4_program.specs.Syntax.Expressions.{CoreExpression}
use Rattle.p4_program.specs.Syntax.Statements.{CoreWork, CoreStatement, CoreStatements, CoreCases}
use Rattle.p4_program.specs.Syntax.Statements as core
use Rattle.p4_rules.specs.declared.faults.Pass.TheVariants.{Checking}
use Rattle.p4_rules.specs.Faults.{Checked, Right, fault_at, and_then, made_of, both, all_three, with_both, beside}
use Rattle.p4_rules.specs.declared.types.SourceType.TheVariants.{Boolean}
use Rattle.p4_rules.specs.Scopes.{Scope, is_in_parser, within, listed}
use Rattle.p4_rules.specs.Operands.{Operand, Stored, Sliced, Placed, type_of, core_of}
use Rattle.p4_rules.specs.Casts.{typing_fault}
use Rattle.p4_rules.specs.Things.{Thing, Value, WorkOf, Applied, ActionRun, Judged, misfit}
use Rattle.p4_rules.specs.Variables.{judged_expression, value_in, value_for, with_constant, with_variable, constant_within, variable_within}
use Rattle.p4_rules.specs.Counts.{Count, count_of, count_of_parts}
use Rattle.p4_rules.specs.Notes.{noted}

-- the scope behind so many statements and variables; their names are not seen there
abbrev pub passing : Scope → Count → Scope
passing Γ count = record Γ { statement = Γ.statement + count.statements; variable = Γ.variable + count.variables }

-- a statement with the next number, at its place
abbrev pub numbered : Scope → Span → CoreWork → CoreStatements
numbered Γ place work = core.Then (core.Numbered Γ.statement place work) core.NoStatements

abbrev pub followed_by : CoreStatements → CoreStatements → CoreStatements
followed_by core.NoStatements rest = rest
followed_by (core.Then s more) rest = core.Then s (followed_by more rest)

abbrev pub alone : CoreStatement → CoreStatements
alone s = core.Then s core.NoStatements

-- a form that states leave out, refused at its word, beside the faults of its parts
abbrev pub not_in_states : {X : Type 0} → Scope → Span → Checked X → Checked X
not_in_states Γ place part = beside (if is_in_parser Γ.here then fault_at Checking code.Unsupported place else Right true) part

-- "Assignment statement": to a path or to bits of one, if it may be assigned to
abbrev pub assigned : Scope → Span → Operand → Placed → Checked CoreWork
assigned Γ place (Stored t true path at) value = made_of (λ e. core.Assign path e) (value_for Γ t value)
assigned Γ place (Sliced true path high low at) value =
    made_of (λ e. core.AssignSlice path high low e) (value_for Γ (type_of (Sliced true path high low at)) value)
assigned Γ place x value = typing_fault place

abbrev pub assignment : Scope → Expression → Expression → Checked CoreWork
assignment Γ target e = with_both (λ x v. assigned Γ x.place x.operand v) (value_in Γ target) (value_in Γ e)

-- a path ends in a call
abbrev pub last_is_call : Bool → {n : _} → Row_of-PostfixPart n → Bool
last_is_call found end_of-PostfixPart = found
last_is_call found (more_of-PostfixPart (postfix.Call' count row) s rest) = last_is_call true rest
last_is_call found (more_of-PostfixPart k s rest) = last_is_call false rest

abbrev pub is_call : ExpressionKind → Bool
is_call (kind.Postfix' one head count parts) = last_is_call false parts
is_call _ = false

-- "Method invocations and function calls": a call as a statement; one that gives a value evaluates it
abbrev pub called_thing : Scope → Bool → Span → Thing → Checked CoreWork
called_thing Γ is_one place (WorkOf work) = Right work
called_thing Γ is_one place (Applied n) = Right (core.ApplyTable n)
called_thing Γ true place (Value x) = Right (core.Evaluate (core_of Γ x ∷ []))
called_thing Γ is_one place thing = misfit place thing

abbrev pub called : Scope → Bool → Judged → Checked CoreWork
called Γ is_one j = called_thing Γ is_one j.place j.thing

abbrev pub condition : Scope → Expression → Checked CoreExpression
condition Γ e = and_then (value_in Γ e) (value_for Γ Boolean)

-- a label of a `switch`, by the place of its action in the table's list
abbrev pub action_label : Name → Option ℕ → Checked Label
action_label name (Some k) = Right (target.Listed k)
action_label name None = fault_at Checking code.Name name.span

abbrev pub label_of : List (List ℕ × ℕ) → SwitchLabel → Checked Label
label_of actions label.Default = Right target.Default
label_of actions (label.Action name) = action_label name (position (λ action. bytes_eq action.0 name.text) actions)

-- what a `switch` is on: the action that a table ran, by the number of the table; anything else is left out
abbrev pub ran_by : Span → Thing → Checked ℕ
ran_by word (ActionRun n) = Right n
ran_by word _ = fault_at Checking code.Unsupported word

abbrev pub switched : Scope → Span → Expression → Checked ℕ
switched Γ word e = and_then (judged_expression Γ e) (λ j. ran_by word j.thing)

-- the cases of a `switch` are read on where its table is not known: each label is then as faulty as the table
abbrev pub label_in : Scope → Checked ℕ → SwitchLabel → Checked Label
label_in Γ ran l = and_then ran (λ n. label_of (listed (slice_get Γ.table_actions n)) l)

-- cases whose labels share a body; labels behind the last body have an empty one
abbrev pub case_of : List Label → CoreStatements → CoreCases → CoreCases
case_of [] body rest = rest
case_of (l ∷ labels) body rest = core.Case (l ∷ labels) body rest

abbrev mutual
  pub statement_of : Scope → StatementKind → Span → Checked CoreStatements
  -- "Empty statement"
  statement_of Γ statement.Empty place = Right core.NoStatements
  -- "Block statement"
  statement_of Γ (statement.Block (Block' count row s)) place = parts_of (within Γ) row
  -- "Exit statement", "Return statement"
  statement_of Γ statement.Exit place = not_in_states Γ place (Right (numbered Γ place core.Exit))
  statement_of Γ statement.Return place = not_in_states Γ place (Right (numbered Γ place core.Return))
  -- "Conditional statement"
  statement_of Γ (statement.If' e one (more_of-Statement k s end_of-Statement) other) place =
      not_in_states Γ place (all_three (λ c yes no. alone (core.If place c yes no))
      (condition Γ e) (statement_of Γ k s) (else_of (passing Γ (count_of k)) other))
  -- "Switch statement"
  statement_of Γ (statement.Switch' e count row) place =
      not_in_states Γ place (both (λ n cases. alone (core.Switch n cases))
      (switched Γ place e) (cases_of Γ (switched Γ place e) (Right []) row))
  statement_of Γ (statement.Assign target e) place = made_of (numbered Γ place) (assignment Γ target e)
  statement_of Γ (statement.Call e) place = made_of (numbered Γ place) (and_then (judged_expression Γ e) (called Γ (is_call e.kind)))

  pub else_of : Scope → Held-StatementKind-If-2 → Checked CoreStatements
  else_of Γ StatementKind-If-2-None' = Right core.NoStatements
  else_of Γ (StatementKind-If-2-Some' one (more_of-Statement k s end_of-Statement)) = statement_of Γ k s

  -- cases behind labels that have no body yet
  pub cases_of : Scope → Checked ℕ → Checked (List Label) → {n : _} → Row_of-SwitchCase n → Checked CoreCases
  cases_of Γ ran waiting end_of-SwitchCase = made_of (λ labels. case_of labels core.NoStatements core.NoCases) waiting
  cases_of Γ ran waiting (more_of-SwitchCase (SwitchCase' l SwitchCase-body-None' s) rest) =
      cases_of Γ ran (both (λ labels one. labels ++ one ∷ []) waiting (label_in Γ ran l)) rest
  cases_of Γ ran waiting (more_of-SwitchCase (SwitchCase' l (SwitchCase-body-Some' (Block' count row t)) s) rest) =
      all_three case_of (both (λ labels one. labels ++ one ∷ []) waiting (label_in Γ ran l)) (parts_of (within Γ) row)
      (cases_of (passing Γ (count_of_parts row)) ran (Right []) rest)

  -- what stands in a block or a state, from its first part on
  pub parts_of : Scope → {n : _} → Row_of-BlockPart n → Checked CoreStatements
  parts_of Γ end_of-BlockPart = Right core.NoStatements
  parts_of Γ (more_of-BlockPart notes (part.Statement' k s) rest) =
      both followed_by (noted notes (statement_of Γ k s)) (parts_of (passing Γ (count_of k)) rest)
  parts_of Γ (more_of-BlockPart notes (part.Constant c) rest) =
      beside (noted notes (constant_within Γ c)) (parts_of (with_constant Γ c) rest)
  parts_of Γ (more_of-BlockPart notes (part.Variable v) rest) =
      both (λ d more. core.Then d more) (noted notes (variable_within Γ v)) (parts_of (with_variable Γ v) rest)

-- The parts of a state stand in a list: what one does before those behind it, and the scope there.
abbrev pub part_before : Scope → List Annotation → BlockPartKind → Checked CoreStatements → Checked CoreStatements
part_before Γ notes (part.Statement' k s) rest = both followed_by (noted notes (statement_of Γ k s)) rest
part_before Γ notes (part.Constant c) rest = beside (noted notes (constant_within Γ c)) rest
part_before Γ notes (part.Variable v) rest = both (λ d more. core.Then d more) (noted notes (variable_within Γ v)) rest

abbrev pub behind_part : Scope → BlockPartKind → Scope
behind_part Γ (part.Statement' k s) = passing Γ (count_of k)
behind_part Γ (part.Constant c) = with_constant Γ c
behind_part Γ (part.Variable v) = with_variable Γ v

abbrev pub list_of : Scope → List BlockPart → Checked CoreStatements
list_of Γ [] = Right core.NoStatements
list_of Γ (p ∷ ps) = part_before Γ p.annotations p.kind (list_of (behind_part Γ p.kind) ps)

abbrev pub behind_list : Scope → List BlockPart → Scope
behind_list Γ [] = Γ
behind_list Γ (p ∷ ps) = behind_list (behind_part Γ p.kind) ps

abbrev mutual
  -- the types of the variables that statements declare, in order
  pub variables_of : CoreStatements → List ValueType
  variables_of core.NoStatements = []
  variables_of (core.Then s more) = variables_in s ++ variables_of more

  pub variables_in : CoreStatement → List ValueType
  variables_in (core.Numbered n place work) = []
  variables_in (core.Declare root t value) = t ∷ []
  variables_in (core.If place c first second) = variables_of first ++ variables_of second
  variables_in (core.Switch n cases) = variables_of_cases cases

  pub variables_of_cases : CoreCases → List ValueType
  variables_of_cases core.NoCases = []
  variables_of_cases (core.Case labels body rest) = variables_of body ++ variables_of_cases rest
