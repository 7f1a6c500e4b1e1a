-- The statements that trees stand for.
use Rattle.std.specs.Prelude.{List, [], ◌∷◌, map, Option, Some, None}
use Rattle.p4_program.specs.declared.typed.expressions.Expression.{Expression}
use Rattle.p4_program.specs.declared.typed.statements.Argument.{Argument}
use Rattle.p4_program.specs.declared.typed.statements.Argument.TheVariants as argument
use Rattle.p4_program.specs.declared.typed.statements.Work.{Work}
use Rattle.p4_program.specs.declared.typed.statements.Work.TheVariants as work
use Rattle.p4_program.specs.declared.typed.statements.Statement.{Statement, Row_of-Statement, end_of-Statement, more_of-Statement, Row_of-SwitchCase, end_of-SwitchCase, more_of-SwitchCase}
use Rattle.p4_program.specs.declared.typed.statements.Statement.TheVariants as tree
use Rattle.p4_program.specs.declared.typed.statements.SwitchCase.{SwitchCase}
use Rattle.p4_program.specs.Syntax.Expressions.{CoreExpression}
use Rattle.p4_program.specs.Syntax.Statements.{CoreArgument, CoreWork, CoreStatement, CoreStatements, CoreCases, NoStatements, Then, NoCases, Case}
use Rattle.p4_program.specs.Syntax.Statements as core
use Rattle.p4_program.specs.Trees.Expressions.{expression_of, expressions_of}

abbrev pub argument_of : Argument → CoreArgument
argument_of (argument.In e) = core.In (expression_of e)
argument_of (argument.Out path) = core.Out path
argument_of (argument.InOut path) = core.InOut path

abbrev pub arguments_of : List Argument → List CoreArgument
arguments_of arguments = map argument_of arguments

abbrev pub work_of : Work → CoreWork
work_of (work.Assign path e) = core.Assign path (expression_of e)
work_of (work.AssignSlice path high low e) = core.AssignSlice path high low (expression_of e)
work_of work.Return = core.Return
work_of work.Exit = core.Exit
work_of (work.CallAction action arguments) = core.CallAction action (arguments_of arguments)
work_of (work.ApplyTable table) = core.ApplyTable table
work_of (work.ApplyControl child arguments) = core.ApplyControl child (arguments_of arguments)
work_of (work.SetValid path) = core.SetValid path
work_of (work.SetInvalid path) = core.SetInvalid path
work_of (work.PushFront path count) = core.PushFront path count
work_of (work.PopFront path count) = core.PopFront path count
work_of (work.Extract path) = core.Extract path
work_of (work.Advance bits) = core.Advance bits
work_of (work.Verify condition e) = core.Verify (expression_of condition) (expression_of e)
work_of (work.Emit e) = core.Emit (expression_of e)
work_of (work.Evaluate es) = core.Evaluate (expressions_of es)
work_of (work.MarkToDrop path) = core.MarkToDrop path
work_of (work.VerifyChecksum condition words sum algorithm) =
    core.VerifyChecksum (expression_of condition) (expressions_of words) (expression_of sum) algorithm
work_of (work.UpdateChecksum condition words path algorithm) =
    core.UpdateChecksum (expression_of condition) (expressions_of words) path algorithm
work_of (work.Random path low high) = core.Random path (expression_of low) (expression_of high)
work_of (work.ExecuteMeter index path) = core.ExecuteMeter (expression_of index) path

abbrev pub value_of : Option Expression → Option CoreExpression
value_of None = None
value_of (Some e) = Some (expression_of e)

abbrev mutual
  pub statement_of : Statement → CoreStatement
  statement_of (tree.Numbered number place work) = core.Numbered number place (work_of work)
  statement_of (tree.Declare root value_type value) = core.Declare root value_type (value_of value)
  statement_of (tree.If' place condition s a t b) =
      core.If place (expression_of condition) (row_of a) (row_of b)
  statement_of (tree.Switch' table s cases) = core.Switch table (cases_of cases)

  pub row_of : {m : _} → Row_of-Statement m → CoreStatements
  row_of end_of-Statement = NoStatements
  row_of (more_of-Statement statement rest) = Then (statement_of statement) (row_of rest)

  pub cases_of : {m : _} → Row_of-SwitchCase m → CoreCases
  cases_of end_of-SwitchCase = NoCases
  cases_of (more_of-SwitchCase labels s body rest) = Case labels (row_of body) (cases_of rest)

abbrev pub statements_of : List Statement → CoreStatements
statements_of [] = NoStatements
statements_of (s ∷ ss) = Then (statement_of s) (statements_of ss)

abbrev pub switch_cases_of : List SwitchCase → CoreCases
switch_cases_of [] = NoCases
switch_cases_of (c ∷ cs) = Case c.labels (statements_of c.body.items) (switch_cases_of cs)
