-- The expressions that trees stand for.
use Rattle.std.specs.Prelude.{List, map}
use Rattle.p4_program.specs.declared.typed.expressions.Expression.{Expression, Row_of-Operation, end_of-Operation, more_of-Operation}
use Rattle.p4_program.specs.declared.typed.expressions.Expression.TheVariants as tree
use Rattle.p4_program.specs.Syntax.Expressions.{CoreExpression, CoreOperations, NoOperations, Behind}
use Rattle.p4_program.specs.Syntax.Expressions as core

abbrev mutual
  pub expression_of : Expression → CoreExpression
  expression_of (tree.Constant scalar value) = core.Constant scalar value
  expression_of (tree.Read path) = core.Read path
  expression_of (tree.IsValid path) = core.IsValid path
  expression_of (tree.Lookahead width) = core.Lookahead width
  expression_of (tree.Unary' op p e) = core.Unary op (expression_of e)
  expression_of (tree.Operations' p e shape row) = core.Operations (expression_of e) (operations_of row)
  expression_of (tree.Slice' p e high low) = core.Slice (expression_of e) high low
  expression_of (tree.Resize' signed width p e) = core.Resize signed width (expression_of e)
  expression_of (tree.Choice' p c q a r b) = core.Choice (expression_of c) (expression_of a) (expression_of b)
  expression_of (tree.PartOf' p e step) = core.PartOf (expression_of e) step
  expression_of (tree.ValidityOf' p e) = core.ValidityOf (expression_of e)
  expression_of (tree.Hit table) = core.Hit table

  pub operations_of : {m : _} → Row_of-Operation m → CoreOperations
  operations_of end_of-Operation = NoOperations
  operations_of (more_of-Operation operator e rest) = Behind operator (expression_of e) (operations_of rest)

abbrev pub expressions_of : List Expression → List CoreExpression
expressions_of es = map expression_of es
