-- Operators between two operands that a run evaluates, and the operators of an expression as a list.
use Rattle.std.specs.Prelude.{List, [], ◌∷◌}
use Rattle.tg_base.specs.declared.place.Span.{Span}
use Rattle.p4_program.specs.declared.typed.expressions.Operation.{Operation}
use Rattle.p4_program.specs.declared.typed.expressions.Operator.{Operator as CoreOperator}
use Rattle.p4_program.specs.Syntax.Expressions.{CoreOperations, NoOperations, Behind}
use Rattle.p4_program.specs.Syntax.Expressions as core
use Rattle.p4_program.specs.Trees.Expressions.{expression_of}
use Rattle.p4_rules.specs.declared.types.SourceType.{SourceType}
use Rattle.p4_rules.specs.Scopes.{Scope}
use Rattle.p4_rules.specs.Operands.{Operand, Computed, core_of, varying_or}

-- the operator between a and b, which begins a row of operators
abbrev pub applied_in_run : Scope → SourceType → CoreOperator → Span → Operand → Operand → Operand
applied_in_run Γ t o place a b =
    Computed t (core.Operations (core_of Γ a) (Behind o (core_of Γ b) NoOperations)) (varying_or (varying_or place b) a)

abbrev pub operations_in : List Operation → CoreOperations
operations_in [] = NoOperations
operations_in (x ∷ rest) = Behind x.operator (expression_of x.operand) (operations_in rest)
