-- Operators behind the operators of an expression, and operators between operands that are not two constants.
use Rattle.std.proofs.Common.{◌≡◌, refl, sym, ap, ◌∙◌, List, [], ◌∷◌, ◌++◌, Bool, true, false, Vec, Box, Global}
use Rattle.tg_base.specs.declared.place.Span.{Span}
use Rattle.p4_program.specs.declared.typed.expressions.Expression.{Expression, Row_of-Operation, end_of-Operation, more_of-Operation, items-the_row-Operation, items_hidden-the_row-Operation-0}
use Rattle.p4_program.specs.declared.typed.expressions.Expression.TheVariants as tree
use Rattle.p4_program.specs.declared.typed.expressions.Operation.{Operation}
use Rattle.p4_program.specs.declared.typed.expressions.Operator.{Operator as CoreOperator}
use Rattle.p4_program.specs.Syntax.Expressions.{CoreExpression, NoOperations, Behind}
use Rattle.p4_program.specs.Syntax.Expressions as core
use Rattle.p4_program.specs.Trees.Expressions.{expression_of, operations_of}
use Rattle.p4_rules.specs.declared.types.SourceType.{SourceType}
use Rattle.p4_rules.specs.Scopes.{Scope}
use Rattle.p4_rules.specs.Operands as rules
use Rattle.p4_rules.specs.Operators.{behind, extended, applied}
use Rattle.p4_consts.specs.declared.constants.Constant.{Constant}
use Rattle.p4_consts.specs.declared.operands.Operand.{Operand}
use Rattle.p4_consts.specs.declared.operands.Operand.TheVariants.{Fixed, Computed}
use Rattle.p4_consts.specs.Applied.{applied_in_run, operations_in}
use Rattle.p4_consts.specs.Operands.{operand_of}

row_operations : {m : _} (row : Row_of-Operation m) → operations_of row ≡ operations_in (items-the_row-Operation m row)
row_operations end_of-Operation = refl
row_operations (more_of-Operation operator e rest) = ap (λ os. Behind operator (expression_of e) os) (row_operations rest)

abbrev row_in : Expression → (n : _) × Row_of-Operation n
row_in (tree.Operations' p e s row) = (_, row)
row_in _ = (_, end_of-Operation)

pub operations_are : (first : Box Expression Global) (rest : Vec Operation Global) →
    expression_of (tree.Operations first rest) ≡ core.Operations (expression_of first.value) (operations_in rest.items)
operations_are first rest =
    let row = row_in (tree.Operations first rest) in
    ap (λ os. core.Operations (expression_of first.value) os) (row_operations row.1 ∙ ap operations_in (items_hidden-the_row-Operation-0 rest))

-- an operator behind one operand
pub operation_is : (first : Box Expression Global) (rest : Vec Operation Global) (e : Expression) (x : Operation) →
    first.value ≡ e → rest.items ≡ x ∷ [] →
    expression_of (tree.Operations first rest) ≡ core.Operations (expression_of e) (Behind x.operator (expression_of x.operand) NoOperations)
operation_is first rest e x f g =
    operations_are first rest
    ∙ ap (λ one. core.Operations (expression_of one) (operations_in rest.items)) f
    ∙ ap (λ row. core.Operations (expression_of e) (operations_in row)) g

pushed_behind : (row : List Operation) (x : Operation) →
    operations_in (row ++ x ∷ []) ≡ behind (operations_in row) x.operator (expression_of x.operand)
pushed_behind [] x = refl
pushed_behind (y ∷ row) x = ap (λ os. Behind y.operator (expression_of y.operand) os) (pushed_behind row x)

-- one more operator behind a row of them
pub pushed_is : (first : Box Expression Global) (row rest : Vec Operation Global) (x : Operation) → rest.items ≡ row.items ++ x ∷ [] →
    expression_of (tree.Operations first rest) ≡ extended (expression_of (tree.Operations first row)) x.operator (expression_of x.operand)
pushed_is first row rest x e =
    operations_are first rest
    ∙ ap (λ os. core.Operations (expression_of first.value) os) (ap operations_in e ∙ pushed_behind row.items x)
    ∙ ap (λ one. extended one x.operator (expression_of x.operand)) (sym (operations_are first row))

-- ---- a row of operators that begins

pub constant_beside : (Γ : Scope) (goes_on : Bool) (t : SourceType) (o : CoreOperator) (place : Span) (a : Constant) (b : Operand) →
    ((k : Constant) → b ≡ Fixed k → ⊥) →
    applied_in_run Γ t o place (operand_of (Fixed a)) (operand_of b) ≡ applied Γ goes_on t o place (operand_of (Fixed a)) (operand_of b)
constant_beside Γ goes_on t o place a (Fixed k) h = absurd (h k refl)
constant_beside Γ true t o place a _ h = refl
constant_beside Γ false t o place a _ h = refl

pub value_beside : (Γ : Scope) (goes_on : Bool) (t : SourceType) (o : CoreOperator) (place : Span) (a : Operand) (b : rules.Operand) →
    ((k : Constant) → a ≡ Fixed k → ⊥) → ((u : SourceType) (e : Expression) (at : Span) → a ≡ Computed u e at → ⊥) →
    applied_in_run Γ t o place (operand_of a) b ≡ applied Γ goes_on t o place (operand_of a) b
value_beside Γ goes_on t o place (Fixed k) b g h = absurd (g k refl)
value_beside Γ goes_on t o place (Computed u e at) b g h = absurd (h u e at refl)
value_beside Γ true t o place _ b g h = refl
value_beside Γ false t o place _ b g h = refl
