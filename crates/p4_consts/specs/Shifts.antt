-- Shifts of pairs of operands of which the left one is no compile-time integer.
use Rattle.std.specs.Prelude.{Bool, if◌then◌else◌}
use Rattle.p4_tree.specs.declared.expressions.Operator.{Operator}
use Rattle.p4_rules.specs.Casts.{typing_fault}
use Rattle.p4_rules.specs.Faults.{Checked}
use Rattle.p4_rules.specs.Operands.{Operand}
use Rattle.p4_rules.specs.Operators.{Pair, is_sized_value, may_be_amount, value_shift}
use Rattle.p4_rules.specs.Scopes.{Scope}

-- the left operand is a sized value, and the right one may be an amount
abbrev pub sized_shift : Scope → Bool → Operator → Pair → Checked Operand
sized_shift Γ goes_on o p =
    if is_sized_value p.left.operand
    then (if may_be_amount p.right.operand
    then value_shift Γ goes_on o p.left.operand p.right.operand p.place
    else typing_fault p.right.place)
    else typing_fault p.left.place
