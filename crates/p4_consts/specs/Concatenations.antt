-- Concatenations of two `bit` values.
use Rattle.std.specs.Prelude.{Bool, false, nat_le, ◌+◌, if◌then◌else◌}
use Rattle.p4_tree.specs.declared.expressions.Operator.{Operator}
use Rattle.p4_rules.specs.declared.types.SourceType.TheVariants.{Bit}
use Rattle.p4_rules.specs.Casts.{typing_fault}
use Rattle.p4_rules.specs.Faults.{Checked}
use Rattle.p4_rules.specs.Integers.{widest}
use Rattle.p4_rules.specs.Operands.{Operand, type_of}
use Rattle.p4_rules.specs.Operators.{Pair, applied_with, core_operator, width_in}
use Rattle.p4_rules.specs.Scopes.{Scope}

-- both in one value, where it has no more bits than a value may have
abbrev pub joined : Scope → Bool → Operator → Pair → Checked Operand
joined Γ goes_on o p =
    let width = width_in (type_of p.left.operand) + width_in (type_of p.right.operand) in
    if nat_le width widest
    then applied_with Γ goes_on (Bit width) (core_operator o false) p.place p.left.operand p.right.operand
    else typing_fault p.place
