-- Concatenations that are not too wide.
use Rattle.std.proofs.Common.{◌≡◌, refl, ap, ◌∙◌, ℕ, ◌+◌, Bool, true, false, None, Some}
use Rattle.std.specs.Prelude.{Option, nat_le, if◌then◌else◌}
use Rattle.p4_tree.specs.declared.expressions.Operator.{Operator}
use Rattle.p4_program.specs.declared.typed.expressions.Operator.{Operator as CoreOperator}
use Rattle.p4_rules.specs.declared.types.SourceType.TheVariants.{Bit}
use Rattle.p4_rules.specs.Casts.{typing_fault}
use Rattle.p4_rules.specs.Integers.{widest}
use Rattle.p4_rules.specs.Operands.{type_of}
use Rattle.p4_rules.specs.Operators.{Pair, applied_with, core_operator, width_in}
use Rattle.p4_rules.specs.Scopes.{Scope}
use Rattle.p4_consts.specs.Concatenations.{joined}

found : {X : Type 0} (fits : Bool) (sum width : ℕ) (make : ℕ → X) (other : X) → Some width ≡ (if fits then Some sum else None) →
    make width ≡ (if fits then make sum else other)
found true sum width make other e =
    let same : width ≡ sum = cc in
    ap make same
found false sum width make other e = absurd (cc)

pub joined_within : (Γ : Scope) (goes_on : Bool) (o : Operator) (p : Pair) (w v width : ℕ) (operator : Option CoreOperator) →
    w ≡ width_in (type_of p.left.operand) → v ≡ width_in (type_of p.right.operand) →
    Some width ≡ (if nat_le (w + v) widest then Some (w + v) else None) → operator ≡ core_operator o false →
    applied_with Γ goes_on (Bit width) operator p.place p.left.operand p.right.operand ≡ joined Γ goes_on o p
joined_within Γ goes_on o p w v width operator e f g h =
    ap (λ c. applied_with Γ goes_on (Bit width) c p.place p.left.operand p.right.operand) h
    ∙ found (nat_le (w + v) widest) (w + v) width
    (λ n. applied_with Γ goes_on (Bit n) (core_operator o false) p.place p.left.operand p.right.operand) (typing_fault p.place) g
    ∙ rw (e, f) refl
