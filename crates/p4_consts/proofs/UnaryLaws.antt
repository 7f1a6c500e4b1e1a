-- Operators before one operand that is no constant.
use Rattle.std.proofs.Common.{◌≡◌, refl}
use Rattle.tg_base.specs.declared.place.Span.{Span}
use Rattle.tg_base.specs.declared.place.Code.TheVariants.{Typing}
use Rattle.bits_core.specs.declared.operator.Op.{Op}
use Rattle.bits_core.specs.declared.operator.Op.TheVariants.{Neg}
use Rattle.p4_program.specs.Syntax.Expressions.{Unary}
use Rattle.p4_rules.specs.declared.faults.Pass.TheVariants.{Checking}
use Rattle.p4_rules.specs.Faults.{provided}
use Rattle.p4_rules.specs.Scopes.{Scope}
use Rattle.p4_rules.specs.Operands.{Computed, type_of, core_of, varying_or}
use Rattle.p4_rules.specs.Operators.{applied_one, minus_of, is_sized_value}
use Rattle.p4_consts.specs.declared.constants.Constant.{Constant}
use Rattle.p4_consts.specs.declared.integer.Integer.{Integer}
use Rattle.p4_consts.specs.declared.operands.Operand.{Operand}
use Rattle.p4_consts.specs.declared.operands.Operand.TheVariants.{Whole, Fixed, Stored, Sliced, Computed as Run}
use Rattle.p4_consts.specs.Operands.{operand_of}

pub applied_one_run : (Γ : Scope) (o : Op) (place : Span) (x : Operand) → ((c : Constant) → x ≡ Fixed c → ⊥) →
    applied_one Γ o place (operand_of x)
    ≡ Computed (type_of (operand_of x)) (Unary o (core_of Γ (operand_of x))) (varying_or place (operand_of x))
applied_one_run Γ o place (Whole i) h = refl
applied_one_run Γ o place (Fixed c) h = absurd (h c refl)
applied_one_run Γ o place (Stored t w path at) h = refl
applied_one_run Γ o place (Sliced w path b at) h = refl
applied_one_run Γ o place (Run t e at) h = refl

pub minus_of_value : (Γ : Scope) (place : Span) (x : Operand) → ((i : Integer) → x ≡ Whole i → ⊥) →
    provided (is_sized_value (operand_of x)) Checking Typing place (applied_one Γ Neg place (operand_of x)) ≡ minus_of Γ place (operand_of x)
minus_of_value Γ place (Whole i) h = absurd (h i refl)
minus_of_value Γ place (Fixed c) h = refl
minus_of_value Γ place (Stored t w path at) h = refl
minus_of_value Γ place (Sliced w path b at) h = refl
minus_of_value Γ place (Run t e at) h = refl
