-- Choices that are not made before a run.
use Rattle.std.proofs.Common.{◌≡◌, ℤ, true, refl, ap}
use Rattle.tg_base.specs.declared.place.Span.{Span}
use Rattle.tg_base.specs.declared.place.Code.TheVariants.{Typing}
use Rattle.p4_rules.specs.declared.faults.Pass.TheVariants.{Checking}
use Rattle.p4_rules.specs.Faults.{Right, and_then, provided}
use Rattle.p4_rules.specs.Scopes.{Scope}
use Rattle.p4_rules.specs.Operands as rules
use Rattle.p4_rules.specs.Casts.{typing_fault}
use Rattle.p4_rules.specs.Operators.{Pair, unified, is_boolean, choice, choice_on}
use Rattle.p4_consts.specs.declared.constants.Constant.{Constant}
use Rattle.p4_consts.specs.declared.integer.Integer.{Integer}
use Rattle.p4_consts.specs.declared.operands.Operand.{Operand}
use Rattle.p4_consts.specs.declared.operands.Operand.TheVariants.{Whole, Fixed, Stored, Sliced, Computed}
use Rattle.p4_consts.specs.Choices.{chosen_in_run}
use Rattle.p4_consts.specs.Operands.{operand_of}

-- two compile-time integers under a condition that is no constant
pub integers_in_run : (Γ : Scope) (place : Span) (c : Operand) (a b : ℤ) → ((k : Constant) → c ≡ Fixed k → ⊥) →
    choice_on Γ place (operand_of c) (rules.Whole a, rules.Whole b) ≡ typing_fault place
integers_in_run Γ place (Fixed k) a b h = absurd (h k refl)
integers_in_run Γ place (Whole i) a b h = refl
integers_in_run Γ place (Stored t w path at) a b h = refl
integers_in_run Γ place (Sliced w path p at) a b h = refl
integers_in_run Γ place (Computed t e at) a b h = refl

-- an integer beside another value
pub integer_beside : (Γ : Scope) (place : Span) (c : rules.Operand) (i : ℤ) (b : Operand) → ((k : Integer) → b ≡ Whole k → ⊥) →
    Right (chosen_in_run Γ place c (rules.Whole i) (operand_of b)) ≡ choice_on Γ place c (rules.Whole i, operand_of b)
integer_beside Γ place c i (Whole k) h = absurd (h k refl)
integer_beside Γ place (rules.Fixed s v) i _ h = refl
integer_beside Γ place _ i _ h = refl

-- two constants under a condition that is none
pub constants_in_run : (Γ : Scope) (place : Span) (c : Operand) (a b : Constant) → ((k : Constant) → c ≡ Fixed k → ⊥) →
    Right (chosen_in_run Γ place (operand_of c) (operand_of (Fixed a)) (operand_of (Fixed b)))
    ≡ choice_on Γ place (operand_of c) (operand_of (Fixed a), operand_of (Fixed b))
constants_in_run Γ place (Fixed k) a b h = absurd (h k refl)
constants_in_run Γ place (Whole i) a b h = refl
constants_in_run Γ place (Stored t w path at) a b h = refl
constants_in_run Γ place (Sliced w path p at) a b h = refl
constants_in_run Γ place (Computed t e at) a b h = refl

-- a constant beside a value that is none
pub constant_beside : (Γ : Scope) (place : Span) (c : rules.Operand) (a : Constant) (b : Operand) → ((k : Constant) → b ≡ Fixed k → ⊥) →
    Right (chosen_in_run Γ place c (operand_of (Fixed a)) (operand_of b)) ≡ choice_on Γ place c (operand_of (Fixed a), operand_of b)
constant_beside Γ place c a (Fixed k) h = absurd (h k refl)
constant_beside Γ place (rules.Fixed s v) a _ h = refl
constant_beside Γ place _ a _ h = refl

-- a value that is no constant
pub value_beside : (Γ : Scope) (place : Span) (c : rules.Operand) (a : Operand) (b : rules.Operand) →
    ((k : Integer) → a ≡ Whole k → ⊥) → ((k : Constant) → a ≡ Fixed k → ⊥) →
    Right (chosen_in_run Γ place c (operand_of a) b) ≡ choice_on Γ place c (operand_of a, b)
value_beside Γ place c (Whole k) b g h = absurd (g k refl)
value_beside Γ place c (Fixed k) b g h = absurd (h k refl)
value_beside Γ place (rules.Fixed s v) _ b g h = refl
value_beside Γ place _ _ b g h = refl

-- a choice under a Boolean condition
pub choice_unified : (Γ : Scope) (c : rules.Placed) (p : Pair) → is_boolean c.operand ≡ true →
    choice Γ c p ≡ and_then (unified Γ p) (choice_on Γ p.place c.operand)
choice_unified Γ c p e =
    ap (λ b. and_then (provided b Checking Typing c.place p) (λ q. and_then (unified Γ q) (choice_on Γ q.place c.operand))) e
