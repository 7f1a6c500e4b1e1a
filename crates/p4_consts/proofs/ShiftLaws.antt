-- Shifts, by what their operands are.
use Rattle.std.proofs.Common.{◌≡◌, ℕ, zero, suc, refl, sym, ap, ◌∙◌, Bool, true, false, None, Some}
use Rattle.std.specs.Prelude.{ℤ, Option, unsigned_abs, if◌then◌else◌}
use Rattle.tg_base.specs.declared.place.Code.TheVariants.{Typing}
use Rattle.tg_base.specs.declared.place.Span.{Span}
use Rattle.p4_tree.specs.declared.expressions.Operator.{Operator}
use Rattle.p4_program.specs.declared.typed.expressions.Operator.{Operator as CoreOperator}
use Rattle.p4_rules.specs.declared.faults.Pass.TheVariants.{Checking}
use Rattle.p4_rules.specs.declared.types.SourceType.{SourceType}
use Rattle.p4_rules.specs.declared.types.SourceType.TheVariants.{Bit}
use Rattle.p4_rules.specs.Casts.{typing_fault}
use Rattle.p4_rules.specs.Faults.{Checked, provided, and_then}
use Rattle.p4_rules.specs.Scopes.{Scope}
use Rattle.p4_rules.specs.Operands as rules
use Rattle.p4_rules.specs.Operators.{Pair, integer_shift, shift_amount, shift_of, shift, with_bits, is_sized_value, may_be_amount, value_shift, applied_with, core_operator, is_signed}
use Rattle.p4_consts.specs.declared.constants.Constant.{Constant}
use Rattle.p4_consts.specs.declared.integer.Integer.{Integer}
use Rattle.p4_consts.specs.declared.operands.Operand.{Operand}
use Rattle.p4_consts.specs.declared.operands.Operand.TheVariants.{Whole, Fixed}
use Rattle.p4_consts.specs.Integers.{integer_of, signed}
use Rattle.p4_consts.specs.Operands.{operand_of}

abs_signed : (b : Bool) (m : ℕ) → unsigned_abs (signed b m) ≡ m
abs_signed false m = refl
abs_signed true zero = refl
abs_signed true (suc m) = refl

pub abs_integer : (i : Integer) → unsigned_abs (integer_of i) ≡ i.magnitude
abs_integer i = abs_signed i.negative i.magnitude

-- ---- of a pair only the places are read

integer_places : (Γ : Scope) (o : Operator) (a : ℤ) (amount : Option ℤ) (p q : Pair) → p.place ≡ q.place →
    integer_shift Γ o a amount p ≡ integer_shift Γ o a amount q
integer_places Γ o a None p q e = rw e refl
integer_places Γ o a (Some b) p q e = rw e refl

two_tests : {X : Type 0} (one other : Bool) (p : Pair) (x : Checked X) →
    (if one then (if other then x else typing_fault p.right.place) else typing_fault p.left.place)
    ≡ and_then (provided one Checking Typing p.left.place p) (λ q. and_then (provided other Checking Typing p.right.place q) (λ r. x))
two_tests true true p x = refl
two_tests true false p x = refl
two_tests false other p x = refl

-- what is no compile-time integer is shifted where it is sized, by what may be an amount
pub value_shifted : (Γ : Scope) (goes_on : Bool) (o : Operator) (a : Operand) (b : rules.Operand) (p : Pair) → ((i : Integer) → a ≡ Whole i → ⊥) →
    (if is_sized_value (operand_of a)
    then (if may_be_amount b then value_shift Γ goes_on o (operand_of a) b p.place else typing_fault p.right.place)
    else typing_fault p.left.place) ≡ shift_of Γ goes_on o (operand_of a) b p
value_shifted Γ goes_on o (Whole i) b p h = absurd (h i refl)
value_shifted Γ goes_on o a b p h = two_tests (is_sized_value (operand_of a)) (may_be_amount b) p (value_shift Γ goes_on o (operand_of a) b p.place)

places_alone : (Γ : Scope) (goes_on : Bool) (o : Operator) (a b : rules.Operand) (p : Pair) →
    shift_of Γ goes_on o a b (with_bits Γ p) ≡ shift_of Γ goes_on o a b p
places_alone Γ goes_on o (rules.Whole z) b p = integer_places Γ o z (shift_amount b) (with_bits Γ p) p refl
places_alone Γ goes_on o a b p =
    sym (two_tests (is_sized_value a) (may_be_amount b) (with_bits Γ p) (value_shift Γ goes_on o a b p.place))
    ∙ two_tests (is_sized_value a) (may_be_amount b) p (value_shift Γ goes_on o a b p.place)

-- enumerations over bits are cast first
pub bits_shifted : (Γ : Scope) (goes_on : Bool) (o : Operator) (p q : Pair) → q ≡ with_bits Γ p →
    shift_of Γ goes_on o q.left.operand q.right.operand q ≡ shift Γ goes_on o p
bits_shifted Γ goes_on o p q e =
    ap (λ r. shift_of Γ goes_on o r.left.operand r.right.operand r) e
    ∙ places_alone Γ goes_on o (with_bits Γ p).left.operand (with_bits Γ p).right.operand p

-- ---- a value by an amount

constant_is : (Γ : Scope) (goes_on : Bool) (o : Operator) (t : SourceType) (v : ℕ) (b : Operand) (place : Span) → ((i : Integer) → b ≡ Whole i → ⊥) →
    applied_with Γ goes_on t (core_operator o (is_signed t)) place (rules.Fixed t v) (operand_of b)
    ≡ value_shift Γ goes_on o (rules.Fixed t v) (operand_of b) place
constant_is Γ goes_on o t v (Whole i) place h = absurd (h i refl)
constant_is Γ goes_on o t v b place h = refl

value_is : (Γ : Scope) (goes_on : Bool) (o : Operator) (a : Operand) (b : rules.Operand) (place : Span) → ((k : Constant) → a ≡ Fixed k → ⊥) →
    applied_with Γ goes_on (rules.type_of (operand_of a)) (core_operator o (is_signed (rules.type_of (operand_of a)))) place (operand_of a) b
    ≡ value_shift Γ goes_on o (operand_of a) b place
value_is Γ goes_on o (Fixed k) b place h = absurd (h k refl)
value_is Γ goes_on o a b place h = refl

-- the type and the operator as they were found
found_so : (Γ : Scope) (goes_on : Bool) (o : Operator) (a b : rules.Operand) (place : Span) (t : SourceType) (operator : Option CoreOperator) →
    t ≡ rules.type_of a → operator ≡ core_operator o (is_signed t) →
    applied_with Γ goes_on t operator place a b
    ≡ applied_with Γ goes_on (rules.type_of a) (core_operator o (is_signed (rules.type_of a))) place a b
found_so Γ goes_on o a b place t operator e f =
    ap (λ w. applied_with Γ goes_on t w place a b) f
    ∙ ap (λ u. applied_with Γ goes_on u (core_operator o (is_signed u)) place a b) e

pub by_integer : (Γ : Scope) (goes_on : Bool) (o : Operator) (a : Constant) (i : Integer) (amount : rules.Operand) (place : Span)
    (t : SourceType) (operator : Option CoreOperator) → t ≡ a.type_of → operator ≡ core_operator o (is_signed t) → amount ≡ rules.Fixed (Bit 128) i.magnitude →
    applied_with Γ goes_on t operator place (operand_of (Fixed a)) amount ≡ value_shift Γ goes_on o (operand_of (Fixed a)) (operand_of (Whole i)) place
by_integer Γ goes_on o a i amount place t operator e f g =
    found_so Γ goes_on o (operand_of (Fixed a)) amount place t operator e f
    ∙ ap (λ b. applied_with Γ goes_on a.type_of (core_operator o (is_signed a.type_of)) place (operand_of (Fixed a)) b)
    (g ∙ ap (λ m. rules.Fixed (Bit 128) m) (sym (abs_integer i)))

pub constant_by : (Γ : Scope) (goes_on : Bool) (o : Operator) (a : Constant) (b : Operand) (place : Span) (t : SourceType) (operator : Option CoreOperator) →
    ((i : Integer) → b ≡ Whole i → ⊥) → t ≡ a.type_of → operator ≡ core_operator o (is_signed t) →
    applied_with Γ goes_on t operator place (operand_of (Fixed a)) (operand_of b) ≡ value_shift Γ goes_on o (operand_of (Fixed a)) (operand_of b) place
constant_by Γ goes_on o a b place t operator h e f =
    found_so Γ goes_on o (operand_of (Fixed a)) (operand_of b) place t operator e f ∙ constant_is Γ goes_on o a.type_of a.value b place h

pub value_by : (Γ : Scope) (goes_on : Bool) (o : Operator) (a : Operand) (b : rules.Operand) (place : Span) (t : SourceType) (operator : Option CoreOperator) →
    ((k : Constant) → a ≡ Fixed k → ⊥) → t ≡ rules.type_of (operand_of a) → operator ≡ core_operator o (is_signed t) →
    applied_with Γ goes_on t operator place (operand_of a) b ≡ value_shift Γ goes_on o (operand_of a) b place
value_by Γ goes_on o a b place t operator h e f = found_so Γ goes_on o (operand_of a) b place t operator e f ∙ value_is Γ goes_on o a b place h
