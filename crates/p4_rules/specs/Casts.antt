-- Casts: those that are written, and those that a context makes of itself.
use Rattle.std.specs.Prelude.{ℕ, ◌==◌, Bool, true, false, ℤ, if◌then◌else◌}
use Rattle.tg_base.specs.declared.place.Span.{Span}
use Rattle.tg_base.specs.declared.place.Code.TheVariants as code
use Rattle.bits_core.specs.Number.{wrapped, extend_value}
use Rattle.p4_program.specs.Syntax.Expressions.{CoreExpression}
use Rattle.p4_program.specs.Syntax.Expressions as core
use Rattle.p4_rules.specs.declared.faults.Pass.TheVariants.{Checking}
use Rattle.p4_rules.specs.Faults.{Checked, Right, fault_at, provided}
use Rattle.p4_rules.specs.Integers.{fits_bit, fits_int, is_width}
use Rattle.p4_rules.specs.declared.types.SourceType.{SourceType}
use Rattle.p4_rules.specs.declared.types.SourceType.TheVariants.{Bit, Signed, Integer, Boolean, BitEnumeration}
use Rattle.p4_rules.specs.Types.{same_type}
use Rattle.p4_rules.specs.Scopes.{Scope}
use Rattle.p4_rules.specs.Operands.{Operand, Whole, Fixed, Computed, type_of, varying_or, core_of, retyped}

abbrev pub typing_fault : {X : Type 0} → Span → Checked X
typing_fault place = fault_at Checking code.Typing place

-- a constant is refused in the pass in which it is wanted
abbrev pub constant_fault : {X : Type 0} → Scope → Span → Checked X
constant_fault Γ place = fault_at Γ.pass code.Constant place

-- "Implicit casts": a compile-time integer takes a sized type whose values have it; any other is refused
abbrev pub integer_as : Scope → SourceType → Span → ℤ → Checked Operand
integer_as Γ (Bit w) place z = provided (fits_bit w z) Γ.pass code.Constant place (Fixed (Bit w) (wrapped w z))
integer_as Γ (Signed w) place z = provided (fits_int w z) Γ.pass code.Constant place (Fixed (Signed w) (wrapped w z))
integer_as Γ Integer place z = Right (Whole z)
integer_as Γ _ place z = typing_fault place

-- an enumeration over bits is cast to these bits, and every other value has its own type
abbrev pub value_as : Scope → SourceType → SourceType → Span → Operand → Checked Operand
value_as Γ (Bit w) (BitEnumeration n v) place x = provided (v == w) Checking code.Typing place (retyped Γ (Bit w) x)
value_as Γ t u place x = provided (same_type t u) Checking code.Typing place x

-- An operand where a value of this type is wanted: by the target of an assignment, a parameter, or a declared type.
abbrev pub cast_to : Scope → SourceType → Span → Operand → Checked Operand
cast_to Γ t place (Whole z) = integer_as Γ t place z
cast_to Γ t place x = value_as Γ t (type_of x) place x

abbrev pub as_bits_of : Scope → SourceType → Operand → Operand
as_bits_of Γ (BitEnumeration n w) x = retyped Γ (Bit w) x
as_bits_of Γ t x = x

-- where a rule wants a sized value, an enumeration over bits is cast
abbrev pub as_bits : Scope → Operand → Operand
as_bits Γ x = as_bits_of Γ (type_of x) x

-- "Explicit casts" between types of bits: a value of w bits at v bits, widened by copies of its sign or by zeros, or cut
abbrev pub resized : Scope → Bool → ℕ → ℕ → SourceType → Span → Operand → Operand
resized Γ signed w v t place (Fixed u x) = Fixed t (extend_value signed w x v)
resized Γ signed w v t place x =
    Computed t (if w == v then core_of Γ x else core.Resize signed v (core_of Γ x)) (varying_or place x)

-- "Explicit casts", by the type that is cast to and the type of the operand
abbrev pub value_cast : Scope → SourceType → SourceType → Span → Operand → Checked Operand
-- from `bit` to `bit`, cut or widened by zeros; from `int` of the same width; from `bool` to one bit
value_cast Γ (Bit v) (Bit w) place x = provided (is_width v) Checking code.Typing place (resized Γ false w v (Bit v) place x)
value_cast Γ (Bit v) (Signed w) place x = provided (v == w) Checking code.Typing place (retyped Γ (Bit v) x)
value_cast Γ (Bit v) Boolean place x = provided (v == 1) Checking code.Typing place (retyped Γ (Bit v) x)
value_cast Γ (Bit v) (BitEnumeration n w) place x = provided (v == w) Checking code.Typing place (retyped Γ (Bit v) x)
-- from `int` to `int`, cut or widened by the sign; from `bit` of the same width
value_cast Γ (Signed v) (Signed w) place x = provided (is_width v) Checking code.Typing place (resized Γ true w v (Signed v) place x)
value_cast Γ (Signed v) (Bit w) place x = provided (v == w) Checking code.Typing place (retyped Γ (Signed v) x)
-- from one bit to `bool`
value_cast Γ Boolean (Bit w) place x = provided (w == 1) Checking code.Typing place (retyped Γ Boolean x)
-- from bits to an enumeration over as many
value_cast Γ (BitEnumeration n v) (Bit w) place x = provided (v == w) Checking code.Typing place (retyped Γ (BitEnumeration n v) x)
-- a value of the type already
value_cast Γ t u place x = provided (same_type t u) Checking code.Typing place (retyped Γ t x)

-- a written cast; a compile-time integer takes `bit`, `int` with a width where it fits, or stays
abbrev pub cast : Scope → SourceType → Span → Operand → Checked Operand
cast Γ t place (Whole z) = integer_as Γ t place z
cast Γ t place x = value_cast Γ t (type_of x) place x
