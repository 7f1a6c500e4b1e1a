-- What an expression that has a value is: a constant, what a path leads to, or what is computed in a run.
use Rattle.std.specs.Prelude.{ℕ, ◌+◌, ◌-◌, Bool, Option, None, Some, ℤ, pos, unwrap_or}
use Rattle.tg_base.specs.declared.place.Span.{Span}
use Rattle.bits_core.specs.Number.{wrapped, signed_value}
use Rattle.p4_program.specs.declared.typed.paths.Path.{Path}
use Rattle.p4_program.specs.declared.typed.types.Scalar.{Scalar}
use Rattle.p4_program.specs.declared.typed.types.Scalar.TheVariants as scalar
use Rattle.p4_program.specs.declared.typed.types.ValueType.{ValueType}
use Rattle.p4_program.specs.declared.typed.types.ValueType.TheVariants as value
use Rattle.p4_program.specs.Syntax.Expressions.{CoreExpression}
use Rattle.p4_program.specs.Syntax.Expressions as core
use Rattle.p4_rules.specs.declared.types.SourceType.{SourceType}
use Rattle.p4_rules.specs.declared.types.SourceType.TheVariants.{Bit, Signed, Integer, BitEnumeration}
use Rattle.p4_rules.specs.Scopes.{Scope, value_type}

-- "Compile-time known values": a constant has its value before any run. Each of the others has the place of its first part that
-- is no constant.
pub data Operand : Type 0 where
  -- a compile-time integer
  Whole : ℤ → Operand
  -- a constant of another type: its bits, in two's complement where it is signed, or the number of a member
  Fixed : SourceType → ℕ → Operand
  -- what a path leads to, and whether it may be assigned to
  Stored : SourceType → Bool → Path → Span → Operand
  -- the bits of what a path leads to from the high one down to the low one, and whether they may be assigned to
  Sliced : Bool → Path → (high low : ℕ) → Span → Operand
  Computed : SourceType → CoreExpression → Span → Operand

-- an operand, and the first token of it within all parentheses, where it is refused
pub record Placed : Type 0 where
  pub operand : Operand
  pub place : Span

abbrev pub type_of : Operand → SourceType
type_of (Whole z) = Integer
type_of (Fixed t v) = t
type_of (Stored t writable path at) = t
type_of (Sliced writable path high low at) = Bit (high - low + 1)
type_of (Computed t e at) = t

-- the first part that is no constant
abbrev pub varies_at : Operand → Option Span
varies_at (Whole z) = None
varies_at (Fixed t v) = None
varies_at (Stored t writable path at) = Some at
varies_at (Sliced writable path high low at) = Some at
varies_at (Computed t e at) = Some at

-- the first part that is no constant, or this place where the operand is one
abbrev pub varying_or : Span → Operand → Span
varying_or place x = unwrap_or (varies_at x) place

abbrev pub scalar_in : ValueType → Scalar
scalar_in (value.Simple s) = s
scalar_in _ = scalar.Sized 1

abbrev pub scalar_of : Scope → SourceType → Scalar
scalar_of Γ t = scalar_in (value_type Γ t)

-- The expression of a value in a run. A compile-time integer has a sized type before it gets there; alone it stands as an
-- amount, by the bits of the widest number.
abbrev pub core_of : Scope → Operand → CoreExpression
core_of Γ (Whole z) = core.Constant (scalar.Sized 128) (wrapped 128 z)
core_of Γ (Fixed t v) = core.Constant (scalar_of Γ t) v
core_of Γ (Stored t writable path at) = core.Read path
core_of Γ (Sliced writable path high low at) = core.Slice (core.Read path) high low
core_of Γ (Computed t e at) = e

-- the operand as a value of this type with the same bits, which is not assignable
abbrev pub retyped : Scope → SourceType → Operand → Operand
retyped Γ t (Whole z) = Whole z
retyped Γ t (Fixed u v) = Fixed t v
retyped Γ t (Stored u writable path at) = Computed t (core.Read path) at
retyped Γ t (Sliced writable path high low at) = Computed t (core.Slice (core.Read path) high low) at
retyped Γ t (Computed u e at) = Computed t e at

-- the number of a constant of a type of bits
abbrev pub number_in : SourceType → ℕ → Option ℤ
number_in (Bit w) v = Some (pos v)
number_in (Signed w) v = Some (signed_value w v)
number_in (BitEnumeration n w) v = Some (pos v)
number_in _ v = None

-- the number of a constant, where the operand is a constant number
abbrev pub constant_number : Operand → Option ℤ
constant_number (Whole z) = Some z
constant_number (Fixed t v) = number_in t v
constant_number _ = None
