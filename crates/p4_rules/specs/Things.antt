-- What an expression stands for: a value, or something that has none by itself, as a method before its arguments.
use Rattle.std.specs.Prelude.{ℕ, ◌==◌, List, [], ◌∷◌, ◌++◌, Bool, ◌&&◌, ◌||◌, Option, None, Some, Result, ℤ, pos, codes, if◌then◌else◌, slice_get}
use Rattle.std.specs.Str.{bytes_eq}
use Rattle.std.specs.Map.{lookup}
use Rattle.std.specs.List.{position}
use Rattle.std.specs.Option.{option_map}
use Rattle.bits_core.specs.declared.operator.Op.TheVariants as op
use Rattle.tg_base.specs.declared.literal.IntType.{IntType}
use Rattle.tg_base.specs.declared.literal.IntType.TheVariants as int
use Rattle.tg_base.specs.declared.literal.IntValue.{IntValue}
use Rattle.tg_base.specs.declared.literal.IntValue.TheVariants as exact
use Rattle.tg_base.specs.declared.literal.Literal.{Literal}
use Rattle.tg_base.specs.declared.place.Span.{Span}
use Rattle.tg_base.specs.declared.place.Code.TheVariants as code
use Rattle.p4_tree.specs.declared.names.Name.{Name}
use Rattle.p4_program.specs.declared.typed.paths.Path.{Path}
use Rattle.p4_program.specs.declared.typed.paths.Step.{Step}
use Rattle.p4_program.specs.declared.typed.paths.Step.TheVariants as step
use Rattle.p4_program.specs.declared.typed.paths.Root.{Root}
use Rattle.p4_program.specs.declared.typed.types.ValueType.{ValueType}
use Rattle.p4_program.specs.Syntax.Expressions.{CoreExpression}
use Rattle.p4_program.specs.Syntax.Expressions as core
use Rattle.p4_program.specs.Syntax.Statements.{CoreWork}
use Rattle.p4_rules.specs.declared.faults.Pass.TheVariants.{Folding, Checking}
use Rattle.p4_rules.specs.Faults.{Checked, Right, fault_at, provided, and_then, made_of}
use Rattle.p4_rules.specs.declared.faults.Fault.{Fault}
use Rattle.p4_rules.specs.Integers.{fits_bit, fits_int}
use Rattle.p4_rules.specs.declared.types.SourceType.{SourceType}
use Rattle.p4_rules.specs.declared.types.FieldOf.{FieldOf}
use Rattle.p4_rules.specs.declared.types.Object.TheVariants.{PacketIn, PacketOut, Counter, DirectCounter, Meter, ParserType, ControlType}
use Rattle.p4_rules.specs.declared.types.SourceType.TheVariants.{Bit, Signed, Boolean, Error, Enumeration, BitEnumeration, Structure, Header, Stack, Opaque}
use Rattle.p4_rules.specs.Types.{field_place}
use Rattle.p4_rules.specs.declared.scopes.Function.TheVariants.{LeftOut}
use Rattle.p4_rules.specs.Scopes.{Scope, is_in_parser, Meaning, IntegerOf, ConstantOf, VariableOf, ObjectOf, TableOf, InstanceOf, FunctionOf, value_type, listed}
use Rattle.p4_rules.specs.Operands.{Operand, Whole, Fixed, Stored, Computed, Placed, type_of, varying_or, core_of, constant_number}
use Rattle.p4_rules.specs.Casts.{typing_fault, constant_fault}

-- what may be called behind a `.`
pub data Method : Type 0 where
  -- of a header, and of a stack with its element
  IsValid SetValid SetInvalid : Operand → Method
  PushFront PopFront : Operand → Method
  -- of a packet that is read, and of one that is written
  Extract Advance : Method
  Lookahead : SourceType → Method
  Emit : Method
  -- of externs
  Count CountDirect ExecuteMeter : Method
  -- of a table, and of an instance of a control
  ApplyTable : ℕ → Method
  ApplyControl : ℕ → ℕ → Method

pub data Thing : Type 0 where
  Value : Operand → Thing
  -- a type's name before a `.`, and `error` there
  TypeName : SourceType → Thing
  Errors : Thing
  -- a name that has no value
  Named : Meaning → Thing
  MethodOf : Method → Thing
  -- the element of a stack that is filled next, and whether it may be assigned to
  NextOf : SourceType → Bool → Path → Thing
  -- `t.apply()`, and the action that it ran
  Applied ActionRun : ℕ → Thing
  -- a call that is a statement
  WorkOf : CoreWork → Thing
  Text : Thing
  -- a list in braces, which checksums and `log_msg` take alone: the value of each part, or why it has none
  Braced : List (Result Placed Fault) → Thing

-- what an expression stands for, and its first token within all parentheses
pub record Judged : Type 0 where
  pub thing : Thing
  pub place : Span

abbrev pub value_at : Span → Operand → Judged
value_at place x = record { thing = Value x; place = place }

-- what stands where it cannot: a list is left out, and anything else has no type that fits
abbrev pub misfit : {X : Type 0} → Span → Thing → Checked X
misfit place (Braced values) = fault_at Checking code.Unsupported place
misfit place _ = typing_fault place

abbrev pub thing_value : Span → Thing → Checked Placed
thing_value place (Value x) = Right (record { operand = x; place = place })
thing_value place thing = misfit place thing

-- the value, where there is one
abbrev pub value_of : Judged → Checked Placed
value_of j = thing_value j.place j.thing

abbrev pub constant_in : Scope → Span → Operand → Option ℤ → Checked ℤ
constant_in Γ place x (Some z) = Right z
constant_in Γ place (Fixed t v) None = typing_fault place
constant_in Γ place x None = constant_fault Γ (varying_or place x)

-- A constant number: a compile-time integer, or a constant of bits. What is no constant is refused at its first part that is
-- none.
abbrev pub number_of : Scope → Judged → Checked ℤ
number_of Γ j = and_then (value_of j) (λ p. constant_in Γ p.place p.operand (constant_number p.operand))

-- "Integer literals": a number past the type of its prefix, or past 128 bits, is refused when constants are folded
abbrev pub literal_in : IntType → ℕ → Span → Checked Operand
literal_in int.Integer v place = Right (Whole (pos v))
literal_in (int.Unsigned w) v place = provided (fits_bit w (pos v)) Folding code.Constant place (Fixed (Bit w) v)
literal_in (int.Signed w) v place = provided (fits_int w (pos v)) Folding code.Constant place (Fixed (Signed w) v)

abbrev pub literal_at : IntType → IntValue → Span → Checked Operand
literal_at type_of (exact.Exact v) place = literal_in type_of v place
literal_at type_of exact.TooLarge place = fault_at Folding code.Constant place

abbrev pub literal : Literal → Span → Checked Judged
literal l place = made_of (value_at place) (literal_at l.int_type l.value place)

-- the path of a variable
abbrev pub path_of : Scope → SourceType → Root → Path
path_of Γ t root = record { root = root; steps = []; value_type = value_type Γ t }

-- what a name stands for as an expression; a function that this profile leaves out is refused at its name
abbrev pub thing_of : Scope → Span → Meaning → Checked Thing
thing_of Γ place (IntegerOf z) = Right (Value (Whole z))
thing_of Γ place (ConstantOf t v) = Right (Value (Fixed t v))
thing_of Γ place (VariableOf t writable root) = Right (Value (Stored t writable (path_of Γ t root) place))
thing_of Γ place (FunctionOf LeftOut) = fault_at Checking code.Unsupported place
thing_of Γ place m = Right (Named m)

-- one step further on a path, to a value of this type
abbrev pub step_on : Step → ValueType → Path → Path
step_on s t path = record { root = path.root; steps = path.steps ++ s ∷ []; value_type = t }

-- a part of what a path leads to has a path; a part of any other value is read from the whole value
abbrev pub step_from : Scope → Step → SourceType → Operand → Operand
step_from Γ s t (Stored u writable path at) = Stored t writable (step_on s (value_type Γ t) path) at
step_from Γ s t (Computed u e at) = Computed t (core.PartOf e s) at
step_from Γ s t x = x

-- whether a header is valid, which of a path reads nothing
abbrev pub validity_of : Scope → Operand → CoreExpression
validity_of Γ (Stored t writable path at) = core.IsValid path
validity_of Γ x = core.ValidityOf (core_of Γ x)

abbrev pub numbered_field : Option ℕ → List FieldOf → Option (ℕ × SourceType)
numbered_field None fields = None
numbered_field (Some k) fields = option_map (λ field. (k, field.type_of)) (slice_get fields k)

abbrev pub field_in : List FieldOf → List ℕ → Option (ℕ × SourceType)
field_in fields name = numbered_field (field_place fields name) fields

abbrev pub unknown_member : {X : Type 0} → Scope → Name → Checked X
unknown_member Γ name = fault_at Γ.pass code.Name name.span

-- "Operations on struct types", "Operations on headers": a field
abbrev pub field_or : Scope → Operand → Option (ℕ × SourceType) → Checked Thing → Checked Thing
field_or Γ x (Some (k, t)) other = Right (Value (step_from Γ (step.Field k) t x))
field_or Γ x None other = other

-- "Operations on headers"
abbrev pub header_method : Scope → Operand → Name → Checked Thing
header_method Γ x name =
    if bytes_eq name.text (codes "isValid") then Right (MethodOf (IsValid x))
    else (if bytes_eq name.text (codes "setValid") then Right (MethodOf (SetValid x))
    else (if bytes_eq name.text (codes "setInvalid") then Right (MethodOf (SetInvalid x))
    else unknown_member Γ name))

abbrev pub next_of : Scope → ℕ → Span → Operand → Checked Thing
next_of Γ n place (Stored t writable path at) = Right (NextOf (Header n) writable (step_on step.Next (value_type Γ (Header n)) path))
next_of Γ n place x = typing_fault place

-- the element that was filled last, in a parser alone
abbrev pub last_of : Scope → ℕ → Span → Operand → Checked Thing
last_of Γ n place x = provided (is_in_parser Γ.here) Checking code.Typing place (Value (step_from Γ step.Last (Header n) x))

-- "Operations on header stacks"
abbrev pub stack_member : Scope → ℕ → Span → Operand → Name → Checked Thing
stack_member Γ n place x name =
    if bytes_eq name.text (codes "next") then next_of Γ n place x
    else (if bytes_eq name.text (codes "last") then last_of Γ n place x
    else (if bytes_eq name.text (codes "push_front") then Right (MethodOf (PushFront x))
    else (if bytes_eq name.text (codes "pop_front") then Right (MethodOf (PopFront x))
    else (if bytes_eq name.text (codes "lastIndex") then fault_at Checking code.Unsupported place
    else unknown_member Γ name))))

-- what stands behind the `.` of a value, by its type
abbrev pub value_member : Scope → SourceType → Span → Operand → Name → Checked Thing
value_member Γ (Structure n) place x name =
    field_or Γ x (field_in (listed (slice_get Γ.structs n)) name.text) (unknown_member Γ name)
value_member Γ (Header n) place x name =
    field_or Γ x (field_in (listed (slice_get Γ.headers n)) name.text) (header_method Γ x name)
value_member Γ (Stack n size) place x name = stack_member Γ n place x name
value_member Γ t place x name = unknown_member Γ name

abbrev pub member_in : Scope → Name → Option Meaning → Checked Thing
member_in Γ name None = unknown_member Γ name
member_in Γ name (Some m) = thing_of Γ name.span m

-- the members of an enumeration, by its number
abbrev pub members_of : Scope → ℕ → List (List ℕ × Meaning)
members_of Γ n = listed (slice_get Γ.enumerations n)

abbrev pub member_named : Scope → ℕ → List ℕ → Option Meaning
member_named Γ n name = lookup (λ other. bytes_eq other name) (members_of Γ n)

abbrev pub type_apply : Scope → Span → Name → Checked Thing
type_apply Γ place name =
    if bytes_eq name.text (codes "apply") then fault_at Checking code.Unsupported place else unknown_member Γ name

-- "Enumeration types": what stands behind the `.` of a type's name. The algorithms that this profile leaves out are refused at
-- `HashAlgorithm`, and `apply` of a control's or a parser's type at that type.
abbrev pub type_member : Scope → SourceType → Span → Name → Checked Thing
type_member Γ (Enumeration n) place name =
    if (n == 0) && (bytes_eq name.text (codes "crc16") || bytes_eq name.text (codes "crc32")) then fault_at Checking code.Unsupported place
    else member_in Γ name (member_named Γ n name.text)
type_member Γ (BitEnumeration n w) place name = member_in Γ name (member_named Γ n name.text)
type_member Γ (Opaque (ControlType n)) place name = type_apply Γ place name
type_member Γ (Opaque (ParserType n)) place name = type_apply Γ place name
type_member Γ t place name = unknown_member Γ name

-- "The error type"
abbrev pub error_member : Scope → Name → Option ℕ → Checked Thing
error_member Γ name (Some k) = Right (Value (Fixed Error k))
error_member Γ name None = unknown_member Γ name

-- the methods of externs, of a table and of an instance
abbrev pub method_named : Scope → Name → List ℕ → Method → Checked Thing
method_named Γ name own m = if bytes_eq name.text own then Right (MethodOf m) else unknown_member Γ name

abbrev pub named_member : Scope → Meaning → Name → Checked Thing
named_member Γ (ObjectOf PacketIn) name =
    if bytes_eq name.text (codes "extract") then Right (MethodOf Extract) else method_named Γ name (codes "advance") Advance
named_member Γ (ObjectOf PacketOut) name = method_named Γ name (codes "emit") Emit
named_member Γ (ObjectOf Counter) name = method_named Γ name (codes "count") Count
named_member Γ (ObjectOf DirectCounter) name = method_named Γ name (codes "count") CountDirect
named_member Γ (ObjectOf Meter) name = method_named Γ name (codes "execute_meter") ExecuteMeter
named_member Γ (TableOf n) name = method_named Γ name (codes "apply") (ApplyTable n)
named_member Γ (InstanceOf n control) name = method_named Γ name (codes "apply") (ApplyControl n control)
named_member Γ m name = unknown_member Γ name

-- "Match-action unit invocation": what an application of a table tells
abbrev pub applied_member : Scope → ℕ → Span → Name → Checked Thing
applied_member Γ n place name =
    if bytes_eq name.text (codes "hit") then Right (Value (Computed Boolean (core.Hit n) place))
    else (if bytes_eq name.text (codes "miss") then Right (Value (Computed Boolean (core.Unary op.Not (core.Hit n)) place))
    else (if bytes_eq name.text (codes "action_run") then Right (ActionRun n)
    else unknown_member Γ name))

-- what stands behind a `.`
abbrev pub member_of : Scope → Thing → Span → Name → Checked Thing
member_of Γ (Value x) place name = value_member Γ (type_of x) place x name
member_of Γ (TypeName t) place name = type_member Γ t place name
member_of Γ Errors place name = error_member Γ name (position (λ other. bytes_eq other name.text) Γ.errors)
member_of Γ (Named m) place name = named_member Γ m name
member_of Γ (Applied n) place name = applied_member Γ n place name
member_of Γ (Braced values) place name = fault_at Checking code.Unsupported place
member_of Γ _ place name = unknown_member Γ name

abbrev pub lookahead_of : Scope → Thing → SourceType → Span → Checked Thing
lookahead_of Γ (Named (ObjectOf PacketIn)) t word = Right (MethodOf (Lookahead t))
lookahead_of Γ _ t word = fault_at Γ.pass code.Name word
