-- Names and scopes: what a name stands for, and where it is found.
use Rattle.std.specs.Prelude.{true, false, ℕ, ◌==◌, List, [], ◌∷◌, ◌++◌, map, Bool, Option, None, Some, Result, ℤ, is_some, length, if◌then◌else◌, slice_get}
use Rattle.std.specs.Str.{bytes_eq}
use Rattle.std.specs.Map.{lookup}
use Rattle.tg_base.specs.declared.place.Span.{Span}
use Rattle.tg_base.specs.declared.place.Code.TheVariants as code
use Rattle.p4_tree.specs.declared.names.Name.{Name}
use Rattle.p4_program.specs.declared.typed.paths.Root.{Root}
use Rattle.p4_program.specs.declared.typed.types.HeaderType.{HeaderType}
use Rattle.p4_program.specs.declared.typed.types.Scalar.TheVariants as scalar
use Rattle.p4_program.specs.declared.typed.types.StructType.{StructType}
use Rattle.p4_program.specs.declared.typed.types.ValueType.{ValueType}
use Rattle.p4_program.specs.declared.typed.types.ValueType.TheVariants as value
use Rattle.p4_rules.specs.Chains.{Depths}
use Rattle.p4_rules.specs.declared.faults.Pass.{Pass}
use Rattle.p4_rules.specs.declared.faults.Pass.TheVariants.{Folding, Checking}
use Rattle.p4_rules.specs.declared.faults.Fault.{Fault}
use Rattle.p4_rules.specs.Faults.{Checked, Right, Wrong, fault_at, told, of_told}
use Rattle.p4_rules.specs.declared.scopes.Function.{Function}
use Rattle.p4_rules.specs.declared.scopes.Here.{Here}
use Rattle.p4_rules.specs.declared.scopes.Here.TheVariants.{InParser, InControl, InAction}
use Rattle.p4_rules.specs.declared.scopes.ParameterShape.{ParameterShape}
use Rattle.p4_rules.specs.declared.scopes.Allowed.{Allowed}
use Rattle.p4_rules.specs.declared.types.SourceType.{SourceType}
use Rattle.p4_rules.specs.declared.types.Object.{Object}
use Rattle.p4_rules.specs.declared.types.FieldOf.{FieldOf}
use Rattle.p4_rules.specs.Types.{header_bits}
use Rattle.p4_rules.specs.declared.types.SourceType.TheVariants.{Bit, Signed, Boolean, Error, Enumeration, BitEnumeration, Structure, Header, Stack}

-- what a name stands for
pub data Meaning : Type 0 where
  -- a type, an extern, a parser, a control or the package
  TypeOf : SourceType → Meaning
  -- a compile-time integer, and a constant of another type by its bits or by the number of its member
  IntegerOf : ℤ → Meaning
  ConstantOf : SourceType → ℕ → Meaning
  -- a variable or a parameter, whether it may be assigned to, and its place
  VariableOf : SourceType → Bool → Root → Meaning
  -- a packet, or an instance of an extern
  ObjectOf : Object → Meaning
  -- an action, by its number among the callables
  ActionOf : ℕ → Meaning
  -- a table of the control by its number there
  TableOf : ℕ → Meaning
  -- an instance of a control by its number there, with the number of the control
  InstanceOf : ℕ → ℕ → Meaning
  FunctionOf : Function → Meaning
  -- a state of the parser, by its number
  StateOf : ℕ → Meaning

-- The names of one scope in order. A name whose declaration is faulty has the first fault of the declaration, and so has
-- whatever uses it: no further ones.
abbrev pub Names : Type 0
Names = List (List ℕ × Result Meaning Fault)

abbrev pub is_in_parser : Here → Bool
is_in_parser InParser = true
is_in_parser _ = false

-- in the body of a control, and there or in an action
abbrev pub is_in_control : Here → Bool
is_in_control InControl = true
is_in_control _ = false

abbrev pub is_in_control_or_action : Here → Bool
is_in_control_or_action InControl = true
is_in_control_or_action InAction = true
is_in_control_or_action _ = false

-- What is known where a part of a source stands.
pub record Scope : Type 0 where
  -- the fields of structs and headers and the members of enumerations with their values so far, by their numbers
  pub structs : List (List FieldOf)
  pub headers : List (List FieldOf)
  pub enumerations : List (List (List ℕ × Meaning))
  -- the errors so far, and how many the whole source has
  pub errors : List (List ℕ)
  pub error_count : ℕ
  -- the names at the top, and those of the scopes within, the innermost first
  pub top : Names
  pub inner : List Names
  -- the parameters of actions, parsers and controls, by their numbers among the callables
  pub shapes : List (ℕ × List ParameterShape)
  -- the actions that each table of the control lists, with their numbers
  pub table_actions : List (List (List ℕ × ℕ))
  -- the chains of calls below what may be called
  pub depths : Depths
  -- the pass in which a name or a constant is refused here
  pub pass : Pass
  pub here : Here
  pub allowed : Allowed
  -- the number of the next statement, the place of the next variable, the number of the next callable, and those of the next
  -- table and instance of the control
  pub statement : ℕ
  pub variable : ℕ
  pub callable : ℕ
  pub table : ℕ
  pub child : ℕ

-- the same place in the pass that folds constants
abbrev pub folding : Scope → Scope
folding Γ = record Γ { pass = Folding }

-- "Name resolution": the innermost scope that has the name decides
abbrev pub found_in : Names → List ℕ → Option (Result Meaning Fault)
found_in names name = lookup (λ other. bytes_eq other name) names

abbrev pub or_else : {X : Type 0} → Option X → Option X → Option X
or_else (Some x) other = Some x
or_else None other = other

abbrev pub found_within : List Names → List ℕ → Option (Result Meaning Fault)
found_within [] name = None
found_within (names ∷ outer) name = or_else (found_in names name) (found_within outer name)

-- a name that is not declared before its use is refused
abbrev pub declared_or : Pass → Span → Option (Result Meaning Fault) → Checked Meaning
declared_or pass place (Some meaning) = of_told meaning
declared_or pass place None = fault_at pass code.Name place

-- what a name stands for where a value may stand
abbrev pub meaning_of : Scope → Name → Checked Meaning
meaning_of Γ name = declared_or Γ.pass name.span (or_else (found_within Γ.inner name.text) (found_in Γ.top name.text))

-- What a type's name stands for. Types are declared at the top alone; a name that is not declared is refused when types are
-- checked.
abbrev pub type_meaning : Scope → Name → Checked Meaning
type_meaning Γ name = declared_or Checking name.span (found_in Γ.top name.text)

abbrev pub as_type : Span → Meaning → Checked SourceType
as_type place (TypeOf t) = Right t
as_type place _ = fault_at Checking code.Typing place

-- the names of the innermost scope
abbrev pub innermost : List Names → Names
innermost [] = []
innermost (names ∷ outer) = names

abbrev pub put_innermost : List Names → List ℕ → Checked Meaning → List Names
put_innermost [] name meaning = []
put_innermost (names ∷ outer) name meaning = (names ++ (name, told meaning) ∷ []) ∷ outer

-- "Scoping": a name is declared once in one scope. The fault of a second declaration is that of its name, and the first
-- declaration stays.
abbrev pub once : Names → Name → Checked (Unit {0})
once names name = if is_some (found_in names name.text) then fault_at Checking code.Name name.span else Right tt

-- the scope with one more name in its innermost part
abbrev pub with_name : Scope → List ℕ → Checked Meaning → Scope
with_name Γ name meaning =
    if is_some (found_in (innermost Γ.inner) name) then Γ else record Γ { inner = put_innermost Γ.inner name meaning }

-- the scope with one more name at the top
abbrev pub with_top_name : Scope → List ℕ → Checked Meaning → Scope
with_top_name Γ name meaning = if is_some (found_in Γ.top name) then Γ else record Γ { top = Γ.top ++ (name, told meaning) ∷ [] }

-- a new scope within
abbrev pub within : Scope → Scope
within Γ = record Γ { inner = [] ∷ Γ.inner }

abbrev pub listed : {X : Type 0} → Option (List X) → List X
listed None = []
listed (Some xs) = xs

-- the parameters of a callable
abbrev pub shapes_of : Scope → ℕ → List ParameterShape
shapes_of Γ n = listed (lookup (λ m. m == n) Γ.shapes)

abbrev pub more_shapes : ℕ → Checked (List ParameterShape) → Scope → Scope
more_shapes n (Right shapes) Γ = record Γ { shapes = (n, shapes) ∷ Γ.shapes }
more_shapes n (Wrong fault more) Γ = Γ

-- the type of a value in a run
abbrev pub value_type : Scope → SourceType → ValueType
value_type Γ (Bit w) = value.Simple (scalar.Sized w)
value_type Γ (Signed w) = value.Simple (scalar.Sized w)
value_type Γ Boolean = value.Simple (scalar.Sized 1)
value_type Γ Error = value.Simple (scalar.Members Γ.error_count)
value_type Γ (Enumeration n) = value.Simple (scalar.Members (length (listed (slice_get Γ.enumerations n))))
value_type Γ (BitEnumeration n w) = value.Simple (scalar.Sized w)
value_type Γ (Structure n) = value.Struct n
value_type Γ (Header n) = value.Header n
value_type Γ (Stack n size) = value.Stack n size
value_type Γ _ = value.Simple (scalar.Sized 1)

-- what a run needs of a header and of a struct
abbrev pub header_type : List FieldOf → HeaderType
header_type fields = record { widths = map (λ field. header_bits field.type_of) fields }

abbrev pub struct_type : Scope → List FieldOf → StructType
struct_type Γ fields = record { fields = map (λ field. value_type Γ field.type_of) fields }

-- the scope that knows the chains below a callable, a table or an instance
abbrev pub with_callable_depth : ℕ → ℕ → Scope → Scope
with_callable_depth n depth Γ = record Γ { depths = record (Γ.depths) { callables = (n, depth) ∷ Γ.depths.callables } }

abbrev pub with_table_depth : ℕ → ℕ → Scope → Scope
with_table_depth n depth Γ = record Γ { depths = record (Γ.depths) { tables = (n, depth) ∷ Γ.depths.tables } }

abbrev pub with_child_depth : ℕ → ℕ → Scope → Scope
with_child_depth n depth Γ = record Γ { depths = record (Γ.depths) { children = (n, depth) ∷ Γ.depths.children } }
