-- Paths that fit where they stand (P4-16, "L-values", "Operations on header stacks").
use Rattle.std.specs.Prelude.{ℕ, ◌≡◌, List, [], ◌∷◌, Bool, true, nat_lt, Option, Some, None, option_map, option_and_then, slice_get, if◌then◌else◌, ⊤, IsSomeAnd, All}
use Rattle.p4_program.specs.declared.typed.paths.Path.{Path}
use Rattle.p4_program.specs.declared.typed.paths.Root.{Root}
use Rattle.p4_program.specs.declared.typed.paths.Root.TheVariants.{OfBlock, OfAction}
use Rattle.p4_program.specs.declared.typed.paths.Step.{Step}
use Rattle.p4_program.specs.declared.typed.paths.Step.TheVariants.{Field, Element, Next, Last}
use Rattle.p4_program.specs.declared.typed.types.ValueType.{ValueType}
use Rattle.p4_program.specs.declared.typed.types.ValueType.TheVariants.{Header, Stack, Struct}
use Rattle.p4_program.specs.Syntax.Callables.{CoreTable}
use Rattle.p4_program.specs.Syntax.Programs.{CoreProgram}
use Rattle.p4_program.specs.WellFormed.Types.{bits}

-- what a body belongs to
pub data BodyKind : Type 0 where
  ParserBody : BodyKind
  ControlBody : BodyKind
  ActionBody : BodyKind

-- a place in a frame: its type, and whether it may be assigned, which an `in` parameter may not
pub record Variable : Type 0 where
  pub value_type : ValueType
  pub writable : Bool

-- Where a body stands: its program, the number of its callable, the control around it, the frames of that control or
-- parser and of the action, and the tables and children of the control.
pub record Scope : Type 0 where
  pub program : CoreProgram
  pub number : ℕ
  pub kind : BodyKind
  pub within : Option ℕ
  pub block : List Variable
  pub action : List Variable
  pub tables : List CoreTable
  pub children : List ℕ

-- the type of the part of a value that a step leads to
abbrev pub step_type : CoreProgram → Step → ValueType → Option ValueType
step_type p (Field n) (Struct k) = option_and_then (λ t. slice_get t.fields n) (slice_get p.structs k)
step_type p (Field n) (Header k) = option_and_then (λ t. option_map bits (slice_get t.widths n)) (slice_get p.headers k)
step_type p (Element n) (Stack k size) = if nat_lt n size then Some (Header k) else None
step_type p Next (Stack k size) = Some (Header k)
step_type p Last (Stack k size) = Some (Header k)
step_type p _ _ = None

abbrev pub type_along : CoreProgram → List Step → ValueType → Option ValueType
type_along p [] t = Some t
type_along p (step ∷ steps) t = option_and_then (λ u. type_along p steps u) (step_type p step t)

abbrev pub variable_at : Scope → Root → Option Variable
variable_at s (OfBlock n) = slice_get s.block n
variable_at s (OfAction n) = slice_get s.action n

-- the path leads from a variable to a value of its type
abbrev pub Leads : Scope → Path → Type 0
Leads s path = IsSomeAnd (variable_at s path.root) (λ v. type_along s.program path.steps v.value_type ≡ Some path.value_type)

-- the path begins with a variable that may be assigned
abbrev pub IsWritable : Scope → Path → Type 0
IsWritable s path = IsSomeAnd (variable_at s path.root) (λ v. v.writable ≡ true)

-- `next` stands in the argument of `extract` alone, and `last` in parsers
abbrev pub StepAllowed : BodyKind → Step → Type 0
StepAllowed kind (Field n) = ⊤
StepAllowed kind (Element n) = ⊤
StepAllowed kind Next = ⊥
StepAllowed kind Last = kind ≡ ParserBody

-- a path whose value is read
pub record Readable (s : Scope) (path : Path) : Type 0 where
  pub leads : Leads s path
  pub steps_allowed : All (StepAllowed s.kind) path.steps

-- a path that is assigned
pub record Assignable (s : Scope) (path : Path) : Type 0 where
  pub readable : Readable s path
  pub writable : IsWritable s path

-- the steps before the last one, where that is `next`
abbrev pub before_next : List Step → List Step
before_next [] = []
before_next (Next ∷ []) = []
before_next (step ∷ steps) = step ∷ before_next steps

-- "Data extraction": a path that is extracted into
pub record Extractable (s : Scope) (path : Path) : Type 0 where
  pub leads : Leads s path
  pub steps_allowed : All (StepAllowed s.kind) (before_next path.steps)
  pub writable : IsWritable s path
