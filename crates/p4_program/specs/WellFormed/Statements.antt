-- Statements that fit where they stand (P4-16, "Statements", and v1model.p4).
use Rattle.std.specs.Prelude.{ℕ, zero, suc, ◌≡◌, ◌≢◌, ◌≤◌, ◌<◌, ◌+◌, ◌-◌, ◌%◌, sum, ⊤, List, length, Option, None, Some, slice_get, All, IsSomeAnd}
use Rattle.std.specs.List.{AllZip}
use Rattle.p4_program.specs.declared.typed.callables.Direction.TheVariants as direction
use Rattle.p4_program.specs.declared.typed.callables.Direction.{Direction}
use Rattle.p4_program.specs.declared.typed.callables.Parameter.{Parameter}
use Rattle.p4_program.specs.declared.typed.paths.Path.{Path}
use Rattle.p4_program.specs.declared.typed.paths.Root.{Root}
use Rattle.p4_program.specs.declared.typed.statements.Label.{Label}
use Rattle.p4_program.specs.declared.typed.statements.Label.TheVariants as label
use Rattle.p4_program.specs.declared.typed.types.Scalar.TheVariants.{Members}
use Rattle.p4_program.specs.declared.typed.types.ValueType.{ValueType}
use Rattle.p4_program.specs.declared.typed.types.ValueType.TheVariants.{Simple, Header, Stack, Struct}
use Rattle.p4_program.specs.Syntax.Callables.{CoreAction, CoreControl}
use Rattle.p4_program.specs.Syntax.Expressions.{CoreExpression}
use Rattle.p4_program.specs.Syntax.Lookup.{action_at, control_at}
use Rattle.p4_program.specs.Syntax.Programs.{CoreProgram}
use Rattle.p4_program.specs.Syntax.Statements.{CoreArgument, CoreWork, CoreStatement, CoreStatements, CoreCases, NoStatements, Then, NoCases, Case}
use Rattle.p4_program.specs.Syntax.Statements as core
use Rattle.p4_program.specs.WellFormed.Expressions.{Has}
use Rattle.p4_program.specs.WellFormed.Paths.{Scope, BodyKind, ParserBody, ControlBody, variable_at, Assignable, Extractable}
use Rattle.p4_program.specs.WellFormed.Types.{bits, boolean, standard_metadata}

-- a path that is passed for a parameter of this type
pub record PassedTo (s : Scope) (t : ValueType) (path : Path) : Type 0 where
  pub assignable : Assignable s path
  pub type_is : path.value_type ≡ t

-- what is passed has the direction of the parameter
abbrev pub ArgumentHas : Scope → Direction → ValueType → CoreArgument → Type 0
ArgumentHas s direction.In t (core.In e) = Has s e t
ArgumentHas s direction.Out t (core.Out path) = PassedTo s t path
ArgumentHas s direction.InOut t (core.InOut path) = PassedTo s t path
ArgumentHas s _ t _ = ⊥

abbrev pub ArgumentsHave : Scope → List Parameter → List CoreArgument → Type 0
ArgumentsHave s ps arguments = AllZip (λ p a. ArgumentHas s p.direction p.value_type a) ps arguments

-- an action is called where no control declares it, or the one around the call
abbrev pub Visible : (declared here : Option ℕ) → Type 0
Visible None here = ⊤
Visible (Some control) here = here ≡ Some control

abbrev pub NotInParser : BodyKind → Type 0
NotInParser kind = kind ≢ ParserBody

-- calls go down
pub record CallFits (s : Scope) (action : ℕ) (arguments : List CoreArgument) : Type 0 where
  pub place : NotInParser s.kind
  pub earlier : action < s.number
  pub callee : CoreAction
  pub is : action_at s.program action ≡ Some callee
  pub visible : Visible callee.within s.within
  pub arguments_have : ArgumentsHave s callee.parameters arguments

pub record ApplyFits (s : Scope) (child : ℕ) (arguments : List CoreArgument) : Type 0 where
  pub place : s.kind ≡ ControlBody
  pub control : ℕ
  pub child_is : slice_get s.children child ≡ Some control
  pub earlier : control < s.number
  pub callee : CoreControl
  pub is : control_at s.program control ≡ Some callee
  pub arguments_have : ArgumentsHave s callee.parameters arguments

pub record TableApplyFits (s : Scope) (table : ℕ) : Type 0 where
  pub place : s.kind ≡ ControlBody
  pub table_is : table < length s.tables

pub record AssignFits (s : Scope) (path : Path) (e : CoreExpression) : Type 0 where
  pub assignable : Assignable s path
  pub value_has : Has s e path.value_type

pub record SliceAssignFits (s : Scope) (path : Path) (high low : ℕ) (e : CoreExpression) : Type 0 where
  pub assignable : Assignable s path
  pub width : ℕ
  pub type_is : path.value_type ≡ bits width
  pub in_order : low ≤ high
  pub within : high < width
  pub value_has : Has s e (bits (high - low + 1))

pub record HeaderPath (s : Scope) (path : Path) : Type 0 where
  pub assignable : Assignable s path
  pub header : ℕ
  pub type_is : path.value_type ≡ Header header

pub record StackPath (s : Scope) (path : Path) : Type 0 where
  pub place : NotInParser s.kind
  pub assignable : Assignable s path
  pub header : ℕ
  pub size : ℕ
  pub type_is : path.value_type ≡ Stack header size

pub record ExtractFits (s : Scope) (path : Path) : Type 0 where
  pub place : s.kind ≡ ParserBody
  pub extractable : Extractable s path
  pub header : ℕ
  pub type_is : path.value_type ≡ Header header

-- "Skipping bits", by whole bytes
pub record AdvanceFits (s : Scope) (count : ℕ) : Type 0 where
  pub place : s.kind ≡ ParserBody
  pub whole_bytes : count % 8 ≡ 0

pub record VerifyFits (s : Scope) (condition error : CoreExpression) : Type 0 where
  pub place : s.kind ≡ ParserBody
  pub condition_has : Has s condition boolean
  pub error_has : Has s error (Simple (Members s.program.errors))

-- What holds headers and nothing else, down to this depth of structs. A struct has fields of structs before it, so that its
-- number bounds the depth.
abbrev pub HoldsHeaders : ℕ → CoreProgram → ValueType → Type 0
HoldsHeaders depth p (Simple scalar) = ⊥
HoldsHeaders depth p (Header number) = ⊤
HoldsHeaders depth p (Stack number size) = ⊤
HoldsHeaders zero p (Struct number) = ⊥
HoldsHeaders (suc depth) p (Struct number) = IsSomeAnd (slice_get p.structs number) (λ t. All (HoldsHeaders depth p) t.fields)

pub record EmitFits (s : Scope) (e : CoreExpression) : Type 0 where
  pub place : NotInParser s.kind
  pub type : ValueType
  pub value_has : Has s e type
  pub holds_headers : HoldsHeaders (length s.program.structs) s.program type

pub record HasSome (s : Scope) (e : CoreExpression) : Type 0 where
  pub type : ValueType
  pub value_has : Has s e type

pub record StandardPath (s : Scope) (path : Path) : Type 0 where
  pub assignable : Assignable s path
  pub type_is : path.value_type ≡ standard_metadata

-- the data of a checksum are numbers of these widths, which make whole words of 16 bits
pub record DataFits (s : Scope) (es : List CoreExpression) : Type 0 where
  pub widths : List ℕ
  pub data_have : AllZip (λ e width. Has s e (bits width)) es widths
  pub some_bit : 1 ≤ sum widths
  pub whole_words : sum widths % 16 ≡ 0

pub record ChecksumFits (s : Scope) (condition : CoreExpression) (es : List CoreExpression) : Type 0 where
  pub place : s.kind ≢ ParserBody
  pub condition_has : Has s condition boolean
  pub data_fit : DataFits s es

pub record SizedPath (s : Scope) (path : Path) (width : ℕ) : Type 0 where
  pub assignable : Assignable s path
  pub type_is : path.value_type ≡ bits width

pub record RandomFits (s : Scope) (path : Path) (low high : CoreExpression) : Type 0 where
  pub width : ℕ
  pub target : SizedPath s path width
  pub low_has : Has s low (bits width)
  pub high_has : Has s high (bits width)

pub record MeterFits (s : Scope) (index : CoreExpression) (path : Path) : Type 0 where
  pub width : ℕ
  pub target : SizedPath s path width
  pub index_has : Has s index (bits 32)

abbrev pub WorkFits : Scope → CoreWork → Type 0
WorkFits s (core.Assign path e) = AssignFits s path e
WorkFits s (core.AssignSlice path high low e) = SliceAssignFits s path high low e
WorkFits s core.Return = NotInParser s.kind
WorkFits s core.Exit = NotInParser s.kind
WorkFits s (core.CallAction action arguments) = CallFits s action arguments
WorkFits s (core.ApplyTable table) = TableApplyFits s table
WorkFits s (core.ApplyControl child arguments) = ApplyFits s child arguments
WorkFits s (core.SetValid path) = HeaderPath s path
WorkFits s (core.SetInvalid path) = HeaderPath s path
WorkFits s (core.PushFront path count) = StackPath s path
WorkFits s (core.PopFront path count) = StackPath s path
WorkFits s (core.Extract path) = ExtractFits s path
WorkFits s (core.Advance count) = AdvanceFits s count
WorkFits s (core.Verify condition error) = VerifyFits s condition error
WorkFits s (core.Emit e) = EmitFits s e
WorkFits s (core.Evaluate es) = All (HasSome s) es
WorkFits s (core.MarkToDrop path) = StandardPath s path
WorkFits s (core.VerifyChecksum condition es expected algorithm) = ChecksumFits s condition es × Has s expected (bits 16)
WorkFits s (core.UpdateChecksum condition es path algorithm) = ChecksumFits s condition es × SizedPath s path 16
WorkFits s (core.Random path low high) = RandomFits s path low high
WorkFits s (core.ExecuteMeter index path) = MeterFits s index path

-- a declared variable is written, and its value has its type
pub record DeclareFits (s : Scope) (root : Root) (t : ValueType) (value : Option CoreExpression) : Type 0 where
  pub variable : IsSomeAnd (variable_at s root) (λ v. v.value_type ≡ t)
  pub value_has : (e : CoreExpression) → value ≡ Some e → Has s e t

-- a label of this table
abbrev pub LabelFits : Scope → ℕ → Label → Type 0
LabelFits s table (label.Listed place) = IsSomeAnd (slice_get s.tables table) (λ t. place < length t.actions)
LabelFits s table label.Default = ⊤

pub record IfFits (s : Scope) (condition : CoreExpression) (Yes No : Type 0) : Type 0 where
  pub condition_has : Has s condition boolean
  pub first : Yes
  pub second : No

abbrev mutual
  pub Fits : Scope → CoreStatement → Type 0
  Fits s (core.Numbered number place work) = WorkFits s work
  Fits s (core.Declare root t value) = DeclareFits s root t value
  Fits s (core.If place condition a b) = IfFits s condition (AllFit s a) (AllFit s b)
  Fits s (core.Switch table cases) = TableApplyFits s table × CasesFit s table cases

  pub AllFit : Scope → CoreStatements → Type 0
  AllFit s NoStatements = ⊤
  AllFit s (Then statement rest) = Fits s statement × AllFit s rest

  pub CasesFit : Scope → ℕ → CoreCases → Type 0
  CasesFit s table NoCases = ⊤
  CasesFit s table (Case labels body rest) = All (LabelFits s table) labels × AllFit s body × CasesFit s table rest
