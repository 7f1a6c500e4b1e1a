-- Expressions that fit where they stand, with their types (P4-16, "Expressions").
use Rattle.std.specs.Prelude.{ℕ, ◌≡◌, ◌≢◌, ◌≤◌, ◌<◌, ◌+◌, ◌-◌, ◌^◌, length, Option, Some}
use Rattle.bits_core.specs.declared.operator.Op.{Op}
use Rattle.bits_core.specs.declared.operator.Op.TheVariants as op
use Rattle.bits_core.specs.declared.operator.OpShape.TheVariants.{One}
use Rattle.bits_core.specs.Operator.{shape_of, WidthsFit, result_width}
use Rattle.p4_program.specs.declared.typed.expressions.Operator.{Operator}
use Rattle.p4_program.specs.declared.typed.expressions.Operator.TheVariants.{Plain, NotEqual, GreaterU, GreaterS, AtLeastU, AtLeastS, LogicalAnd, LogicalOr}
use Rattle.p4_program.specs.declared.typed.paths.Path.{Path}
use Rattle.p4_program.specs.declared.typed.paths.Step.{Step}
use Rattle.p4_program.specs.declared.typed.types.Scalar.{Scalar}
use Rattle.p4_program.specs.declared.typed.types.Scalar.TheVariants.{Sized, Members}
use Rattle.p4_program.specs.declared.typed.types.ValueType.{ValueType}
use Rattle.p4_program.specs.declared.typed.types.ValueType.TheVariants.{Simple, Header}
use Rattle.p4_program.specs.Syntax.Expressions.{CoreExpression, CoreOperations, Constant, Read, IsValid, Lookahead, Unary, Operations, Slice, Resize, Choice, PartOf, ValidityOf, Hit, NoOperations, Behind}
use Rattle.p4_program.specs.WellFormed.Paths.{Scope, ParserBody, ControlBody, Readable, step_type, StepAllowed}
use Rattle.p4_program.specs.WellFormed.Types.{WidthFits, ScalarFits, bits, boolean}

-- a number of bits, or the number of a member
abbrev pub ValueFits : Scalar → ℕ → Type 0
ValueFits (Sized width) value = value < 2 ^ width
ValueFits (Members count) value = value < count

pub record ConstantHas (scalar : Scalar) (value : ℕ) (t : ValueType) : Type 0 where
  pub scalar_fits : ScalarFits scalar
  pub value_fits : ValueFits scalar value
  pub type_is : t ≡ Simple scalar

pub record ReadHas (s : Scope) (path : Path) (t : ValueType) : Type 0 where
  pub readable : Readable s path
  pub type_is : t ≡ path.value_type

-- whether a header is valid, which is asked of a path to one
pub record IsValidHas (s : Scope) (path : Path) (t : ValueType) : Type 0 where
  pub readable : Readable s path
  pub header : ℕ
  pub is_header : path.value_type ≡ Header header
  pub type_is : t ≡ boolean

pub record LookaheadHas (s : Scope) (width : ℕ) (t : ValueType) : Type 0 where
  pub in_parser : s.kind ≡ ParserBody
  pub width_fits : WidthFits width
  pub type_is : t ≡ bits width

pub record UnaryHas (op : Op) (Operand : ValueType → Type 0) (t : ValueType) : Type 0 where
  pub shape : shape_of op ≡ One
  pub width : ℕ
  pub operand : Operand (bits width)
  pub type_is : t ≡ bits width

pub record SliceHas (Operand : ValueType → Type 0) (high low : ℕ) (t : ValueType) : Type 0 where
  pub width : ℕ
  pub operand : Operand (bits width)
  pub in_order : low ≤ high
  pub within : high < width
  pub type_is : t ≡ bits (high - low + 1)

pub record ResizeHas (Operand : ValueType → Type 0) (width : ℕ) (t : ValueType) : Type 0 where
  pub from : ℕ
  pub operand : Operand (bits from)
  pub width_fits : WidthFits width
  pub type_is : t ≡ bits width

pub record ChoiceHas (Condition Yes No : ValueType → Type 0) (t : ValueType) : Type 0 where
  pub condition : Condition boolean
  pub first : Yes t
  pub second : No t

-- a step from the value of an expression
pub record PartHas (s : Scope) (Whole : ValueType → Type 0) (step : Step) (t : ValueType) : Type 0 where
  pub whole_type : ValueType
  pub whole : Whole whole_type
  pub leads : step_type s.program step whole_type ≡ Some t
  pub step_allowed : StepAllowed s.kind step

pub record ValidityHas (Whole : ValueType → Type 0) (t : ValueType) : Type 0 where
  pub header : ℕ
  pub whole : Whole (Header header)
  pub type_is : t ≡ boolean

pub record HitHas (s : Scope) (table : ℕ) (t : ValueType) : Type 0 where
  pub in_control : s.kind ≡ ControlBody
  pub table_is : table < length s.tables
  pub type_is : t ≡ boolean

pub record OperationsHave (First : ValueType → Type 0) (Rest : ValueType → ValueType → Type 0) (t : ValueType) : Type 0 where
  pub first_type : ValueType
  pub first : First first_type
  pub rest : Rest first_type t

-- ---- operators of two operands, by the types of both and of the result

pub record EqualTypes (first second t : ValueType) : Type 0 where
  pub scalar : Scalar
  pub first_is : first ≡ Simple scalar
  pub second_is : second ≡ Simple scalar
  pub type_is : t ≡ boolean

-- two numbers of one width, of which a comparison is made
pub record ComparedTypes (first second t : ValueType) : Type 0 where
  pub width : ℕ
  pub first_is : first ≡ bits width
  pub second_is : second ≡ bits width
  pub type_is : t ≡ boolean

pub record LogicalTypes (first second t : ValueType) : Type 0 where
  pub first_is : first ≡ boolean
  pub second_is : second ≡ boolean
  pub type_is : t ≡ boolean

pub record PlainTypes (op : Op) (first second t : ValueType) : Type 0 where
  pub width : ℕ
  pub second_width : ℕ
  pub first_is : first ≡ bits width
  pub second_is : second ≡ bits second_width
  pub two_operands : shape_of op ≢ One
  pub widths_fit : WidthsFit (shape_of op) width second_width
  pub type_is : t ≡ bits (result_width (shape_of op) width second_width)

-- equality is between values of one type without parts, also between members
abbrev pub OpTypes : Op → ValueType → ValueType → ValueType → Type 0
OpTypes op.Eq first second t = EqualTypes first second t
OpTypes o first second t = PlainTypes o first second t

abbrev pub OperatorTypes : Operator → ValueType → ValueType → ValueType → Type 0
OperatorTypes (Plain o) first second t = OpTypes o first second t
OperatorTypes NotEqual first second t = EqualTypes first second t
OperatorTypes GreaterU first second t = ComparedTypes first second t
OperatorTypes GreaterS first second t = ComparedTypes first second t
OperatorTypes AtLeastU first second t = ComparedTypes first second t
OperatorTypes AtLeastS first second t = ComparedTypes first second t
OperatorTypes LogicalAnd first second t = LogicalTypes first second t
OperatorTypes LogicalOr first second t = LogicalTypes first second t

pub record BehindHas (operator : Operator) (Operand : ValueType → Type 0) (Rest : ValueType → ValueType → Type 0) (first t : ValueType) : Type 0 where
  pub operand_type : ValueType
  pub so_far : ValueType
  pub operand : Operand operand_type
  pub types : OperatorTypes operator first operand_type so_far
  pub rest : Rest so_far t

abbrev mutual
  -- the expression fits here and has this type
  pub Has : Scope → CoreExpression → ValueType → Type 0
  Has s (Constant scalar value) t = ConstantHas scalar value t
  Has s (Read path) t = ReadHas s path t
  Has s (IsValid path) t = IsValidHas s path t
  Has s (Lookahead width) t = LookaheadHas s width t
  Has s (Unary o e) t = UnaryHas o (Has s e) t
  Has s (Operations e rest) t = OperationsHave (Has s e) (HaveBehind s rest) t
  Has s (Slice e high low) t = SliceHas (Has s e) high low t
  Has s (Resize signed width e) t = ResizeHas (Has s e) width t
  Has s (Choice c a b) t = ChoiceHas (Has s c) (Has s a) (Has s b) t
  Has s (PartOf e step) t = PartHas s (Has s e) step t
  Has s (ValidityOf e) t = ValidityHas (Has s e) t
  Has s (Hit table) t = HitHas s table t

  -- behind a value of the first type the operations fit and give the second
  pub HaveBehind : Scope → CoreOperations → ValueType → ValueType → Type 0
  HaveBehind s NoOperations first t = t ≡ first
  HaveBehind s (Behind operator e rest) first t = BehindHas operator (Has s e) (HaveBehind s rest) first t
