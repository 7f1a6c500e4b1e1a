-- Types of values that fit a program (P4-16, "Data types").
use Rattle.std.specs.Prelude.{ℕ, ◌≡◌, ◌≤◌, ◌<◌, ◌%◌, List, [], ◌∷◌, Some, slice_get, sum, All, IsSomeAnd, length}
use Rattle.bits_core.specs.declared.number.TheConstants.{MAX_WIDTH}
use Rattle.p4_program.specs.declared.typed.limits.TheConstants.{MAX_MEMBERS, MAX_STACK_SIZE}
use Rattle.p4_program.specs.declared.typed.types.HeaderType.{HeaderType}
use Rattle.p4_program.specs.declared.typed.types.Scalar.{Scalar}
use Rattle.p4_program.specs.declared.typed.types.Scalar.TheVariants.{Sized, Members}
use Rattle.p4_program.specs.declared.typed.types.StructType.{StructType}
use Rattle.p4_program.specs.declared.typed.types.ValueType.{ValueType}
use Rattle.p4_program.specs.declared.typed.types.ValueType.TheVariants.{Simple, Header, Stack, Struct}
use Rattle.p4_program.specs.Syntax.Programs.{CoreProgram}

pub record WidthFits (width : ℕ) : Type 0 where
  pub some_bit : 1 ≤ width
  pub at_most_widest : width ≤ MAX_WIDTH

pub record CountFits (count : ℕ) : Type 0 where
  pub some_member : 1 ≤ count
  pub at_most_all : count ≤ MAX_MEMBERS

abbrev pub ScalarFits : Scalar → Type 0
ScalarFits (Sized width) = WidthFits width
ScalarFits (Members count) = CountFits count

-- how many bits a value has: the number of a member has eight
abbrev pub width_of : Scalar → ℕ
width_of (Sized width) = width
width_of (Members count) = 8

abbrev pub bits : ℕ → ValueType
bits width = Simple (Sized width)

abbrev pub boolean : ValueType
boolean = bits 1

pub record SizeFits (headers : ℕ) (number size : ℕ) : Type 0 where
  pub declared : number < headers
  pub some_element : 1 ≤ size
  pub at_most_all : size ≤ MAX_STACK_SIZE

-- a type that names some of so many headers and structs
abbrev pub TypeFits : (headers structs : ℕ) → ValueType → Type 0
TypeFits headers structs (Simple scalar) = ScalarFits scalar
TypeFits headers structs (Header number) = number < headers
TypeFits headers structs (Stack number size) = SizeFits headers number size
TypeFits headers structs (Struct number) = number < structs

-- "Header types": a header has whole bytes
pub record HeaderFits (h : HeaderType) : Type 0 where
  pub widths : All WidthFits h.widths
  pub whole_bytes : sum h.widths % 8 ≡ 0

-- the fields of `standard_metadata_t` in order (v1model.p4)
abbrev pub standard_fields : ℕ → List ValueType
standard_fields errors =
    bits 9 ∷ bits 9 ∷ bits 9 ∷ bits 32 ∷ bits 32 ∷ bits 32 ∷ bits 19 ∷ bits 32 ∷ bits 19 ∷ bits 48 ∷ bits 48 ∷ bits 16 ∷
    bits 16 ∷ bits 1 ∷ Simple (Members errors) ∷ bits 3 ∷ []

-- the number of the struct type of the standard metadata
abbrev pub standard_metadata : ValueType
standard_metadata = Struct 0

-- how many errors the core library declares
abbrev pub core_errors : ℕ
core_errors = 7

-- The headers and structs of a program. A struct has fields of structs before it.
pub record TypesFit (p : CoreProgram) : Type 0 where
  pub headers_fit : All HeaderFits p.headers
  pub structs_fit :
      (n : ℕ) (t : StructType) → slice_get p.structs n ≡ Some t → All (TypeFits (length p.headers) n) t.fields
  pub standard : IsSomeAnd (slice_get p.structs 0) (λ t. t.fields ≡ standard_fields p.errors)
  pub core : core_errors ≤ p.errors
  pub errors_fit : CountFits p.errors

-- a type of the program
abbrev pub IsType : CoreProgram → ValueType → Type 0
IsType p t = TypeFits (length p.headers) (length p.structs) t
