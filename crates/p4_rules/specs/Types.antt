-- The types of a source, as its rules tell them apart. What a struct, a header or an enumeration declares stands in a list of
-- its kind, and its type is named by its number there.
use Rattle.std.specs.Prelude.{ℕ, ◌==◌, ◌%◌, List, Bool, true, false, ◌&&◌, Option, None, Some, position}
use Rattle.std.specs.Str.{bytes_eq}
use Rattle.std.specs.List.{sum_by}
use Rattle.p4_rules.specs.declared.types.Object.{Object}
use Rattle.p4_rules.specs.declared.types.Object.TheVariants.{PacketIn, PacketOut, Counter, DirectCounter, Meter, Register, Package, ParserType, ControlType}
use Rattle.p4_rules.specs.declared.types.SourceType.{SourceType}
use Rattle.p4_rules.specs.declared.types.SourceType.TheVariants.{Bit, Signed, Integer, Boolean, Error, Enumeration, BitEnumeration, Structure, Header, Stack, Opaque}
use Rattle.p4_rules.specs.declared.types.FieldOf.{FieldOf}

-- the place of a field of this name among the fields
abbrev pub field_place : List FieldOf → List ℕ → Option ℕ
field_place fields name = position (λ field. bytes_eq field.name name) fields

-- "Base types", "Type nesting rules": one type. A struct, a header or an enumeration is the same as itself alone.
abbrev pub same_object : Object → Object → Bool
same_object PacketIn PacketIn = true
same_object PacketOut PacketOut = true
same_object Counter Counter = true
same_object DirectCounter DirectCounter = true
same_object Meter Meter = true
same_object Register Register = true
same_object Package Package = true
same_object (ParserType m) (ParserType n) = m == n
same_object (ControlType m) (ControlType n) = m == n
same_object _ _ = false

abbrev pub same_type : SourceType → SourceType → Bool
same_type (Bit v) (Bit w) = v == w
same_type (Signed v) (Signed w) = v == w
same_type Integer Integer = true
same_type Boolean Boolean = true
same_type Error Error = true
same_type (Enumeration m) (Enumeration n) = m == n
same_type (BitEnumeration m v) (BitEnumeration n w) = m == n
same_type (Structure m) (Structure n) = m == n
same_type (Header m) (Header n) = m == n
same_type (Stack m k) (Stack n l) = (m == n) && (k == l)
same_type (Opaque a) (Opaque b) = same_object a b
same_type _ _ = false

-- `bit<w>` or `int<w>`
abbrev pub is_sized : SourceType → Bool
is_sized (Bit w) = true
is_sized (Signed w) = true
is_sized _ = false

-- a type of values that a run can hold
abbrev pub is_run_time : SourceType → Bool
is_run_time Integer = false
is_run_time (Opaque object) = false
is_run_time _ = true

-- a value that is no struct, header or stack
abbrev pub is_scalar : SourceType → Bool
is_scalar (Structure n) = false
is_scalar (Header n) = false
is_scalar (Stack n size) = false
is_scalar (Opaque object) = false
is_scalar Integer = false
is_scalar _ = true

-- "Header types": a field is of `bit`, `int`, `bool` or an enumeration over bits
abbrev pub may_be_in_header : SourceType → Bool
may_be_in_header (Bit w) = true
may_be_in_header (Signed w) = true
may_be_in_header Boolean = true
may_be_in_header (BitEnumeration n w) = true
may_be_in_header _ = false

-- the bits of a scalar in a header
abbrev pub header_bits : SourceType → ℕ
header_bits (Bit w) = w
header_bits (Signed w) = w
header_bits Boolean = 1
header_bits (BitEnumeration n w) = w
header_bits _ = 0

-- whole bytes, as every header has
abbrev pub has_whole_bytes : List FieldOf → Bool
has_whole_bytes fields = sum_by (λ field. header_bits field.type_of) fields % 8 == 0

-- `bit<w>`, as a value of this type is where a rule wants one: an enumeration over bits is cast
abbrev pub bit_width : SourceType → Option ℕ
bit_width (Bit w) = Some w
bit_width (BitEnumeration n w) = Some w
bit_width _ = None
