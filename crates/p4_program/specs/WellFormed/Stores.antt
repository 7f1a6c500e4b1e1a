-- What a store holds for values: each scalar, struct, header and stack in them, the whole and its parts.
use Rattle.std.specs.Prelude.{ℕ, zero, suc, ◌+◌, ◌*◌, ◌==◌, List, [], ◌++◌, length, flat_map, sum_by, slice_get, Option, Some, None, Bool, false, if◌then◌else◌}
use Rattle.std.specs.Option.{option_map_or}
use Rattle.p4_program.specs.declared.typed.types.HeaderType.{HeaderType}
use Rattle.p4_program.specs.declared.typed.types.StructType.{StructType}
use Rattle.p4_program.specs.declared.typed.types.ValueType.{ValueType}
use Rattle.p4_program.specs.declared.typed.types.ValueType.TheVariants.{Simple, Header, Stack, Struct}
use Rattle.p4_program.specs.Syntax.Callables.{CoreCallable, OfAction, OfParser, OfControl}
use Rattle.p4_program.specs.Syntax.Programs.{CoreProgram}

abbrev pub paths_in_header : List HeaderType → ℕ → ℕ
paths_in_header headers n = 1 + option_map_or (λ h. length h.widths) (slice_get headers n) 0

-- In a value, down to this depth of structs. A struct has fields of structs before it, so that how many there are bounds the
-- depth.
abbrev pub paths_down : ℕ → List HeaderType → List StructType → ValueType → ℕ
paths_down depth headers structs (Simple scalar) = 1
paths_down depth headers structs (Header n) = paths_in_header headers n
paths_down depth headers structs (Stack n size) = 1 + size * paths_in_header headers n
paths_down zero headers structs (Struct n) = 1
paths_down (suc depth) headers structs (Struct n) =
    1 + option_map_or (λ t. sum_by (paths_down depth headers structs) t.fields) (slice_get structs n) 0

-- how many there are in a value of a type
abbrev pub paths_in : List HeaderType → List StructType → ValueType → ℕ
paths_in headers structs t = paths_down (length structs) headers structs t

abbrev pub paths_of : CoreProgram → ValueType → ℕ
paths_of p t = paths_in p.headers p.structs t

-- the control of this number declares it
abbrev pub is_within : ℕ → Option ℕ → Bool
is_within n None = false
is_within n (Some control) = control == n

-- the variables of an action of this control
abbrev pub variables_within : ℕ → CoreCallable → List ValueType
variables_within n (OfAction a) = if is_within n a.within then a.variables else []
variables_within n (OfParser q) = []
variables_within n (OfControl c) = []

-- the variables of a parser, or of a control with its actions
abbrev pub locals_of : CoreProgram → ℕ → CoreCallable → List ValueType
locals_of p n (OfAction a) = []
locals_of p n (OfParser q) = q.variables
locals_of p n (OfControl c) = c.variables ++ flat_map (variables_within n) p.callables
