-- The shape of a table: what an entry of it has, without its program.
use Rattle.std.specs.Prelude.{ℕ, List, [], map, is_some}
use Rattle.std.specs.Option.{option_map_or}
use Rattle.p4_program.specs.declared.typed.callables.Parameter.{Parameter}
use Rattle.p4_program.specs.declared.typed.shapes.KeyShape.{KeyShape}
use Rattle.p4_program.specs.declared.typed.shapes.TableShape.{TableShape}
use Rattle.p4_program.specs.declared.typed.types.ValueType.{ValueType}
use Rattle.p4_program.specs.declared.typed.types.ValueType.TheVariants.{Simple, Header, Stack, Struct}
use Rattle.p4_program.specs.Syntax.Callables.{CoreKey, CoreTable}
use Rattle.p4_program.specs.Syntax.Lookup.{action_at, is_ordered}
use Rattle.p4_program.specs.Syntax.Programs.{CoreProgram}
use Rattle.p4_program.specs.WellFormed.Types.{width_of}

-- the width of a value without parts; no other is a parameter of a listed action
abbrev pub argument_width : ValueType → ℕ
argument_width (Simple scalar) = width_of scalar
argument_width (Header number) = 0
argument_width (Stack number size) = 0
argument_width (Struct number) = 0

abbrev pub widths_of : List Parameter → List ℕ
widths_of ps = map (λ p. argument_width p.value_type) ps

-- the widths of the arguments of an action
abbrev pub argument_widths : CoreProgram → ℕ → List ℕ
argument_widths p n = option_map_or (λ a. widths_of a.parameters) (action_at p n) []

abbrev pub key_shape : CoreKey → KeyShape
key_shape k = record { kind = k.match_kind; width = k.width }

abbrev pub shape_of : CoreProgram → CoreTable → TableShape
shape_of p t =
    record {
      ordered = is_ordered t;
      constant = is_some t.entries;
      keys = map key_shape t.keys;
      actions = map (λ listed. argument_widths p listed.action) t.actions;
    }
