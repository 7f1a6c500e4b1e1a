-- What the numbers of a program name.
use Rattle.std.specs.Prelude.{ℕ, List, [], Option, Some, None, slice_get, option_map, option_and_then, Bool, true, false}
use Rattle.std.specs.Option.{option_map_or}
use Rattle.std.specs.List.{list_any}
use Rattle.p4_program.specs.declared.typed.instances.NamedTable.{NamedTable}
use Rattle.p4_program.specs.declared.typed.tables.MatchKind.{MatchKind}
use Rattle.p4_program.specs.declared.typed.tables.MatchKind.TheVariants.{Exact, Lpm, Ternary}
use Rattle.p4_program.specs.Syntax.Callables.{CoreTable, CoreAction, CoreControl, CoreCallable, OfAction, OfParser, OfControl}
use Rattle.p4_program.specs.Syntax.Programs.{CoreProgram}

-- the tables that a callable declares
abbrev pub tables_in : CoreCallable → List CoreTable
tables_in (OfAction a) = []
tables_in (OfParser p) = []
tables_in (OfControl c) = c.tables

-- the table of this number among those of a control
abbrev pub table_in : List CoreCallable → NamedTable → Option CoreTable
table_in callables t = option_and_then (λ c. slice_get (tables_in c) t.table) (slice_get callables t.control)

-- the table of this number of the program
abbrev pub table_at : CoreProgram → ℕ → Option CoreTable
table_at p n = option_and_then (table_in p.callables) (slice_get p.tables n)

-- a callable that is an action
abbrev pub as_action : CoreCallable → Option CoreAction
as_action (OfAction a) = Some a
as_action (OfParser p) = None
as_action (OfControl c) = None

-- the action of this number among the callables
abbrev pub action_at : CoreProgram → ℕ → Option CoreAction
action_at p n = option_and_then as_action (slice_get p.callables n)

-- a callable that is a control
abbrev pub as_control : CoreCallable → Option CoreControl
as_control (OfAction a) = None
as_control (OfParser p) = None
as_control (OfControl c) = Some c

-- the control of this number among the callables
abbrev pub control_at : CoreProgram → ℕ → Option CoreControl
control_at p n = option_and_then as_control (slice_get p.callables n)

abbrev pub is_ternary : MatchKind → Bool
is_ternary Exact = false
is_ternary Lpm = false
is_ternary Ternary = true

-- a table is ordered where a key is ternary (v1model.p4, `match_kind`, and P4-16, "Entries")
abbrev pub is_ordered : CoreTable → Bool
is_ordered t = list_any (λ k. is_ternary k.match_kind) t.keys

-- whether the table of this number of the program is ordered
abbrev pub ordered_at : CoreProgram → ℕ → Bool
ordered_at p n = option_map_or is_ordered (table_at p n) false

-- the name of the table of this number
abbrev pub name_at : CoreProgram → ℕ → Option (List ℕ)
name_at p n = option_map (λ t. t.name) (slice_get p.tables n)
