-- Runs of small programs, by evaluation: statements, calls, headers, tables.
use Rattle.std.proofs.Common.{[], ◌∷◌, refl}
use Rattle.p4_program.specs.BoundedInput.{opening}
use Rattle.p4_program.specs.declared.outcome.Outcome.TheVariants.{Sent, Dropped}
use Rattle.p4_meaning.specs.Runs.Examples.{program}
use Rattle.p4_meaning.specs.Runs.Run.{RunOf}
use Rattle.p4_meaning.specs.Runs.StatementExamples.{bounds, zero_bytes, gave, sends_3, copies_out, reads_twice, fixed_by_call, fixed_by_out, slice_assigned, marked_first, pushes, writes_void, chooses_header, chooses_invalid, applies_table, with_entry, no_constant_entry, exits_inside}
use Rattle.p4_meaning.proofs.RunLaws.{run_seen}

-- ---- one assignment

pub sends_to_3 : RunOf (program sends_3) bounds (opening bounds) [] (Sent 3 zero_bytes) (1 ∷ [])
sends_to_3 = run_seen (program sends_3) bounds (opening bounds) [] (Sent 3 zero_bytes) (1 ∷ []) refl

-- ---- copy-out

pub copied_out_last : RunOf (program copies_out) bounds (opening bounds) [] (Sent 2 zero_bytes) (4 ∷ 3 ∷ 1 ∷ 2 ∷ [])
copied_out_last = run_seen (program copies_out) bounds (opening bounds) [] (Sent 2 zero_bytes) (4 ∷ 3 ∷ 1 ∷ 2 ∷ []) refl

-- ---- unspecified values

pub two_values : RunOf (program reads_twice) bounds (opening bounds) (gave 8 4 ∷ gave 8 6 ∷ []) (Sent 1 zero_bytes) (1 ∷ [])
two_values = run_seen (program reads_twice) bounds (opening bounds) (gave 8 4 ∷ gave 8 6 ∷ []) (Sent 1 zero_bytes) (1 ∷ []) refl

pub one_value : RunOf (program reads_twice) bounds (opening bounds) (gave 8 4 ∷ gave 8 4 ∷ []) (Sent 0 zero_bytes) []
one_value = run_seen (program reads_twice) bounds (opening bounds) (gave 8 4 ∷ gave 8 4 ∷ []) (Sent 0 zero_bytes) [] refl

pub call_fixes : RunOf (program fixed_by_call) bounds (opening bounds) (gave 8 9 ∷ []) (Sent 0 zero_bytes) (1 ∷ [])
call_fixes = run_seen (program fixed_by_call) bounds (opening bounds) (gave 8 9 ∷ []) (Sent 0 zero_bytes) (1 ∷ []) refl

pub out_fixes : RunOf (program fixed_by_out) bounds (opening bounds) (gave 8 9 ∷ []) (Sent 0 zero_bytes) (1 ∷ [])
out_fixes = run_seen (program fixed_by_out) bounds (opening bounds) (gave 8 9 ∷ []) (Sent 0 zero_bytes) (1 ∷ []) refl

pub slice_reads_all : RunOf (program slice_assigned) bounds (opening bounds) (gave 8 0xaf ∷ []) (Sent 0xa5 zero_bytes) (1 ∷ 2 ∷ [])
slice_reads_all = run_seen (program slice_assigned) bounds (opening bounds) (gave 8 0xaf ∷ []) (Sent 0xa5 zero_bytes) (1 ∷ 2 ∷ []) refl

pub mark_fixes_nothing : RunOf (program marked_first) bounds (opening bounds) (gave 19 0 ∷ gave 19 1 ∷ []) (Sent 1 zero_bytes) (1 ∷ 2 ∷ [])
mark_fixes_nothing = run_seen (program marked_first) bounds (opening bounds) (gave 19 0 ∷ gave 19 1 ∷ []) (Sent 1 zero_bytes) (1 ∷ 2 ∷ []) refl

pub mark_drops : RunOf (program marked_first) bounds (opening bounds) (gave 19 1 ∷ gave 19 1 ∷ []) Dropped (1 ∷ [])
mark_drops = run_seen (program marked_first) bounds (opening bounds) (gave 19 1 ∷ gave 19 1 ∷ []) Dropped (1 ∷ []) refl

-- ---- header stacks

pub pushed_as_it_is : RunOf (program pushes) bounds (opening bounds) (gave 8 0 ∷ gave 8 1 ∷ []) (Sent 1 zero_bytes) (1 ∷ 2 ∷ 3 ∷ [])
pushed_as_it_is = run_seen (program pushes) bounds (opening bounds) (gave 8 0 ∷ gave 8 1 ∷ []) (Sent 1 zero_bytes) (1 ∷ 2 ∷ 3 ∷ []) refl

pub void_write : RunOf (program writes_void) bounds (opening bounds) (gave 8 2 ∷ gave 8 3 ∷ []) (Sent 1 zero_bytes) (1 ∷ 2 ∷ [])
void_write = run_seen (program writes_void) bounds (opening bounds) (gave 8 2 ∷ gave 8 3 ∷ []) (Sent 1 zero_bytes) (1 ∷ 2 ∷ []) refl

pub chosen_is_read_whole : RunOf (program chooses_header) bounds (opening bounds) (gave 8 7 ∷ gave 9 3 ∷ []) (Sent 3 zero_bytes) (1 ∷ 2 ∷ [])
chosen_is_read_whole = run_seen (program chooses_header) bounds (opening bounds) (gave 8 7 ∷ gave 9 3 ∷ []) (Sent 3 zero_bytes) (1 ∷ 2 ∷ []) refl

pub field_of_invalid : RunOf (program chooses_invalid) bounds (opening bounds) (gave 9 3 ∷ []) (Sent 3 zero_bytes) (2 ∷ [])
field_of_invalid = run_seen (program chooses_invalid) bounds (opening bounds) (gave 9 3 ∷ []) (Sent 3 zero_bytes) (2 ∷ []) refl

-- ---- tables

pub default_after_miss : RunOf (program applies_table) bounds (opening bounds) [] (Sent 5 zero_bytes) (2 ∷ 1 ∷ [])
default_after_miss = run_seen (program applies_table) bounds (opening bounds) [] (Sent 5 zero_bytes) (2 ∷ 1 ∷ []) refl

pub action_of_hit : RunOf (program applies_table) bounds with_entry [] (Sent 7 zero_bytes) (2 ∷ 1 ∷ [])
action_of_hit = run_seen (program applies_table) bounds with_entry [] (Sent 7 zero_bytes) (2 ∷ 1 ∷ []) refl

pub constant_entries_alone : RunOf (program no_constant_entry) bounds with_entry [] (Sent 5 zero_bytes) (2 ∷ 1 ∷ [])
constant_entries_alone = run_seen (program no_constant_entry) bounds with_entry [] (Sent 5 zero_bytes) (2 ∷ 1 ∷ []) refl

pub exit_in_argument : RunOf (program exits_inside) bounds (opening bounds) [] (Sent 4 zero_bytes) (3 ∷ 4 ∷ 1 ∷ [])
exit_in_argument = run_seen (program exits_inside) bounds (opening bounds) [] (Sent 4 zero_bytes) (3 ∷ 4 ∷ 1 ∷ []) refl
