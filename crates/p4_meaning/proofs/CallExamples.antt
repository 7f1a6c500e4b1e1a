-- Runs of small programs, by evaluation: which entry wins, `switch`, calls that stop, controls in controls, checksums, fills.
use Rattle.std.proofs.Common.{[], ◌∷◌, refl}
use Rattle.p4_program.specs.declared.typed.tables.MatchKind.TheVariants as kind
use Rattle.p4_program.specs.BoundedInput.{opening}
use Rattle.p4_program.specs.Syntax.Statements.{Return, Exit}
use Rattle.p4_program.specs.declared.outcome.Outcome.TheVariants.{Sent, Overrun}
use Rattle.p4_meaning.specs.Runs.Examples.{program}
use Rattle.p4_meaning.specs.Runs.Fills.{ones}
use Rattle.p4_meaning.specs.Runs.Run.{RunOf, RunUnder}
use Rattle.p4_meaning.specs.Runs.StatementExamples.{bounds, zero_bytes, gave, reads_twice, port_table}
use Rattle.p4_meaning.specs.Runs.SwitchExamples.{bytes}
use Rattle.p4_meaning.specs.Runs.CallExamples.{two_steps, applies_by, with_prefixes, with_masks, switches, unlisted_default, stops_in, with_child, verifies, updates, labels}
use Rattle.p4_meaning.proofs.RunLaws.{run_seen}

-- ---- which entry wins

pub longest_prefix : RunOf (program (applies_by kind.Lpm)) bounds with_prefixes [] (Sent 7 zero_bytes) (2 ∷ 1 ∷ [])
longest_prefix = run_seen (program (applies_by kind.Lpm)) bounds with_prefixes [] (Sent 7 zero_bytes) (2 ∷ 1 ∷ []) refl

pub least_priority : RunOf (program (applies_by kind.Ternary)) bounds with_masks [] (Sent 7 zero_bytes) (2 ∷ 1 ∷ [])
least_priority = run_seen (program (applies_by kind.Ternary)) bounds with_masks [] (Sent 7 zero_bytes) (2 ∷ 1 ∷ []) refl

-- ---- `switch`

pub label_behind_default : RunOf (program (switches port_table)) bounds (opening bounds) [] (Sent 9 zero_bytes) (1 ∷ 3 ∷ [])
label_behind_default = run_seen (program (switches port_table)) bounds (opening bounds) [] (Sent 9 zero_bytes) (1 ∷ 3 ∷ []) refl

pub default_for_unlisted : RunOf (program (switches unlisted_default)) bounds (opening bounds) [] (Sent 8 zero_bytes) (2 ∷ [])
default_for_unlisted = run_seen (program (switches unlisted_default)) bounds (opening bounds) [] (Sent 8 zero_bytes) (2 ∷ []) refl

-- ---- copy-out after `return` and `exit`

pub copied_after_return : RunOf (program (stops_in Return)) bounds (opening bounds) [] (Sent 7 zero_bytes) (4 ∷ 1 ∷ 2 ∷ 5 ∷ [])
copied_after_return = run_seen (program (stops_in Return)) bounds (opening bounds) [] (Sent 7 zero_bytes) (4 ∷ 1 ∷ 2 ∷ 5 ∷ []) refl

pub copied_after_exit : RunOf (program (stops_in Exit)) bounds (opening bounds) [] (Sent 7 zero_bytes) (4 ∷ 1 ∷ 2 ∷ [])
copied_after_exit = run_seen (program (stops_in Exit)) bounds (opening bounds) [] (Sent 7 zero_bytes) (4 ∷ 1 ∷ 2 ∷ []) refl

-- ---- a control in the ingress

-- The first application reads what is unspecified of the user's metadata and the six such fields of the standard metadata, and
-- its copy-out stores what was read; the second one reads nothing.
pub child_fixes : RunOf with_child bounds (opening bounds) (gave 8 1 ∷ gave 32 2 ∷ gave 19 3 ∷ gave 32 4 ∷ gave 19 5 ∷ gave 48 6 ∷ gave 48 7 ∷ []) (Sent 2 zero_bytes) (2 ∷ 1 ∷ 3 ∷ 1 ∷ [])
child_fixes = run_seen with_child bounds (opening bounds) (gave 8 1 ∷ gave 32 2 ∷ gave 19 3 ∷ gave 32 4 ∷ gave 19 5 ∷ gave 48 6 ∷ gave 48 7 ∷ []) (Sent 2 zero_bytes) (2 ∷ 1 ∷ 3 ∷ 1 ∷ []) refl

-- ---- checksums

pub right_sum : RunOf (program (verifies 0xba8c)) bounds (opening bounds) [] (Sent 0 zero_bytes) (1 ∷ 2 ∷ [])
right_sum = run_seen (program (verifies 0xba8c)) bounds (opening bounds) [] (Sent 0 zero_bytes) (1 ∷ 2 ∷ []) refl

pub wrong_sum_stays : RunOf (program (verifies 0xba8d)) bounds (opening bounds) [] (Sent 1 zero_bytes) (1 ∷ 2 ∷ 3 ∷ [])
wrong_sum_stays = run_seen (program (verifies 0xba8d)) bounds (opening bounds) [] (Sent 1 zero_bytes) (1 ∷ 2 ∷ 3 ∷ []) refl

pub sum_stored : RunOf (program updates) bounds (bytes (0 ∷ 1 ∷ 5 ∷ 5 ∷ 9 ∷ [])) [] (Sent 0 (0 ∷ 1 ∷ 255 ∷ 254 ∷ 9 ∷ [])) (1 ∷ 2 ∷ 3 ∷ [])
sum_stored = run_seen (program updates) bounds (bytes (0 ∷ 1 ∷ 5 ∷ 5 ∷ 9 ∷ [])) [] (Sent 0 (0 ∷ 1 ∷ 255 ∷ 254 ∷ 9 ∷ [])) (1 ∷ 2 ∷ 3 ∷ []) refl

-- ---- labels up to the bottom of the stack

pub stack_overflows : RunOf (program labels) bounds (opening bounds) [] (Sent 1 zero_bytes) (1 ∷ 1 ∷ 1 ∷ 2 ∷ 4 ∷ [])
stack_overflows = run_seen (program labels) bounds (opening bounds) [] (Sent 1 zero_bytes) (1 ∷ 1 ∷ 1 ∷ 2 ∷ 4 ∷ []) refl

pub bottom_found : RunOf (program labels) bounds (bytes (4 ∷ 7 ∷ 0 ∷ [])) [] (Sent 0 (4 ∷ 7 ∷ 0 ∷ [])) (1 ∷ 1 ∷ 4 ∷ [])
bottom_found = run_seen (program labels) bounds (bytes (4 ∷ 7 ∷ 0 ∷ [])) [] (Sent 0 (4 ∷ 7 ∷ 0 ∷ [])) (1 ∷ 1 ∷ 4 ∷ []) refl

-- where two states may be entered alone, the third entering overruns
pub overruns_at_third : RunOf (program labels) two_steps (opening two_steps) [] Overrun []
overruns_at_third = run_seen (program labels) two_steps (opening two_steps) [] Overrun [] refl

-- ---- a fill

pub reads_filled : RunUnder (program reads_twice) bounds (opening bounds) ones (Sent 0 zero_bytes) []
reads_filled = record {
  reads = gave 8 255 ∷ gave 8 255 ∷ [];
  filled = (refl, (refl, tt));
  run = run_seen (program reads_twice) bounds (opening bounds) (gave 8 255 ∷ gave 8 255 ∷ []) (Sent 0 zero_bytes) [] refl;
}
