-- Runs of small programs, by evaluation: the parser, its errors, the switch, checksums.
use Rattle.std.proofs.Common.{[], ◌∷◌, refl}
use Rattle.p4_program.specs.declared.outcome.Outcome.TheVariants.{Sent, Dropped, Overrun}
use Rattle.p4_meaning.specs.Runs.Examples.{program}
use Rattle.p4_meaning.specs.Runs.Run.{RunOf}
use Rattle.p4_meaning.specs.Runs.StatementExamples.{bounds}
use Rattle.p4_meaning.specs.Runs.SwitchExamples.{bytes, extracts_one, takes_some, looks_past, looks_nowhere, last_of_none, copies_stack, fills_stack, verifies_no_error, loops, selects_none, spec_in_egress, port_in_egress, other_port_in_egress, multicasts}
use Rattle.p4_meaning.proofs.RunLaws.{run_seen}

-- ---- one header of two bytes

-- A short extract is begun and leaves cursor and header: all of the packet is payload.
pub short_extract : RunOf (program extracts_one) bounds (bytes (0xab ∷ [])) [] (Sent 1 (0xab ∷ [])) (1 ∷ 2 ∷ 3 ∷ [])
short_extract = run_seen (program extracts_one) bounds (bytes (0xab ∷ [])) [] (Sent 1 (0xab ∷ [])) (1 ∷ 2 ∷ 3 ∷ []) refl

pub whole_extract : RunOf (program extracts_one) bounds (bytes (0xab ∷ 0xcd ∷ 0xef ∷ [])) [] (Sent 0 (0xab ∷ 0xcd ∷ 0xef ∷ [])) (1 ∷ 3 ∷ [])
whole_extract = run_seen (program extracts_one) bounds (bytes (0xab ∷ 0xcd ∷ 0xef ∷ [])) [] (Sent 0 (0xab ∷ 0xcd ∷ 0xef ∷ [])) (1 ∷ 3 ∷ []) refl

-- ---- a parser error in the middle: what was taken is not payload, what was not taken is

pub rest_is_payload : RunOf (program takes_some) bounds (bytes (1 ∷ 2 ∷ 3 ∷ [])) [] (Sent 1 (3 ∷ [])) (1 ∷ 4 ∷ 2 ∷ [])
rest_is_payload = run_seen (program takes_some) bounds (bytes (1 ∷ 2 ∷ 3 ∷ [])) [] (Sent 1 (3 ∷ [])) (1 ∷ 4 ∷ 2 ∷ []) refl

-- ---- lookahead past the end, in the middle of a condition

pub lookahead_too_short : RunOf (program looks_past) bounds (bytes (0 ∷ [])) [] (Sent 1 (0 ∷ [])) (1 ∷ 2 ∷ [])
lookahead_too_short = run_seen (program looks_past) bounds (bytes (0 ∷ [])) [] (Sent 1 (0 ∷ [])) (1 ∷ 2 ∷ []) refl

pub lookahead_leaves_cursor : RunOf (program looks_past) bounds (bytes (0 ∷ 7 ∷ [])) [] (Sent 0 (0 ∷ 7 ∷ [])) (1 ∷ [])
lookahead_leaves_cursor = run_seen (program looks_past) bounds (bytes (0 ∷ 7 ∷ [])) [] (Sent 0 (0 ∷ 7 ∷ [])) (1 ∷ []) refl

pub no_lookahead : RunOf (program looks_nowhere) bounds (bytes (0 ∷ [])) [] (Sent 0 (0 ∷ [])) (1 ∷ [])
no_lookahead = run_seen (program looks_nowhere) bounds (bytes (0 ∷ [])) [] (Sent 0 (0 ∷ [])) (1 ∷ []) refl

-- ---- stacks

pub last_not_evaluated : RunOf (program last_of_none) bounds (bytes (5 ∷ [])) [] (Sent 1 (5 ∷ [])) (1 ∷ 9 ∷ 8 ∷ [])
last_not_evaluated = run_seen (program last_of_none) bounds (bytes (5 ∷ [])) [] (Sent 1 (5 ∷ [])) (1 ∷ 9 ∷ 8 ∷ []) refl

pub counter_stays : RunOf (program copies_stack) bounds (bytes (5 ∷ 6 ∷ 7 ∷ [])) [] (Sent 0 (6 ∷ 7 ∷ [])) (1 ∷ 2 ∷ 3 ∷ 8 ∷ [])
counter_stays = run_seen (program copies_stack) bounds (bytes (5 ∷ 6 ∷ 7 ∷ [])) [] (Sent 0 (6 ∷ 7 ∷ [])) (1 ∷ 2 ∷ 3 ∷ 8 ∷ []) refl

pub full_stack : RunOf (program fills_stack) bounds (bytes (5 ∷ 6 ∷ [])) [] (Sent 1 (5 ∷ 6 ∷ [])) (1 ∷ 2 ∷ 3 ∷ 9 ∷ 8 ∷ [])
full_stack = run_seen (program fills_stack) bounds (bytes (5 ∷ 6 ∷ [])) [] (Sent 1 (5 ∷ 6 ∷ [])) (1 ∷ 2 ∷ 3 ∷ 9 ∷ 8 ∷ []) refl

-- ---- `verify` with `NoError` ends the parser too: `verify(false, error.NoError); b.extract(h.k.next);`

pub no_error_ends : RunOf (program verifies_no_error) bounds (bytes (5 ∷ [])) [] (Sent 0 (5 ∷ [])) (1 ∷ 8 ∷ [])
no_error_ends = run_seen (program verifies_no_error) bounds (bytes (5 ∷ [])) [] (Sent 0 (5 ∷ [])) (1 ∷ 8 ∷ []) refl

-- ---- states past the bound

pub overruns : RunOf (program loops) bounds (bytes (5 ∷ [])) [] Overrun []
overruns = run_seen (program loops) bounds (bytes (5 ∷ [])) [] Overrun [] refl

-- ---- `select`: no case matches

pub nothing_matches : RunOf (program selects_none) bounds (bytes (5 ∷ [])) [] (Sent 1 (5 ∷ [])) (1 ∷ [])
nothing_matches = run_seen (program selects_none) bounds (bytes (5 ∷ [])) [] (Sent 1 (5 ∷ [])) (1 ∷ []) refl

-- ---- egress: `egress_spec` begins at 0, `egress_port` is the port, and the drop port drops

pub spec_is_0_in_egress : RunOf (program spec_in_egress) bounds (bytes (5 ∷ [])) [] (Sent 3 (5 ∷ [])) (1 ∷ [])
spec_is_0_in_egress = run_seen (program spec_in_egress) bounds (bytes (5 ∷ [])) [] (Sent 3 (5 ∷ [])) (1 ∷ []) refl

pub dropped_after_egress : RunOf (program port_in_egress) bounds (bytes (5 ∷ [])) [] Dropped (1 ∷ 2 ∷ [])
dropped_after_egress = run_seen (program port_in_egress) bounds (bytes (5 ∷ [])) [] Dropped (1 ∷ 2 ∷ []) refl

pub port_of_ingress : RunOf (program other_port_in_egress) bounds (bytes (5 ∷ [])) [] (Sent 3 (5 ∷ [])) (1 ∷ 2 ∷ 4 ∷ [])
port_of_ingress = run_seen (program other_port_in_egress) bounds (bytes (5 ∷ [])) [] (Sent 3 (5 ∷ [])) (1 ∷ 2 ∷ 4 ∷ []) refl

pub group_drops : RunOf (program multicasts) bounds (bytes (5 ∷ [])) [] Dropped (1 ∷ 2 ∷ [])
group_drops = run_seen (program multicasts) bounds (bytes (5 ∷ [])) [] Dropped (1 ∷ 2 ∷ []) refl
