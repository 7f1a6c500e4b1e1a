use Rattle.p4_meaning.proofs.SwitchExamples as example
use Rattle.p4_meaning.proofs.run_examples.parsers_and_switch.Goals as goal

pub returns-clause-short_extract : goal.returns-clause-short_extract
returns-clause-short_extract c = example.short_extract

pub returns-clause-whole_extract : goal.returns-clause-whole_extract
returns-clause-whole_extract c = example.whole_extract

pub returns-clause-rest_is_payload : goal.returns-clause-rest_is_payload
returns-clause-rest_is_payload c = example.rest_is_payload

pub returns-clause-lookahead_too_short : goal.returns-clause-lookahead_too_short
returns-clause-lookahead_too_short c = example.lookahead_too_short

pub returns-clause-lookahead_leaves_cursor : goal.returns-clause-lookahead_leaves_cursor
returns-clause-lookahead_leaves_cursor c = example.lookahead_leaves_cursor

pub returns-clause-no_lookahead : goal.returns-clause-no_lookahead
returns-clause-no_lookahead c = example.no_lookahead

pub returns-clause-last_not_evaluated : goal.returns-clause-last_not_evaluated
returns-clause-last_not_evaluated c = example.last_not_evaluated

pub returns-clause-counter_stays : goal.returns-clause-counter_stays
returns-clause-counter_stays c = example.counter_stays

pub returns-clause-full_stack : goal.returns-clause-full_stack
returns-clause-full_stack c = example.full_stack

pub returns-clause-no_error_ends : goal.returns-clause-no_error_ends
returns-clause-no_error_ends c = example.no_error_ends

pub returns-clause-overruns : goal.returns-clause-overruns
returns-clause-overruns c = example.overruns

pub returns-clause-nothing_matches : goal.returns-clause-nothing_matches
returns-clause-nothing_matches c = example.nothing_matches

pub returns-clause-spec_is_0_in_egress : goal.returns-clause-spec_is_0_in_egress
returns-clause-spec_is_0_in_egress c = example.spec_is_0_in_egress

pub returns-clause-dropped_after_egress : goal.returns-clause-dropped_after_egress
returns-clause-dropped_after_egress c = example.dropped_after_egress

pub returns-clause-port_of_ingress : goal.returns-clause-port_of_ingress
returns-clause-port_of_ingress c = example.port_of_ingress

pub returns-clause-group_drops : goal.returns-clause-group_drops
returns-clause-group_drops c = example.group_drops
