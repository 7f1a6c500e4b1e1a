use Rattle.p4_meaning.proofs.StatementExamples as example
use Rattle.p4_meaning.proofs.run_examples.statements.Goals as goal

pub returns-clause-sends_to_3 : goal.returns-clause-sends_to_3
returns-clause-sends_to_3 c = example.sends_to_3

pub returns-clause-copied_out_last : goal.returns-clause-copied_out_last
returns-clause-copied_out_last c = example.copied_out_last

pub returns-clause-two_values : goal.returns-clause-two_values
returns-clause-two_values c = example.two_values

pub returns-clause-one_value : goal.returns-clause-one_value
returns-clause-one_value c = example.one_value

pub returns-clause-call_fixes : goal.returns-clause-call_fixes
returns-clause-call_fixes c = example.call_fixes

pub returns-clause-out_fixes : goal.returns-clause-out_fixes
returns-clause-out_fixes c = example.out_fixes

pub returns-clause-slice_reads_all : goal.returns-clause-slice_reads_all
returns-clause-slice_reads_all c = example.slice_reads_all

pub returns-clause-mark_fixes_nothing : goal.returns-clause-mark_fixes_nothing
returns-clause-mark_fixes_nothing c = example.mark_fixes_nothing

pub returns-clause-mark_drops : goal.returns-clause-mark_drops
returns-clause-mark_drops c = example.mark_drops

pub returns-clause-pushed_as_it_is : goal.returns-clause-pushed_as_it_is
returns-clause-pushed_as_it_is c = example.pushed_as_it_is

pub returns-clause-void_write : goal.returns-clause-void_write
returns-clause-void_write c = example.void_write

pub returns-clause-chosen_is_read_whole : goal.returns-clause-chosen_is_read_whole
returns-clause-chosen_is_read_whole c = example.chosen_is_read_whole

pub returns-clause-field_of_invalid : goal.returns-clause-field_of_invalid
returns-clause-field_of_invalid c = example.field_of_invalid

pub returns-clause-default_after_miss : goal.returns-clause-default_after_miss
returns-clause-default_after_miss c = example.default_after_miss

pub returns-clause-action_of_hit : goal.returns-clause-action_of_hit
returns-clause-action_of_hit c = example.action_of_hit

pub returns-clause-constant_entries_alone : goal.returns-clause-constant_entries_alone
returns-clause-constant_entries_alone c = example.constant_entries_alone

pub returns-clause-exit_in_argument : goal.returns-clause-exit_in_argument
returns-clause-exit_in_argument c = example.exit_in_argument
