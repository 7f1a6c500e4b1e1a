use Rattle.p4_meaning.proofs.CallExamples as example
use Rattle.p4_meaning.proofs.run_examples.winners_and_calls.Goals as goal

pub returns-clause-longest_prefix : goal.returns-clause-longest_prefix
returns-clause-longest_prefix c = example.longest_prefix

pub returns-clause-least_priority : goal.returns-clause-least_priority
returns-clause-least_priority c = example.least_priority

pub returns-clause-label_behind_default : goal.returns-clause-label_behind_default
returns-clause-label_behind_default c = example.label_behind_default

pub returns-clause-default_for_unlisted : goal.returns-clause-default_for_unlisted
returns-clause-default_for_unlisted c = example.default_for_unlisted

pub returns-clause-copied_after_return : goal.returns-clause-copied_after_return
returns-clause-copied_after_return c = example.copied_after_return

pub returns-clause-copied_after_exit : goal.returns-clause-copied_after_exit
returns-clause-copied_after_exit c = example.copied_after_exit

pub returns-clause-child_fixes : goal.returns-clause-child_fixes
returns-clause-child_fixes c = example.child_fixes

pub returns-clause-right_sum : goal.returns-clause-right_sum
returns-clause-right_sum c = example.right_sum

pub returns-clause-wrong_sum_stays : goal.returns-clause-wrong_sum_stays
returns-clause-wrong_sum_stays c = example.wrong_sum_stays

pub returns-clause-sum_stored : goal.returns-clause-sum_stored
returns-clause-sum_stored c = example.sum_stored

pub returns-clause-stack_overflows : goal.returns-clause-stack_overflows
returns-clause-stack_overflows c = example.stack_overflows

pub returns-clause-bottom_found : goal.returns-clause-bottom_found
returns-clause-bottom_found c = example.bottom_found

pub returns-clause-overruns_at_third : goal.returns-clause-overruns_at_third
returns-clause-overruns_at_third c = example.overruns_at_third

pub returns-clause-reads_filled : goal.returns-clause-reads_filled
returns-clause-reads_filled c = example.reads_filled
