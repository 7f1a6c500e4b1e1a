use Rattle.p4_grammar.proofs.OneReadingLemmas.{one_source, one_refusal, no_both, unrefused_shallow, unrefused_derived}
use Rattle.p4_grammar.proofs.laws.tokens_are_read_in_one_way.Goals as goal

pub returns-clause-tree : goal.returns-clause-tree
returns-clause-tree c = one_source

pub returns-clause-refusal : goal.returns-clause-refusal
returns-clause-refusal c = one_refusal

pub returns-clause-apart : goal.returns-clause-apart
returns-clause-apart c = no_both

pub returns-clause-shallow : goal.returns-clause-shallow
returns-clause-shallow c = λ tokens none. unrefused_shallow tokens none

pub returns-clause-derived : goal.returns-clause-derived
returns-clause-derived c = λ tokens none. unrefused_derived tokens none
