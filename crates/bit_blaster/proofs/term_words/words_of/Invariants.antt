-- The words so far.
use Rattle.bit_blaster.proofs.NodeWordLemmas.{AreWordsSoFar}
use Rattle.bit_blaster.proofs.term_words.words_of.Given as goal

abbrev pub invariant-loop-number : goal.invariant-loop-number
invariant-loop-number l = AreWordsSoFar l.dag l.variables l.initial.circuit l.circuit l.marks.items l.table.items l.number
