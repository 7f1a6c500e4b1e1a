-- The marks so far.
use Rattle.term_dag.proofs.MarkLemmas.{AreMarksSoFar}
use Rattle.bit_blaster.proofs.marks.marks_of.Given as goal

abbrev pub invariant-loop-done : goal.invariant-loop-done
invariant-loop-done l = AreMarksSoFar l.dag l.t l.marks.items l.done
