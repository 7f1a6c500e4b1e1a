-- The marks so far.
use Rattle.term_dag.proofs.MarkLemmas.{AreMarksSoFar}
use Rattle.term_dag.proofs.dag.Dag.marks.Given as goal

abbrev pub invariant-loop-done : goal.invariant-loop-done
invariant-loop-done l = AreMarksSoFar l.self l.t l.marks.items l.done
