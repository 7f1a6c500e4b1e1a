-- What stands in the place of each marked term so far.
use Rattle.term_dag.proofs.ResultLemmas.{AreResultsSoFar}
use Rattle.term_dag.proofs.dag.Dag.substitute.Given as goal

abbrev pub invariant-loop-number : goal.invariant-loop-number
invariant-loop-number l = AreResultsSoFar l.fn.self l.self l.fixed l.marks.items l.results.items l.number
