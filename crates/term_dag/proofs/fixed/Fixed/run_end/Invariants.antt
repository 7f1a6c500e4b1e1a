-- The bits so far are as the first.
use Rattle.term_dag.proofs.RunLemmas.{IsRun}
use Rattle.term_dag.proofs.fixed.Fixed.run_end.Given as goal

abbrev pub invariant-loop-at : goal.invariant-loop-at
invariant-loop-at l = IsRun l.self.inputs l.from l.at
