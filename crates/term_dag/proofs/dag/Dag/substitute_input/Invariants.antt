-- The term has the runs so far.
use Rattle.std.proofs.Common.{◌-◌}
use Rattle.term_dag.proofs.InputSubstituteLemmas.{IsInputSoFar}
use Rattle.term_dag.proofs.dag.Dag.substitute_input.Given as goal

abbrev pub decreases-loop-at : goal.decreases-loop-at
decreases-loop-at l = l.end - l.at

abbrev pub invariant-loop-at : goal.invariant-loop-at
invariant-loop-at l = IsInputSoFar l.fn.self l.self l.fixed l.first l.at l.end l.term
