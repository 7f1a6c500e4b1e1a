-- The decided literals stand for those before the index too.
use Rattle.unit_propagation.specs.Propagation.{decisions, Extends}
use Rattle.sat_solver.specs.Reducing.{StandsFor}
use Rattle.sat_solver.proofs.TrialLemmas.{front}
use Rattle.sat_solver.proofs.trial.decide_each.Given as goal

abbrev pub invariant-loop-l : goal.invariant-loop-l
invariant-loop-l l = record {
  extends : Extends l.initial.solver l.solver;
  stands : StandsFor l.initial.solver.clauses (decisions l.solver) (front (decisions l.initial.solver) l.lits l.l-index);
}
