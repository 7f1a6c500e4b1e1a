-- A literal that is set stands as it is, and one that is ruled out is refused.
use Rattle.unit_propagation.specs.Propagation.{decisions}
use Rattle.unit_propagation.proofs.ExtendsLaws.{extends_itself}
use Rattle.sat_solver.proofs.TrialLemmas.{stands_set}
use Rattle.sat_solver.proofs.trial.decide_unless_set.Goals as goal

pub returns-in-True-clause-extends : goal.returns-in-True-clause-extends
returns-in-True-clause-extends c = extends_itself c.args.solver.now

pub returns-in-True-clause-decided : goal.returns-in-True-clause-decided
returns-in-True-clause-decided c = stands_set c.args.solver.now.clauses (decisions c.args.solver.now) c.args.l c.in-True.ensures.follows

pub returns-in-False-clause-extends : goal.returns-in-False-clause-extends
returns-in-False-clause-extends c = extends_itself c.args.solver.now
