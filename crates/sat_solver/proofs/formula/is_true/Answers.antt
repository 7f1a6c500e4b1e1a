-- A variable that is true is set so, and one that is false or open is not true.
use Rattle.sat_solver.proofs.ModelLemmas.{says_true, says_not_true}
use Rattle.sat_solver.proofs.formula.is_true.Goals as goal

pub returns-in-True : goal.returns-in-True
returns-in-True c = says_true c.args.solver.now.trail c.args.var c.in-True.ensures.stands.1

pub returns-in-False : goal.returns-in-False
returns-in-False c = says_not_true c.args.solver.now.trail c.args.var c.value.result c.value.ensures.stands c.in-False.is
