-- The inputs extend what the guesses have set.
use Rattle.unit_propagation.proofs.ExtendsLaws.{extends_on_ok}
use Rattle.sat_solver.proofs.decide.decide_inputs.Goals as goal

pub returns-clause-extends : goal.returns-clause-extends
returns-clause-extends c = extends_on_ok _ _ c.args.solver.now c.decide_guesses.new.solver c.decide_rest.new.solver c.decide_rest.result c.in_ok-decide_guesses.ensures.extends c.decide_rest.ensures.extends
