-- What was set on top is taken back.
use Rattle.unit_propagation.proofs.ExtendsLaws.{extends_undone}
use Rattle.sat_solver.proofs.trial.conflicts_with.Goals as goal

pub returns-clause-stays : goal.returns-clause-stays
returns-clause-stays c =
    extends_undone c.args.solver.now c.conflicts_above-answer.new.solver c.undo_to.new.self c.count-level.result c.conflicts_above-answer.ensures.extends c.count-level.ensures.trail c.count-level.ensures.reasons c.undo_to.ensures
