-- What was set on top is taken back.
use Rattle.unit_propagation.proofs.ExtendsLaws.{extends_undone}
use Rattle.sat_solver.proofs.cube.least_cube.Goals as goal

pub returns-clause-stays : goal.returns-clause-stays
returns-clause-stays c =
    extends_undone c.args.solver.now c.reduce.new.solver c.undo_to.new.self c.count-level.result c.in_ok-cube.ensures.extends c.count-level.ensures.trail c.count-level.ensures.reasons c.undo_to.ensures
