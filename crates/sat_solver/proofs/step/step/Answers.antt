-- Nothing is decided where propagation ended without a conflict.
use Rattle.sat_solver.proofs.DecidingLemmas.{reached_root}
use Rattle.sat_solver.proofs.step.step.Goals as goal

pub go_on-requires-clause-reached : goal.go_on-requires-clause-reached
go_on-requires-clause-reached c =
    reached_root c.args.inputs c.args.solver.now c.propagate.new.self c.in-None.ensures.continues c.requires.ready.decides c.in-None.ensures.all_set c.in-None.ensures.none
