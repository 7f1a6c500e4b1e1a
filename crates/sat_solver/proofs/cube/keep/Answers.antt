-- The literal is open, and no conflict follows from it.
use Rattle.unit_propagation.proofs.ExtendsLaws.{extends_both, full_continues}
use Rattle.refutation_checker.proofs.OpenLaws.{is_open}
use Rattle.sat_solver.proofs.DecidingLemmas.{decided_conflict}
use Rattle.sat_solver.proofs.cube.keep.Goals as goal

pub decide-requires-clause-is_open : goal.decide-requires-clause-is_open
decide-requires-clause-is_open c = is_open c.args.solver.now c.args.l c.requires.full c.requires.leaves_open

pub unreachable-requires : goal.unreachable-requires
unreachable-requires c =
    c.requires.no_conflict (decided_conflict c.args.solver.now c.decide.new.self c.args.l c.decide.ensures.decided c.decide.ensures.decisions c.in-Some.ensures.conflicts)

pub returns-clause-extends : goal.returns-clause-extends
returns-clause-extends c = extends_both c.args.solver.now c.decide.new.self c.propagate.new.self c.args.l c.decide.ensures.decided c.in-None.ensures.continues

pub returns-clause-full : goal.returns-clause-full
returns-clause-full c = full_continues c.decide.new.self c.propagate.new.self c.in-None.ensures.continues c.in-None.ensures.all_set
