-- Propagation goes on, and nothing is decided.
use Rattle.refutation_checker.proofs.CubesLemmas.{settled_conflict, settled_full}
use Rattle.refutation_checker.proofs.root.settle.Goals as goal

pub returns-in-Some-clause-settled : goal.returns-in-Some-clause-settled
returns-in-Some-clause-settled c =
    settled_conflict c.args.root.now c.propagate.new.self c.in-Some.ensures.continues (c.requires.decides c.if-conflict.false) c.in-Some.ensures.conflicts

pub returns-in-None-clause-settled : goal.returns-in-None-clause-settled
returns-in-None-clause-settled c =
    settled_full c.args.root.now c.propagate.new.self c.in-None.ensures.continues (c.requires.decides c.if-conflict.false) c.in-None.ensures.all_set c.in-None.ensures.none
