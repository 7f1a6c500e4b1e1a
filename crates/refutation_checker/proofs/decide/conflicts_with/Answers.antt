-- The decisions are those of before with the literals.
use Rattle.std.proofs.Common.{inr}
use Rattle.refutation_checker.proofs.DecidingLemmas.{conflicts_same}
use Rattle.refutation_checker.proofs.decide.conflicts_with.Goals as goal

pub returns-in-Some-clause-conflicts : goal.returns-in-Some-clause-conflicts
returns-in-Some-clause-conflicts c = λ _.
    inr ((conflicts_same c.args.root.now c.decide_all.new.root c.args.lits.now c.if-not-decide_all.ensures.extends c.if-not-decide_all.ensures.decided).0 c.in-Some.ensures.conflicts)

pub returns-in-None-clause-none : goal.returns-in-None-clause-none
returns-in-None-clause-none c = λ conflicts.
    c.in-None.ensures.none ((conflicts_same c.args.root.now c.decide_all.new.root c.args.lits.now c.if-not-decide_all.ensures.extends c.if-not-decide_all.ensures.decided).1 conflicts)
