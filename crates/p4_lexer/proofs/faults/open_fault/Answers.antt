use Rattle.p4_lexer.proofs.OpenFaultLemmas.{one_more_open, all_open}
use Rattle.p4_lexer.proofs.faults.open_fault.Goals as goal

pub loop-condition-preserved : goal.loop-condition-preserved
loop-condition-preserved c =
    one_more_open c.args.conditions.now c.loop-condition.condition-index _ c.loop-condition.best c.refusal_at.result c.keep.result c.loop-condition-test.true c.refusal_at.ensures
    c.keep.ensures.either c.keep.ensures.over c.keep.ensures.first c.loop-condition.invariant

pub returns : goal.returns
returns c = all_open c.args.conditions.now c.loop-condition.condition-index c.loop-condition.best c.loop-condition-test.false c.loop-condition.invariant
