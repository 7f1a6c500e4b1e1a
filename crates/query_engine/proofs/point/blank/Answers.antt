-- By the lemmas of a point with the variables so far.
use Rattle.std.proofs.Common.{arith}
use Rattle.std.proofs.lemmas.Option.{slice_get-get_or}
use Rattle.query_engine.proofs.BlankLemmas.{blank_all, blank_next}
use Rattle.query_engine.proofs.point.blank.Goals as goal

pub loop-var-preserved : goal.loop-var-preserved
loop-var-preserved c =
    blank_next c.args.vars.now c.loop-var.var-index c.loop-var.point c.add_bit.new.point _
    (slice_get-get_or c.args.vars.now c.loop-var.var-index _ c.loop-var-test.true) c.loop-var.invariant c.in_ok-add_bit.ensures

pub returns : goal.returns
returns c = blank_all c.args.vars.now c.loop-var.var-index c.loop-var.point (omega arith) c.loop-var.invariant
