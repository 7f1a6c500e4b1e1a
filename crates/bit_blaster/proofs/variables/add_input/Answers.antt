-- One more bit.
use Rattle.std.proofs.Common.{arith}
use Rattle.bit_blaster.proofs.VariableLemmas.{one_more_input}
use Rattle.bit_blaster.proofs.variables.add_input.Goals as goal

pub loop-place-preserved : goal.loop-place-preserved
loop-place-preserved c =
    one_more_input c.args.vars.now.keys c.loop-place.vars.keys c.add.new.vars.keys c.args.first c.loop-place.place c.in-Some.bit
    (grind (arith, c.in-Some.ensures)) c.loop-place.invariant c.in_ok-add-in-Some.ensures
