-- The literal of the trail at the place falsifies its negation, and no literal before does.
use Rattle.std.proofs.Common.{◌-◌, arith, ◌∙◌}
use Rattle.unit_propagation.proofs.TrailLemmas.{pick_at}
use Rattle.unit_propagation.proofs.choice.latest_before.Goals as goal

pub returns-in-Some : goal.returns-in-Some
returns-in-Some c =
    pick_at c.args.assignment.now.trail c.args.clause.now c.args.before (c.loop-place.place - 1) c.nth.result c.in-Some.literal (omega (arith, c.loop-place.invariant, c.loop-place-test.true)) c.requires c.nth.ensures.is (c.in-Some.ensures.is ∙ c.not-falsified.ensures) c.nth.ensures.fresh c.in-Some.ensures.stands
