-- The place goes back.
use Rattle.std.proofs.Common.{◌≤◌}
use Rattle.unit_propagation.proofs.choice.latest_before.Given as goal

abbrev pub invariant-loop-place : goal.invariant-loop-place
invariant-loop-place l = l.place ≤ l.before

abbrev pub decreases-loop-place : goal.decreases-loop-place
decreases-loop-place l = l.place
