-- The place does not grow.
use Rattle.std.proofs.Common.{◌≤◌}
use Rattle.unit_propagation.proofs.propagator.last_end.Given as goal

abbrev pub invariant-loop-end : goal.invariant-loop-end
invariant-loop-end l = l.end ≤ l.place

abbrev pub decreases-loop-end : goal.decreases-loop-end
decreases-loop-end l = l.end
