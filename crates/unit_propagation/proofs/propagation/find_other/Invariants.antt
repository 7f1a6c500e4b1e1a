-- The literals before the index are false, or the one to leave out.
use Rattle.std.proofs.Common.{◌≢◌, take}
use Rattle.std.specs.Prelude.{All}
use Rattle.unit_propagation.specs.Units.{IsFalse}
use Rattle.unit_propagation.proofs.propagation.find_other.Given as goal

abbrev pub invariant-loop-l : goal.invariant-loop-l
invariant-loop-l l = All (λ k. k ≢ l.other → IsFalse l.assignment.trail k) (take l.l-index l.clause)
