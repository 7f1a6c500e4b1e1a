-- Between the place and the index nothing is noted any more, and the reasons stay.
use Rattle.std.proofs.Common.{◌≡◌, ◌⊎◌, ◌<◌, ◌≤◌, ℕ, true, length, get_or}
use Rattle.std.specs.Prelude.{vec_capacity}
use Rattle.unit_propagation.specs.declared.assignment.Cause.{Cause}
use Rattle.unit_propagation.specs.Trail.{reasons_of}
use Rattle.unit_propagation.proofs.assignment.forget.Given as goal

abbrev pub invariant-loop-behind : goal.invariant-loop-behind
invariant-loop-behind l = record {
  size : length l.causes.items ≡ length l.initial.causes.items;
  reasons : reasons_of l.causes.items ≡ reasons_of l.initial.causes.items;
  ends : (k : ℕ) (d : Cause) → k < length l.causes.items → (get_or l.causes.items k d).ended ≡ true →
      ((k ≤ l.place) ⊎ (l.behind ≤ k)) × ((get_or l.initial.causes.items k d).ended ≡ true);
  capacity : vec_capacity l.causes ≡ vec_capacity l.initial.causes;
}
