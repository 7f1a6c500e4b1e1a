-- The new variables are open, and the room for all is there.
use Rattle.std.proofs.Common.{◌≡◌, ◌≤◌, ◌+◌, length}
use Rattle.std.specs.Prelude.{vec_capacity}
use Rattle.unit_propagation.specs.Assigned.{Agrees}
use Rattle.unit_propagation.proofs.assignment.Assignment.grow.Given as goal

abbrev pub invariant-loop : goal.invariant-loop
invariant-loop l = record {
  width : length l.self-inside.values.items ≡ length l.initial.self-inside.values.items + l.counter;
  agrees : Agrees l.self-inside.values.items l.fn.self.trail;
  trail : l.self-inside.trail.items ≡ l.fn.self.trail;
  causes : l.self-inside.causes.items ≡ l.fn.self.causes;
  trail_room : length l.initial.self-inside.values.items + l.more ≤ vec_capacity l.self-inside.trail;
  causes_room : length l.initial.self-inside.values.items + l.more ≤ vec_capacity l.self-inside.causes;
}
