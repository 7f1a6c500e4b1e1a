-- The values agree with what is left of the trail.
use Rattle.std.proofs.Common.{◌≡◌, ◌≤◌, length, vec_len, take, min}
use Rattle.std.specs.Prelude.{vec_capacity}
use Rattle.unit_propagation.specs.Assigned.{Agrees}
use Rattle.unit_propagation.proofs.assignment.Assignment.undo_to.Given as goal

abbrev pub invariant-loop-self : goal.invariant-loop-self
invariant-loop-self l = record {
  agrees : Agrees l.self-inside.values.items l.self-inside.trail.items;
  trail : take l.place l.self-inside.trail.items ≡ take l.place l.initial.self-inside.trail.items;
  enough : min l.place (length l.initial.self-inside.trail.items) ≤ length l.self-inside.trail.items;
  fewer : length l.self-inside.trail.items ≤ length l.initial.self-inside.trail.items;
  causes : l.self-inside.causes.items ≡ l.initial.self-inside.causes.items;
  causes_room : vec_capacity l.self-inside.causes ≡ vec_capacity l.initial.self-inside.causes;
  width : length l.self-inside.values.items ≡ length l.initial.self-inside.values.items;
  room : length l.self-inside.values.items ≤ vec_capacity l.self-inside.trail;
}

abbrev pub decreases-loop-self : goal.decreases-loop-self
decreases-loop-self l = vec_len l.self-inside.trail
