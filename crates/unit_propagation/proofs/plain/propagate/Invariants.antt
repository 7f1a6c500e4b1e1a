-- The trail has grown by what propagation sets, and each pass but the last makes it longer.
use Rattle.std.proofs.Common.{◌≡◌, ◌≤◌, ◌-◌, length}
use Rattle.unit_propagation.specs.Plain.{Grew}
use Rattle.unit_propagation.proofs.plain.propagate.Given as goal

abbrev pub invariant-loop : goal.invariant-loop
invariant-loop l = record {
  width : l.assignment.width ≡ l.initial.assignment.width;
  fits : length l.assignment.trail ≤ l.assignment.width;
  grew : Grew l.clauses l.initial.assignment.trail l.assignment.trail;
}

abbrev pub decreases-loop : goal.decreases-loop
decreases-loop l = l.assignment.width - length l.assignment.trail
