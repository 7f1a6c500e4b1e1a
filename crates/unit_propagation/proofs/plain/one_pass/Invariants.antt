-- The clauses before the index say nothing, or the trail has grown.
use Rattle.std.proofs.Common.{◌≡◌, ◌≤◌, length, take}
use Rattle.unit_propagation.specs.Plain.{Grew}
use Rattle.unit_propagation.proofs.PlainLemmas.{SoFar}
use Rattle.unit_propagation.proofs.plain.one_pass.Given as goal

abbrev pub invariant-loop-number : goal.invariant-loop-number
invariant-loop-number l = record {
  width : l.assignment.width ≡ l.initial.assignment.width;
  fits : length l.assignment.trail ≤ l.assignment.width;
  grows : length l.initial.assignment.trail ≤ length l.assignment.trail;
  grew : Grew l.clauses l.initial.assignment.trail l.assignment.trail;
  so_far : SoFar (take l.number l.clauses) l.initial.assignment.trail l.assignment.trail l.changed;
}
