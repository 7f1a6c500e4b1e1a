-- The clauses are ready for the literals before the head.
use Rattle.std.proofs.Common.{◌≡◌, ◌≤◌, ◌-◌, length, take}
use Rattle.unit_propagation.specs.Trail.{Implies}
use Rattle.unit_propagation.specs.Watching.{IsIndexed}
use Rattle.unit_propagation.specs.Ready.{AllReady, KeepsReady}
use Rattle.unit_propagation.proofs.propagation.run.Given as goal

abbrev pub invariant-loop-head : goal.invariant-loop-head
invariant-loop-head l = record {
  width : l.watched.width ≡ l.initial.watched.width;
  assignment_width : l.assignment.width ≡ l.initial.assignment.width;
  clauses : l.watched.clauses ≡ l.initial.watched.clauses;
  implies : Implies l.initial.watched.clauses l.initial.assignment.trail l.initial.assignment.causes l.assignment.trail l.assignment.causes;
  keeps : KeepsReady l.initial.watched.clauses l.initial.watched.pairs l.watched.pairs l.initial.assignment.trail;
  ready : AllReady l.initial.watched.clauses l.watched.pairs l.assignment.trail (take l.head l.assignment.trail);
  head : l.head ≤ length l.assignment.trail;
  indexed : IsIndexed l.watched.width l.watched.clauses l.watched.pairs l.watched.lists;
}

abbrev pub decreases-loop-head : goal.decreases-loop-head
decreases-loop-head l = l.assignment.width - l.head
