-- The clauses before the first that is not settled have a true literal.
use Rattle.std.proofs.Common.{◌≡◌, ◌-◌, length}
use Rattle.unit_propagation.specs.Trail.{Implies}
use Rattle.unit_propagation.specs.Loose.{IsSettled}
use Rattle.unit_propagation.proofs.loose.set_loose.Given as goal

abbrev pub invariant-loop-loose : goal.invariant-loop-loose
invariant-loop-loose l = record {
  width : l.assignment.width ≡ l.initial.assignment.width;
  numbers : l.loose.numbers ≡ l.initial.loose.numbers;
  implies : Implies l.watched.clauses l.initial.assignment.trail l.initial.assignment.causes l.assignment.trail l.assignment.causes;
  settled : IsSettled l.watched.clauses l.assignment.trail l.loose;
}

abbrev pub decreases-loop-loose : goal.decreases-loop-loose
decreases-loop-loose l = length l.loose.numbers.items - l.loose.settled
