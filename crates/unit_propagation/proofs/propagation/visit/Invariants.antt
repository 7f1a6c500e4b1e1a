-- Each clause is ready also for the literal at the head, or is still ahead in the list.
use Rattle.std.proofs.Common.{◌-◌, length}
use Rattle.unit_propagation.specs.Watching.{list_at}
use Rattle.unit_propagation.proofs.VisitLemmas.{Visited}
use Rattle.unit_propagation.proofs.propagation.visit.Given as goal

abbrev pub invariant-loop-place : goal.invariant-loop-place
invariant-loop-place l = Visited l.initial.watched l.initial.assignment l.head l.falsified l.watched l.assignment l.place

abbrev pub decreases-loop-place : goal.decreases-loop-place
decreases-loop-place l = length (list_at l.watched.lists l.falsified) - l.place
