-- The literals that were decided so far are reached, and the variables up to the place are set.
use Rattle.unit_propagation.specs.Propagation.{Extends}
use Rattle.sat_solver.specs.Deciding.{IsReached, AreSetTo}
use Rattle.sat_solver.proofs.decide.decide_rest.Given as goal

abbrev pub invariant-loop-place : goal.invariant-loop-place
invariant-loop-place l = record {
  extends : Extends l.initial.solver l.solver;
  reached : IsReached l.inputs l.solver l.decided.items;
  all_set : AreSetTo l.place l.solver.trail;
}
