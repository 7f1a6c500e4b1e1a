-- The literals that were decided so far are reached.
use Rattle.unit_propagation.specs.Propagation.{Extends}
use Rattle.sat_solver.specs.Deciding.{IsReached}
use Rattle.sat_solver.proofs.decide.decide_guesses.Given as goal

abbrev pub invariant-loop-l : goal.invariant-loop-l
invariant-loop-l l = record {
  extends : Extends l.initial.solver l.solver;
  reached : IsReached l.inputs l.solver l.decided.items;
}
