-- What is kept of the literals before the place is decided, and conflicts with the others.
use Rattle.unit_propagation.specs.Propagation.{Extends}
use Rattle.sat_solver.specs.Reducing.{IsReduced}
use Rattle.sat_solver.proofs.cube.reduce.Given as goal

abbrev pub invariant-loop-place : goal.invariant-loop-place
invariant-loop-place l = record {
  extends : Extends l.initial.solver l.solver;
  reduced : IsReduced l.solver l.decided l.kept.items l.place;
}
