-- As many cubes were derived as steps were made.
use Rattle.sat_solver.specs.Solving.{IsReady, HasCubes}
use Rattle.sat_solver.proofs.solver.solve.Given as goal

abbrev pub invariant-loop-count : goal.invariant-loop-count
invariant-loop-count l = record {
  ready : IsReady l.solver l.checker;
  cubes : HasCubes l.inputs l.clauses l.checker l.count;
}
