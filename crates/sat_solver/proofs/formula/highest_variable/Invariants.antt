-- No literal of a clause before the index has a higher variable.
use Rattle.std.proofs.Common.{◌≤◌, take}
use Rattle.std.specs.Prelude.{All}
use Rattle.sat_solver.proofs.formula.highest_variable.Given as goal

abbrev pub invariant-loop-clause : goal.invariant-loop-clause
invariant-loop-clause l = record {
  inputs : l.inputs ≤ l.highest;
  clauses : All (All (λ m. m.var ≤ l.highest)) (take l.clause-index l.clauses);
}
