-- The clauses before the index were added.
use Rattle.std.proofs.Common.{◌≡◌, ◌+◌, [], take}
use Rattle.sat_solver.proofs.formula.add_all.Given as goal

abbrev pub invariant-loop-clause : goal.invariant-loop-clause
invariant-loop-clause l = record {
  width : l.solver.width ≡ l.highest + 1;
  clauses : l.solver.clauses ≡ take l.clause-index l.clauses;
  trail : l.solver.trail ≡ [];
}
