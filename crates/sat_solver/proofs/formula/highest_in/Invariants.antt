-- No literal before the index has a higher variable.
use Rattle.std.proofs.Common.{◌≤◌, take}
use Rattle.std.specs.Prelude.{All}
use Rattle.sat_solver.proofs.formula.highest_in.Given as goal

abbrev pub invariant-loop-l : goal.invariant-loop-l
invariant-loop-l l = record {
  above : l.above ≤ l.highest;
  lits : All (λ m. m.var ≤ l.highest) (take l.l-index l.lits);
}
