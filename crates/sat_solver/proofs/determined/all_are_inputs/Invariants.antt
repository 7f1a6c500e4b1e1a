-- The clauses before the index are over inputs.
use Rattle.std.proofs.Common.{take}
use Rattle.std.specs.Prelude.{All}
use Rattle.refutation_checker.specs.Derivation.{IsInput}
use Rattle.sat_solver.proofs.determined.all_are_inputs.Given as goal

abbrev pub invariant-loop-clause : goal.invariant-loop-clause
invariant-loop-clause l = All (All (λ m. IsInput l.inputs m.var)) (take l.clause-index l.clause-items)
