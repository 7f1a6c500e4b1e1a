-- The literals before the index in the variables' own numbers.
use Rattle.std.proofs.Common.{◌≡◌, take}
use Rattle.refutation_checker.specs.Variables.{external_clause}
use Rattle.refutation_checker.proofs.variables.Variables.external_clause.Given as goal

abbrev pub invariant-loop-l : goal.invariant-loop-l
invariant-loop-l l = l.lits.items ≡ external_clause l.self (take l.l-index l.clause)
