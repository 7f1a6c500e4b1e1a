-- The literals before the index in internal numbers.
use Rattle.std.proofs.Common.{◌≡◌, take}
use Rattle.unit_propagation.specs.Units.{IsWithin}
use Rattle.refutation_checker.specs.Variables.{width, external_clause}
use Rattle.refutation_checker.proofs.variables.Variables.internal_clause.Given as goal

abbrev pub invariant-loop-l : goal.invariant-loop-l
invariant-loop-l l = record {
  is : external_clause l.self l.lits.items ≡ take l.l-index l.clause;
  within : IsWithin (width l.self) l.lits.items;
}
