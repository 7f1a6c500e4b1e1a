-- The clauses before the index were added.
use Rattle.std.proofs.Common.{◌≡◌, [], take}
use Rattle.std.specs.Prelude.{All}
use Rattle.unit_propagation.specs.Units.{IsWithin}
use Rattle.refutation_checker.specs.Variables.{width, external_clauses}
use Rattle.refutation_checker.proofs.root.root_of.Given as goal

abbrev pub invariant-loop-clause : goal.invariant-loop-clause
invariant-loop-clause l = record {
  size : l.root.width ≡ width l.variables;
  clauses : external_clauses l.variables l.root.clauses ≡ take l.clause-index l.clauses;
  within : All (IsWithin (width l.variables)) l.root.clauses;
  trail : l.root.trail ≡ [];
}
