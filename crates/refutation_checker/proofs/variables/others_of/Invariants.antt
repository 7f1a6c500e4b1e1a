-- The variables past the inputs of the clauses before the index.
use Rattle.std.proofs.Common.{ℕ, take}
use Rattle.std.specs.Prelude.{◌↔◌, Any, Contains}
use Rattle.refutation_checker.specs.Variables.{AreOthers, IsOther}
use Rattle.refutation_checker.proofs.variables.others_of.Given as goal

abbrev pub invariant-loop-clause : goal.invariant-loop-clause
invariant-loop-clause l = record {
  range : AreOthers l.inputs l.others.items;
  are : (var : ℕ) → Contains l.others.items var ↔ Any (Any (IsOther l.inputs var)) (take l.clause-index l.clauses);
}
