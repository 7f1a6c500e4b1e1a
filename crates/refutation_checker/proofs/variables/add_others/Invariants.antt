-- The variables past the inputs of the literals before the index were added.
use Rattle.std.proofs.Common.{take}
use Rattle.refutation_checker.specs.Variables.{AreOthers, AddsOthers}
use Rattle.refutation_checker.proofs.variables.add_others.Given as goal

abbrev pub invariant-loop-l : goal.invariant-loop-l
invariant-loop-l l = record {
  range : AreOthers l.inputs l.others.items;
  adds : AddsOthers l.inputs l.initial.others.items l.others.items (take l.l-index l.lits);
}
