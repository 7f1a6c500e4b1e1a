-- The literals before the index are decided.
use Rattle.std.proofs.Common.{◌≡◌, ◌++◌, take}
use Rattle.unit_propagation.specs.Propagation.{decisions, Extends}
use Rattle.refutation_checker.proofs.decide.decide_all.Given as goal

abbrev pub invariant-loop-l : goal.invariant-loop-l
invariant-loop-l l = record {
  extends : Extends l.initial.root l.root;
  decides : decisions l.root ≡ decisions l.initial.root ++ take l.l-index l.lits;
}
