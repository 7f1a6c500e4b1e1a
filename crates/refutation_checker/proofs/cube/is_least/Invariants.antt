-- The literals before the place are decided.
use Rattle.unit_propagation.specs.Propagation.{Extends}
use Rattle.refutation_checker.specs.Cubes.{IsReached}
use Rattle.refutation_checker.proofs.cube.is_least.Given as goal

abbrev pub invariant-loop-place : goal.invariant-loop-place
invariant-loop-place l = record {
  extends : Extends l.initial.root l.root;
  reached : IsReached l.root l.cube l.place;
}
