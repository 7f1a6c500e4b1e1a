use Rattle.std.proofs.Common.{◌≡◌, ◌++◌, length}
use Rattle.std.specs.List.{flat_map, AllByRecursion}
use Rattle.testgen_engine.specs.Skeleton.{statement_text, FitsNineBits}
use Rattle.testgen_engine.proofs.skeleton.kinds_of.Given as goal

abbrev pub invariant-loop-kind : goal.invariant-loop-kind
invariant-loop-kind l = record {
  fit : AllByRecursion FitsNineBits l.kinds;
  whole : l.body ≡ flat_map statement_text l.kinds ++ l.rest;
}

abbrev pub decreases-loop-kind : goal.decreases-loop-kind
decreases-loop-kind l = length l.rest
