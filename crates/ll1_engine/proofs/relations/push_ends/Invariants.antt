use Rattle.std.proofs.Common.{◌≡◌, ◌<◌, ◌++◌, drop, length}
use Rattle.std.specs.List.{AllByRecursion}
use Rattle.ll1_engine.specs.Marks.{marked}
use Rattle.ll1_engine.specs.Relations.{end_pairs}
use Rattle.ll1_engine.proofs.relations.push_ends.Given as goal

abbrev pub invariant-loop-i : goal.invariant-loop-i
invariant-loop-i l =
    record {
      below : AllByRecursion (λ y. y < length l.nullable) (drop l.i l.right);
      rest : l.pairs.items ++ end_pairs (marked l.nullable) l.left (drop l.i l.right) ≡ l.fn.pairs.items ++ end_pairs (marked l.nullable) l.left l.right;
    }
