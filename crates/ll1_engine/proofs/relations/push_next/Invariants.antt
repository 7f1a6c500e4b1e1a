use Rattle.std.proofs.Common.{◌≡◌, ◌<◌, ◌++◌, drop, length}
use Rattle.std.specs.List.{AllByRecursion}
use Rattle.ll1_engine.specs.Marks.{marked}
use Rattle.ll1_engine.specs.Relations.{next_pairs}
use Rattle.ll1_engine.proofs.relations.push_next.Given as goal

abbrev pub invariant-loop-i : goal.invariant-loop-i
invariant-loop-i l =
    record {
      below : AllByRecursion (λ y. y < length l.nullable) (drop l.i l.right);
      rest : l.pairs.items ++ next_pairs (marked l.nullable) (drop l.i l.right) ≡ l.fn.pairs.items ++ next_pairs (marked l.nullable) l.right;
    }
