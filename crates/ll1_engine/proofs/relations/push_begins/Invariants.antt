use Rattle.std.proofs.Common.{◌≡◌, ◌<◌, ◌++◌, drop, length}
use Rattle.std.specs.List.{AllByRecursion}
use Rattle.ll1_engine.specs.Marks.{marked}
use Rattle.ll1_engine.specs.Relations.{begin_pairs}
use Rattle.ll1_engine.proofs.relations.push_begins.Given as goal

abbrev pub invariant-loop-symbol : goal.invariant-loop-symbol
invariant-loop-symbol l =
    record {
      below : AllByRecursion (λ y. y < length l.nullable) (drop l.symbol-index l.symbols);
      rest : l.pairs.items ++ begin_pairs (marked l.nullable) l.left (drop l.symbol-index l.symbols) ≡ l.fn.pairs.items ++ begin_pairs (marked l.nullable) l.left l.symbols;
    }
