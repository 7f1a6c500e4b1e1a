use Rattle.std.proofs.Common.{◌≡◌, ◌<◌, drop, length}
use Rattle.std.specs.List.{AllByRecursion}
use Rattle.ll1_engine.specs.Marks.{marked, all_in}
use Rattle.ll1_engine.proofs.sets.all_marked.Given as goal

abbrev pub invariant-loop-symbol : goal.invariant-loop-symbol
invariant-loop-symbol l =
    record {
      below : AllByRecursion (λ y. y < length l.marks) (drop l.symbol-index l.symbols);
      rest : all_in (marked l.marks) (drop l.symbol-index l.symbols) ≡ all_in (marked l.marks) l.symbols;
    }
