use Rattle.std.proofs.Common.{◌≡◌, ◌<◌, drop, length}
use Rattle.std.specs.List.{AllByRecursion}
use Rattle.ll1_engine.specs.Marks.{marked, begins_in}
use Rattle.ll1_engine.proofs.sets.begins.Given as goal

abbrev pub invariant-loop-symbol : goal.invariant-loop-symbol
invariant-loop-symbol l =
    record {
      first : AllByRecursion (λ y. y < length l.first) (drop l.symbol-index l.symbols);
      nullable : AllByRecursion (λ y. y < length l.nullable) (drop l.symbol-index l.symbols);
      rest : begins_in (marked l.first) (marked l.nullable) (drop l.symbol-index l.symbols) ≡ begins_in (marked l.first) (marked l.nullable) l.symbols;
    }
