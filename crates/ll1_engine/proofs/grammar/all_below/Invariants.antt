use Rattle.std.proofs.Common.{◌<◌, drop}
use Rattle.std.specs.List.{AllByRecursion}
use Rattle.ll1_engine.proofs.grammar.all_below.Given as goal

abbrev pub invariant-loop-symbol : goal.invariant-loop-symbol
invariant-loop-symbol l = record {
  back : AllByRecursion (λ y. y < l.n) (drop l.symbol-index l.symbols) → AllByRecursion (λ y. y < l.n) l.symbols;
  on : AllByRecursion (λ y. y < l.n) l.symbols → AllByRecursion (λ y. y < l.n) (drop l.symbol-index l.symbols);
}
