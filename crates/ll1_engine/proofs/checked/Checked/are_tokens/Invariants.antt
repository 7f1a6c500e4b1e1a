use Rattle.std.proofs.Common.{◌<◌, drop}
use Rattle.std.specs.List.{AllByRecursion}
use Rattle.ll1_engine.specs.Table.{IsToken}
use Rattle.ll1_engine.proofs.checked.Checked.are_tokens.Given as goal

abbrev pub invariant-loop-symbol : goal.invariant-loop-symbol
invariant-loop-symbol g l =
    record {
      back : AllByRecursion (λ t. (t < g.row.S) × IsToken l.self t) (drop l.symbol-index l.symbols) → AllByRecursion (λ t. (t < g.row.S) × IsToken l.self t) l.symbols;
      on : AllByRecursion (λ t. (t < g.row.S) × IsToken l.self t) l.symbols → AllByRecursion (λ t. (t < g.row.S) × IsToken l.self t) (drop l.symbol-index l.symbols);
    }
