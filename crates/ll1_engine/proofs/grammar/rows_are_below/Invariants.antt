use Rattle.std.proofs.Common.{ℕ, ◌<◌}
use Rattle.ll1_engine.specs.declared.grammar.Row.{Row}
use Rattle.ll1_engine.specs.Table.{IsRow, RowIsBelow}
use Rattle.ll1_engine.proofs.grammar.rows_are_below.Given as goal

abbrev pub invariant-loop-row : goal.invariant-loop-row
invariant-loop-row l = (k : ℕ) (r : Row) → k < l.row-index → IsRow l.rows k r → RowIsBelow l.n r
