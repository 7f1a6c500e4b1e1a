use Rattle.std.proofs.Common.{◌≡◌, ℕ, ◌<◌, length}
use Rattle.ll1_engine.specs.declared.grammar.Row.{Row}
use Rattle.ll1_engine.specs.Table.{IsRow}
use Rattle.ll1_engine.specs.Marks.{marked, begins_in}
use Rattle.ll1_engine.proofs.analysis.first_row_marks.Given as goal

abbrev pub invariant-loop-row : goal.invariant-loop-row
invariant-loop-row l =
    record {
      size : length l.marks.items ≡ l.row-index;
      told : (k : ℕ) (r : Row) → k < l.row-index → IsRow l.rows k r → marked l.marks.items k ≡ begins_in (marked l.first) (marked l.nullable) r.right;
    }
