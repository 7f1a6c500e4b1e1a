use Rattle.std.proofs.Common.{◌≡◌, ◌≢◌, ℕ, ◌<◌, length}
use Rattle.std.specs.Prelude.{◌↔◌}
use Rattle.ll1_engine.specs.declared.grammar.Row.{Row}
use Rattle.ll1_engine.specs.Table.{IsRow}
use Rattle.ll1_engine.specs.Marks.{Has}
use Rattle.ll1_engine.proofs.analysis.token_marks.Given as goal

abbrev pub invariant-loop-row : goal.invariant-loop-row
invariant-loop-row l =
    record {
      size : length l.marks.items ≡ l.size;
      kept : (x : ℕ) → x < l.size → Has l.marks.items x ↔ ((k : ℕ) (r : Row) → k < l.row-index → IsRow l.rows k r → r.left ≢ x);
    }
