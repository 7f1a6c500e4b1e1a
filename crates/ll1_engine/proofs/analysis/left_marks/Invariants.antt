use Rattle.std.proofs.Common.{◌≡◌, ℕ, ◌<◌, length}
use Rattle.std.specs.Prelude.{IsTrue}
use Rattle.ll1_engine.specs.declared.grammar.Row.{Row}
use Rattle.ll1_engine.specs.Table.{IsRow}
use Rattle.ll1_engine.specs.Marks.{marked, Has, all_in}
use Rattle.ll1_engine.specs.Analysis.{HasRowWithin}
use Rattle.ll1_engine.proofs.analysis.left_marks.Given as goal

abbrev pub invariant-loop-row : goal.invariant-loop-row
invariant-loop-row l =
    record {
      size : length l.marks.items ≡ length l.set;
      sound : (x : ℕ) → Has l.marks.items x → HasRowWithin l.rows l.set x;
      whole : (k : ℕ) (r : Row) → k < l.row-index → IsRow l.rows k r → IsTrue (all_in (marked l.set) r.right) → Has l.marks.items r.left;
    }
