use Rattle.std.proofs.Common.{◌≡◌, ◌++◌, drop}
use Rattle.ll1_engine.specs.Marks.{marked}
use Rattle.ll1_engine.specs.Relations.{begin_pairs, next_pairs, end_pairs, over}
use Rattle.ll1_engine.proofs.relations.relations_of.Given as goal

abbrev pub invariant-loop-row : goal.invariant-loop-row
invariant-loop-row l =
    record {
      begins : l.begins.items ++ over (λ r. begin_pairs (marked l.nullable) r.left r.right) (drop l.row-index l.rows) ≡ over (λ r. begin_pairs (marked l.nullable) r.left r.right) l.rows;
      next : l.next.items ++ over (λ r. next_pairs (marked l.nullable) r.right) (drop l.row-index l.rows) ≡ over (λ r. next_pairs (marked l.nullable) r.right) l.rows;
      ends : l.ends.items ++ over (λ r. end_pairs (marked l.nullable) r.left r.right) (drop l.row-index l.rows) ≡ over (λ r. end_pairs (marked l.nullable) r.left r.right) l.rows;
    }
