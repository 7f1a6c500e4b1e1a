use Rattle.std.proofs.Common.{ℕ, ◌<◌, [], get_or}
use Rattle.ll1_engine.specs.declared.grammar.Row.{Row}
use Rattle.ll1_engine.specs.Table.{IsRow}
use Rattle.ll1_engine.specs.First.{BeginsWith}
use Rattle.ll1_engine.specs.Analysis.{OtherMarked}
use Rattle.ll1_engine.proofs.check.shares_first.Given as goal

abbrev pub invariant-loop-token : goal.invariant-loop-token
invariant-loop-token l = (r : Row) → IsRow l.rows l.k r → (t : ℕ) → t < l.token → BeginsWith l.rows r.right t → ¬ OtherMarked l.rows l.k r (get_or l.token_sets.first_rows.items t [])
