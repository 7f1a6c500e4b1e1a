use Rattle.std.proofs.Common.{ℕ, ◌<◌, Some}
use Rattle.ll1_engine.specs.declared.grammar.Row.{Row}
use Rattle.ll1_engine.specs.Table.{IsRow}
use Rattle.ll1_engine.specs.First.{BeginsWith, InFollow}
use Rattle.ll1_engine.proofs.check.begins_and_follows.Given as goal

abbrev pub invariant-loop-token : goal.invariant-loop-token
invariant-loop-token l = (r : Row) → IsRow l.rows l.k r → (t : ℕ) → t < l.token → BeginsWith l.rows r.right t → ¬ InFollow l.rows r.left (Some t)
