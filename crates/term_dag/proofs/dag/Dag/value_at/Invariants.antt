-- The table has the terms so far.
use Rattle.std.proofs.Common.{◌≡◌, length}
use Rattle.term_dag.specs.Table.{IsTable}
use Rattle.term_dag.proofs.dag.Dag.value_at.Given as goal

abbrev pub invariant-loop-number : goal.invariant-loop-number
invariant-loop-number l = IsTable l.self l.point l.table.items × (length l.table.items ≡ l.number)
