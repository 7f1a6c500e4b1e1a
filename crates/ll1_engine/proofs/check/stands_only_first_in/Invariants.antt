use Rattle.std.proofs.Common.{ℕ, ◌<◌}
use Rattle.ll1_engine.specs.declared.grammar.Row.{Row}
use Rattle.ll1_engine.specs.Table.{IsRow}
use Rattle.ll1_engine.proofs.ConditionsLemmas.{LacksPast}
use Rattle.ll1_engine.proofs.check.stands_only_first_in.Given as goal

abbrev pub invariant-loop-j : goal.invariant-loop-j
invariant-loop-j l = (j : ℕ) (s : Row) → j < l.j → IsRow l.rows j s → LacksPast l.token l.k j s
