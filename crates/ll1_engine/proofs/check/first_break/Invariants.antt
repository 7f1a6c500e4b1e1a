use Rattle.std.proofs.Common.{ℕ, ◌<◌}
use Rattle.ll1_engine.specs.declared.grammar.Row.{Row}
use Rattle.ll1_engine.specs.Table.{IsRow}
use Rattle.ll1_engine.specs.declared.fault.Break.{Break}
use Rattle.ll1_engine.specs.Conditions.{Meets}
use Rattle.ll1_engine.proofs.check.first_break.Given as goal

abbrev pub invariant-loop-row : goal.invariant-loop-row
invariant-loop-row l = (j : ℕ) (s : Row) (a : Break) → j < l.row → IsRow l.rows j s → Meets l.rows j s a
