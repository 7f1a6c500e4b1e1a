use Rattle.std.proofs.Common.{ℕ, ◌<◌}
use Rattle.ll1_engine.specs.declared.grammar.Row.{Row}
use Rattle.ll1_engine.specs.Table.{IsRow}
use Rattle.ll1_engine.specs.Conditions.{IsOther}
use Rattle.ll1_engine.proofs.check.first_other.Given as goal

abbrev pub invariant-loop-j : goal.invariant-loop-j
invariant-loop-j l = (r : Row) → IsRow l.rows l.k r → (j : ℕ) (s : Row) → j < l.j → ¬ IsOther l.rows l.k r j s
