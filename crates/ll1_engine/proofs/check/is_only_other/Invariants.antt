use Rattle.std.proofs.Common.{◌≡◌, ℕ, ◌<◌}
use Rattle.ll1_engine.specs.declared.grammar.Row.{Row}
use Rattle.ll1_engine.specs.Table.{IsRow}
use Rattle.ll1_engine.specs.Conditions.{IsOther}
use Rattle.ll1_engine.proofs.check.is_only_other.Given as goal

abbrev pub invariant-loop-i : goal.invariant-loop-i
invariant-loop-i l = (r : Row) → IsRow l.rows l.k r → (i : ℕ) (q : Row) → i < l.i → IsOther l.rows l.k r i q → i ≡ l.j
