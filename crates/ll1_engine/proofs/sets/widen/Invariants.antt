use Rattle.std.proofs.Common.{ℕ, ◌<◌, Bool, List}
use Rattle.std.specs.Prelude.{IsFalse}
use Rattle.ll1_engine.specs.declared.grammar.Row.{Row}
use Rattle.ll1_engine.specs.Table.{IsRow}
use Rattle.ll1_engine.specs.Marks.{marked, Widens, AllDerive, ClosedAt}
use Rattle.ll1_engine.proofs.sets.widen.Given as goal

abbrev pub invariant-loop-row : goal.invariant-loop-row
invariant-loop-row l =
    record {
      widens : Widens l.fn.marks l.marks l.added;
      closed : IsFalse l.added → (k : ℕ) (r : Row) → k < l.row-index → IsRow l.rows k r → ClosedAt (marked l.marks) r;
      derives : (seed : List Bool) → AllDerive l.rows seed l.fn.marks → AllDerive l.rows seed l.marks;
    }
