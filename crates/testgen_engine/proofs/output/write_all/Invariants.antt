use Rattle.std.proofs.Common.{◌≡◌, ℕ, ◌++◌, List, length}
use Rattle.tg_base.specs.Moment.{KeepsReading}
use Rattle.testgen_engine.specs.Outputs.{Adds, only}
use Rattle.testgen_engine.proofs.output.write_all.Given as goal

abbrev pub invariant-loop-rest : goal.invariant-loop-rest
invariant-loop-rest g l =
    let first = g.D.Desk.moment l.initial.desk in
    let now = g.D.Desk.moment l.desk in
    record {
      prefix : (prefix : List ℕ) × (l.text ≡ prefix ++ l.rest) × Adds first now (only l.out prefix);
      faults : now.write_faults ≡ first.write_faults;
      stays : KeepsReading first now;
    }

abbrev pub decreases-loop-rest : goal.decreases-loop-rest
decreases-loop-rest g l = length l.rest
