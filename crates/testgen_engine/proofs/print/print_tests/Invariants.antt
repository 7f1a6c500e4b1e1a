use Rattle.std.proofs.Common.{◌≡◌, ℕ, List, ◌++◌, drop}
use Prim.Native.Nat.{suc}
use Rattle.tg_base.specs.declared.desk.Out.{Out}
use Rattle.tg_base.specs.Moment.{KeepsReading}
use Rattle.testgen_engine.specs.Outputs.{Adds}
use Rattle.testgen_engine.specs.Printing.{tests_text}
use Rattle.testgen_engine.proofs.print.print_tests.Given as goal

abbrev pub invariant-loop-index : goal.invariant-loop-index
invariant-loop-index g l =
    let first = g.D.Desk.moment l.initial.desk in
    let now = g.D.Desk.moment l.desk in
    record {
      done : (text : Out → List ℕ)
          × ((o : Out) → text o ++ tests_text l.program l.verdicts (suc l.index) (drop l.index l.tests) o ≡ tests_text l.program l.verdicts 1 l.tests o)
          × Adds first now text;
      faults : now.write_faults ≡ first.write_faults;
      stays : KeepsReading first now;
    }
