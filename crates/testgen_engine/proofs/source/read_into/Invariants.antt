use Rattle.std.proofs.Common.{◌≡◌, ◌-◌, ◌≤◌, IsTrue, false, length, take}
use Rattle.tg_base.specs.Moment.{KeepsWriting}
use Rattle.testgen_engine.specs.declared.source.TheConstants.{MOST_BYTES}
use Rattle.testgen_engine.specs.Source.{HasRead}
use Rattle.testgen_engine.proofs.source.read_into.Given as goal

abbrev pub invariant-loop-len : goal.invariant-loop-len
invariant-loop-len g l =
    let first = g.D.Desk.moment l.fn.desk in
    let now = g.D.Desk.moment l.desk in
    record {
      within : l.len ≤ length l.buffer;
      room : length l.buffer ≡ MOST_BYTES;
      read : HasRead first now l.name (take l.len l.buffer) false;
      readable : IsTrue now.readable;
      faults : now.read_faults ≡ first.read_faults;
      stays : KeepsWriting first now;
    }

abbrev pub decreases-loop-len : goal.decreases-loop-len
decreases-loop-len g l = length l.buffer - l.len
