use Rattle.std.proofs.Common.{◌+◌, take}
use Rattle.bit_blaster.specs.Netlist.{Extends}
use Rattle.bit_blaster.specs.Word.{GivesCarries}
use Rattle.bit_blaster.proofs.circuit.Circuit.carries.Given as goal

abbrev pub invariant-loop-i : goal.invariant-loop-i
invariant-loop-i l = record {
  extends : Extends l.initial.self l.self;
  gives : GivesCarries (l.i + 1) (take l.i) (take l.i) l.initial.self l.self l.a l.b l.fn.first l.last l.all.items;
}
