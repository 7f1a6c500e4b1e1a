use Rattle.std.proofs.Common.{take}
use Rattle.bit_blaster.specs.Netlist.{Extends}
use Rattle.bit_blaster.specs.Word.{GivesChosen}
use Rattle.bit_blaster.proofs.circuit.Circuit.choose_word.Given as goal

abbrev pub invariant-loop-i : goal.invariant-loop-i
invariant-loop-i l = record {
  extends : Extends l.initial.self l.self;
  gives : GivesChosen l.i (take l.i) l.initial.self l.self l.condition l.a l.b l.word.items;
}
