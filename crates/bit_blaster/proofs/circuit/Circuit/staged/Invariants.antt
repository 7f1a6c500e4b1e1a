use Rattle.std.proofs.Common.{◌≡◌, ◌^◌, min, length, take}
use Rattle.bit_blaster.specs.Netlist.{Extends}
use Rattle.bit_blaster.specs.Shifter.{GivesShifted}
use Rattle.bit_blaster.proofs.circuit.Circuit.staged.Given as goal

abbrev pub invariant-loop-i : goal.invariant-loop-i
invariant-loop-i l = record {
  extends : Extends l.initial.self l.self;
  gives : GivesShifted l.direction (take l.i) l.initial.self l.self l.fill l.a l.amount l.word.items;
  places : l.places ≡ min (2 ^ l.i) (length l.a);
}
