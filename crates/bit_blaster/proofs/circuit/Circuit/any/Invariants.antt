use Rattle.std.proofs.Common.{take}
use Rattle.bit_blaster.specs.Netlist.{Extends}
use Rattle.bit_blaster.specs.Shifter.{GivesSome}
use Rattle.bit_blaster.proofs.circuit.Circuit.any.Given as goal

abbrev pub invariant-loop-i : goal.invariant-loop-i
invariant-loop-i l = record {
  extends : Extends l.initial.self l.self;
  gives : GivesSome (take l.i) l.initial.self l.self l.word l.some;
}
