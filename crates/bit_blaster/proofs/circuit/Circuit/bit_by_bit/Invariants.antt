use Rattle.std.proofs.Common.{take}
use Rattle.bits_core.specs.Circuit.{bitwise}
use Rattle.bit_blaster.specs.Netlist.{Extends}
use Rattle.bit_blaster.specs.Word.{GivesBits, bit_function}
use Rattle.bit_blaster.proofs.circuit.Circuit.bit_by_bit.Given as goal

abbrev pub invariant-loop-i : goal.invariant-loop-i
invariant-loop-i l = record {
  extends : Extends l.initial.self l.self;
  gives :
      GivesBits l.i (λ xs ys. bitwise (bit_function l.gate) (take l.i xs) (take l.i ys)) l.initial.self l.self l.a l.b l.word.items;
}
