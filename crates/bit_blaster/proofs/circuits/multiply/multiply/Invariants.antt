use Rattle.bit_blaster.specs.Multiplier.{GivesRows}
use Rattle.bit_blaster.specs.Netlist.{Extends}
use Rattle.bit_blaster.proofs.circuits.multiply.multiply.Given as goal

abbrev pub invariant-loop-i : goal.invariant-loop-i
invariant-loop-i l = record {
  extends : Extends l.initial.circuit l.circuit;
  gives : GivesRows l.i l.initial.circuit l.circuit l.a l.b l.total.items l.place.items;
}
