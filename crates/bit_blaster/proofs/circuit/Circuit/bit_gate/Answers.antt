-- Gate by gate.
use Rattle.std.proofs.Common.{subst, sym}
use Rattle.std.specs.Prelude.{IfOk}
use Rattle.bit_blaster.specs.declared.words.BitGate.{BitGate}
use Rattle.bit_blaster.specs.Netlist.{GivesTwo}
use Rattle.bit_blaster.specs.Word.{bit_function}
use Rattle.bit_blaster.proofs.circuit.Circuit.bit_gate.Goals as goal

pub returns-in-And-clause-gives : goal.returns-in-And-clause-gives
returns-in-And-clause-gives c =
    subst (λ (g : BitGate). IfOk c.and.result (GivesTwo (bit_function g) c.args.self.now c.and.new.self c.args.a c.args.b)) (sym c.in-And.is) c.and.ensures.gives

pub returns-in-Or-clause-gives : goal.returns-in-Or-clause-gives
returns-in-Or-clause-gives c =
    subst (λ (g : BitGate). IfOk c.or.result (GivesTwo (bit_function g) c.args.self.now c.or.new.self c.args.a c.args.b)) (sym c.in-Or.is) c.or.ensures.gives

pub returns-in-Xor-clause-gives : goal.returns-in-Xor-clause-gives
returns-in-Xor-clause-gives c =
    subst (λ (g : BitGate). IfOk c.xor.result (GivesTwo (bit_function g) c.args.self.now c.xor.new.self c.args.a c.args.b)) (sym c.in-Xor.is) c.xor.ensures.gives
