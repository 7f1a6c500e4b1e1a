-- The step of the loop, and what it has given at its end.
use Rattle.std.proofs.Common.{◌+◌, List, take, arith, sym, subst}
use Rattle.bits_core.specs.Circuit.{bitwise}
use Rattle.bit_blaster.specs.declared.wire.Wire.{Wire}
use Rattle.bit_blaster.specs.Word.{GivesBits, bit_function}
use Rattle.bit_blaster.proofs.NetlistLemmas.{extends_along}
use Rattle.bit_blaster.proofs.WordLemmas.{bitwise_step, bitwise_all}
use Rattle.bit_blaster.proofs.circuit.Circuit.bit_by_bit.Goals as goal

pub loop-i-preserved : goal.loop-i-preserved
loop-i-preserved c = record {
  extends = extends_along c.args.self.now c.loop-i.self c.bit_gate.new.self c.loop-i.invariant.extends c.in_ok-bit_gate.ensures.extends;
  gives =
      subst (λ (word : List Wire). GivesBits (c.loop-i.i + 1) (λ xs ys. bitwise (bit_function c.args.gate) (take (c.loop-i.i + 1) xs) (take (c.loop-i.i + 1) ys))
      c.args.self.now c.bit_gate.new.self c.args.a.now c.args.b.now word) (sym c.in_ok-push.ensures.items)
      (bitwise_step (bit_function c.args.gate) c.args.self.now c.loop-i.self c.bit_gate.new.self c.args.a.now c.args.b.now c.loop-i.word.items
      c.loop-i.i _ _ c.in_ok-bit_gate.field-0 c.loop-i-test.true c.requires.long c.loop-i.invariant.extends c.in_ok-bit_gate.ensures.extends
      c.loop-i.invariant.gives c.in_ok-bit_gate.ensures.gives);
}

pub returns-clause-gives : goal.returns-clause-gives
returns-clause-gives c =
    bitwise_all (bit_function c.args.gate) c.args.self.now c.loop-i.self c.args.a.now c.args.b.now c.loop-i.word.items c.loop-i.i
    (omega (arith, c.loop-i-test.false, c.loop-i.auto.i-end)) c.loop-i.invariant.gives
