-- The step of the loop, and what it has given at its end.
use Rattle.std.proofs.Common.{arith}
use Rattle.bit_blaster.proofs.NetlistLemmas.{extends_along}
use Rattle.bit_blaster.proofs.ShifterLemmas.{some_step, some_all}
use Rattle.bit_blaster.proofs.circuit.Circuit.any.Goals as goal

pub loop-i-preserved : goal.loop-i-preserved
loop-i-preserved c = record {
  extends = extends_along c.args.self.now c.loop-i.self c.or.new.self c.loop-i.invariant.extends c.or.ensures.extends;
  gives =
      some_step c.args.self.now c.loop-i.self c.or.new.self c.args.word.now c.loop-i.i _ c.loop-i.some c.in_ok-some.some
      c.loop-i-test.true c.loop-i.invariant.extends c.loop-i.invariant.gives c.in_ok-some.ensures.gives;
}

pub returns-clause-gives : goal.returns-clause-gives
returns-clause-gives c =
    some_all c.args.self.now c.loop-i.self c.args.word.now c.loop-i.some c.loop-i.i
    (omega (arith, c.loop-i-test.false, c.loop-i.auto.i-end)) c.loop-i.invariant.gives
