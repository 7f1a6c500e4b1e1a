-- The step of the loop, and what it has given at its end.
use Rattle.std.proofs.Common.{◌+◌, List, take, arith, sym, subst}
use Rattle.bit_blaster.specs.declared.wire.Wire.{Wire}
use Rattle.bit_blaster.specs.Word.{GivesCarries}
use Rattle.bit_blaster.proofs.NetlistLemmas.{extends_along}
use Rattle.bit_blaster.proofs.WordLemmas.{carries_step, carries_all}
use Rattle.bit_blaster.proofs.circuit.Circuit.carries.Goals as goal

pub loop-i-preserved : goal.loop-i-preserved
loop-i-preserved c = record {
  extends = extends_along c.args.self.now c.loop-i.self c.majority.new.self c.loop-i.invariant.extends c.in_ok-carry.ensures.extends;
  gives =
      subst (λ (word : List Wire). GivesCarries (c.loop-i.i + 1 + 1) (take (c.loop-i.i + 1)) (take (c.loop-i.i + 1)) c.args.self.now
      c.majority.new.self c.args.a.now c.args.b.now c.args.first c.in_ok-carry.carry word) (sym c.in_ok-push-2.ensures.items)
      (carries_step c.args.self.now c.loop-i.self c.majority.new.self c.args.a.now c.args.b.now c.loop-i.all.items c.loop-i.i
      c.args.first c.loop-i.last _ _ c.in_ok-carry.carry c.loop-i-test.true c.requires.long c.loop-i.invariant.extends
      c.in_ok-carry.ensures.extends c.loop-i.invariant.gives c.in_ok-carry.ensures.gives);
}

pub returns-clause-gives : goal.returns-clause-gives
returns-clause-gives c =
    carries_all c.args.self.now c.loop-i.self c.args.a.now c.args.b.now c.loop-i.all.items c.args.first c.loop-i.last c.loop-i.i
    (omega (arith, c.loop-i-test.false, c.loop-i.auto.i-end)) c.requires.long c.loop-i.invariant.gives

pub returns-in_err-carry-clause-extends : goal.returns-in_err-carry-clause-extends
returns-in_err-carry-clause-extends c =
    extends_along c.args.self.now c.loop-i.self c.majority.new.self c.loop-i.invariant.extends c.majority.ensures.extends

pub returns-in_err-push-2-clause-extends : goal.returns-in_err-push-2-clause-extends
returns-in_err-push-2-clause-extends c =
    extends_along c.args.self.now c.loop-i.self c.majority.new.self c.loop-i.invariant.extends c.majority.ensures.extends
