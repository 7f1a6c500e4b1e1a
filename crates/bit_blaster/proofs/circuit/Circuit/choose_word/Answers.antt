-- The step of the loop, and what it has given at its end.
use Rattle.std.proofs.Common.{◌+◌, List, take, arith, sym, subst}
use Rattle.bit_blaster.specs.declared.wire.Wire.{Wire}
use Rattle.bit_blaster.specs.Word.{GivesChosen}
use Rattle.bit_blaster.proofs.NetlistLemmas.{extends_along}
use Rattle.bit_blaster.proofs.WordLemmas.{chosen_step, chosen_all}
use Rattle.bit_blaster.proofs.circuit.Circuit.choose_word.Goals as goal

pub loop-i-preserved : goal.loop-i-preserved
loop-i-preserved c = record {
  extends = extends_along c.args.self.now c.loop-i.self c.choose.new.self c.loop-i.invariant.extends c.in_ok-choose.ensures.extends;
  gives =
      subst (λ (word : List Wire). GivesChosen (c.loop-i.i + 1) (take (c.loop-i.i + 1)) c.args.self.now c.choose.new.self c.args.condition
      c.args.a.now c.args.b.now word) (sym c.in_ok-push.ensures.items)
      (chosen_step c.args.self.now c.loop-i.self c.choose.new.self c.args.condition c.args.a.now c.args.b.now c.loop-i.word.items
      c.loop-i.i _ _ c.in_ok-choose.field-0 c.loop-i-test.true c.requires.long c.loop-i.invariant.extends c.in_ok-choose.ensures.extends
      c.loop-i.invariant.gives c.in_ok-choose.ensures.gives);
}

pub returns-clause-gives : goal.returns-clause-gives
returns-clause-gives c =
    chosen_all c.args.self.now c.loop-i.self c.args.condition c.args.a.now c.args.b.now c.loop-i.word.items c.loop-i.i
    (omega (arith, c.loop-i-test.false, c.loop-i.auto.i-end)) c.requires.long c.loop-i.invariant.gives
