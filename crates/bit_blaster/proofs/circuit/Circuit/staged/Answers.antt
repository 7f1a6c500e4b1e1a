-- The step of the loop, and what it has given at its end.
use Rattle.std.proofs.Common.{rules, ℕ, length, min, arith, ap, ◌∙◌}
use Rattle.bit_blaster.proofs.NetlistLemmas.{extends_along}
use Rattle.bit_blaster.proofs.ShifterLemmas.{shifted_step_by, shifted_all, next_places}
use Rattle.bit_blaster.proofs.circuit.Circuit.staged.Goals as goal

pub loop-i-preserved : goal.loop-i-preserved
loop-i-preserved c = record {
  extends = extends_along c.args.self.now c.loop-i.self c.choose_word.new.self c.loop-i.invariant.extends c.in_ok-word.ensures.extends;
  gives =
      shifted_step_by c.args.direction c.args.self.now c.loop-i.self c.choose_word.new.self c.args.fill c.args.a.now c.args.amount.now
      c.loop-i.word.items c.deref.result.now c.in_ok-further.further.items c.deref-in-loop-i.result.now c.deref-in-loop-i-2.result.now
      c.in_ok-word.word.items c.loop-i.i c.loop-i.places _ c.loop-i-test.true c.loop-i.invariant.places c.deref.ensures.value
      c.in_ok-further.ensures c.deref-in-loop-i.ensures.value c.deref-in-loop-i-2.ensures.value c.loop-i.invariant.extends
      c.loop-i.invariant.gives c.in_ok-word.ensures.gives;
  places =
      c.min-places-in-loop-i.ensures ∙ ap (λ (m : ℕ). min m (length c.args.a.now)) c.saturating_mul.ensures
      ∙ next_places c.loop-i.i c.loop-i.places (length c.args.a.now) c.loop-i.invariant.places (search rules);
}

pub returns-clause-gives : goal.returns-clause-gives
returns-clause-gives c =
    shifted_all c.args.direction c.args.self.now c.loop-i.self c.args.fill c.args.a.now c.args.amount.now c.loop-i.word.items c.loop-i.i
    (omega (arith, c.loop-i-test.false, c.loop-i.auto.i-end)) c.loop-i.invariant.gives
