-- The step of the loop, and what it has given at its end.
use Rattle.std.proofs.Common.{List, ◌++◌, length, min, false, arith, sym, ap, ◌∙◌, subst}
use Rattle.bit_blaster.specs.declared.shifter.Direction.TheVariants.{Left}
use Rattle.bit_blaster.specs.declared.wire.Wire.{Wire}
use Rattle.bit_blaster.specs.declared.wire.Wire.TheVariants.{Known}
use Rattle.bit_blaster.specs.Multiplier.{GivesRows}
use Rattle.bit_blaster.specs.Shifter.{shifted}
use Rattle.bit_blaster.proofs.NetlistLemmas.{extends_along, extends_itself}
use Rattle.bit_blaster.proofs.MultiplierLemmas.{rows_none, rows_step_by, computes_multiply}
use Rattle.bit_blaster.proofs.circuits.multiply.multiply.Goals as goal

pub loop-i-init : goal.loop-i-init
loop-i-init c = record {
  extends = extends_itself c.args.circuit.now;
  gives =
      subst (λ (us : List Wire). GivesRows 0 c.args.circuit.now c.args.circuit.now c.args.a.now c.args.b.now c.in_ok-total.total.items us)
      (sym (c.in_ok-extend_from_slice.ensures.items ∙ ap (λ (us : List Wire). us ++ c.args.a.now) c.new-place.ensures.items))
      (rows_none c.args.circuit.now c.args.a.now c.args.b.now c.in_ok-total.total.items c.requires.first c.in_ok-total.ensures);
}

pub loop-i-preserved : goal.loop-i-preserved
loop-i-preserved c = record {
  extends =
      extends_along c.args.circuit.now c.loop-i.circuit c.sum.new.circuit c.loop-i.invariant.extends
      (extends_along c.loop-i.circuit c.gated.new.circuit c.sum.new.circuit c.in_ok-row.ensures.extends c.in_ok-total-2.ensures.extends);
  gives =
      rows_step_by c.args.circuit.now c.loop-i.circuit c.gated.new.circuit c.sum.new.circuit c.args.a.now c.args.b.now c.loop-i.total.items
      c.loop-i.place.items c.in_ok-row.row.items c.deref-in-loop-i.result.now c.deref-in-loop-i-2.result.now c.deref.result.now c.in_ok-total-2.total.items
      c.in_ok-place.place.items c.loop-i.i _ c.loop-i-test.true c.loop-i.invariant.extends c.in_ok-row.ensures.extends
      c.in_ok-total-2.ensures.extends c.loop-i.invariant.gives
      c.deref.ensures.value c.in_ok-row.ensures.gives
      c.deref-in-loop-i.ensures.value c.deref-in-loop-i-2.ensures.value c.in_ok-total-2.ensures.gives
      (c.in_ok-place.ensures ∙ ap (λ (us : List Wire). shifted Left (Known false) (min 1 (length us)) us) c.deref-in-loop-i-3.ensures.value);
}

pub returns-clause-computes : goal.returns-clause-computes
returns-clause-computes c =
    computes_multiply c.args.circuit.now c.loop-i.circuit c.args.a.now c.args.b.now c.loop-i.total.items c.loop-i.place.items c.loop-i.i
    (omega (arith, c.loop-i-test.false, c.loop-i.auto.i-end)) c.loop-i.invariant.gives

pub returns-in_err-row-clause-extends : goal.returns-in_err-row-clause-extends
returns-in_err-row-clause-extends c =
    extends_along c.args.circuit.now c.loop-i.circuit c.gated.new.circuit c.loop-i.invariant.extends c.gated.ensures.extends

pub returns-in_err-total-2-clause-extends : goal.returns-in_err-total-2-clause-extends
returns-in_err-total-2-clause-extends c =
    extends_along c.args.circuit.now c.loop-i.circuit c.sum.new.circuit c.loop-i.invariant.extends
    (extends_along c.loop-i.circuit c.gated.new.circuit c.sum.new.circuit c.in_ok-row.ensures.extends c.sum.ensures.extends)

pub returns-in_err-place-clause-extends : goal.returns-in_err-place-clause-extends
returns-in_err-place-clause-extends c =
    extends_along c.args.circuit.now c.loop-i.circuit c.sum.new.circuit c.loop-i.invariant.extends
    (extends_along c.loop-i.circuit c.gated.new.circuit c.sum.new.circuit c.in_ok-row.ensures.extends c.in_ok-total-2.ensures.extends)
