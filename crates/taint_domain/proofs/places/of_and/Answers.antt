use Rattle.std.proofs.Common.{◌≡◌, sym, subst}
use Rattle.std.specs.Prelude.{bit_and}
use Rattle.bits_core.specs.declared.operator.Op.TheVariants.{And}
use Rattle.taint_domain.specs.Results.{ResultOf, MasksAll, MasksOnly}
use Rattle.taint_domain.proofs.BitwiseLemmas.{and_mask, and_mask_is, and_masks_all, and_masks_only}
use Rattle.taint_domain.proofs.places.of_and.Goals as goal

pub returns-clause-all : goal.returns-clause-all
returns-clause-all c =
    let a = c.args.a.now in
    let b = c.args.b.now in
    let e : c.apply.result.value ≡ and_mask a b = cc (and_mask_is a b) in
    subst (MasksAll (ResultOf And a b) (bit_and a.number.value b.number.value)) (sym e) (and_masks_all a b)

pub returns-clause-only : goal.returns-clause-only
returns-clause-only c =
    let a = c.args.a.now in
    let b = c.args.b.now in
    let e : c.apply.result.value ≡ and_mask a b = cc (and_mask_is a b) in
    subst (MasksOnly (ResultOf And a b) (bit_and a.number.value b.number.value)) (sym e) (and_masks_only a b)
