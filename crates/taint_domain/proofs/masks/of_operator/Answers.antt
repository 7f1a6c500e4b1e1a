use Rattle.std.proofs.Common.{sym, subst}
use Rattle.bits_core.specs.declared.operator.Op.TheVariants.{Add, Sub, And, Or, Xor, Cat}
use Rattle.taint_domain.specs.Masks.{IsMaskOf}
use Rattle.taint_domain.proofs.BitwiseLemmas.{xor_masks_all, xor_masks_only}
use Rattle.taint_domain.proofs.MovedLemmas.{cat_masks_all, cat_masks_only}
use Rattle.taint_domain.proofs.MaskLemmas.{saturating_row, least_mask, product_mask, not_mask, neg_mask}
use Rattle.taint_domain.proofs.masks.of_operator.Goals as goal

pub returns-in-Add-clause-mask : goal.returns-in-Add-clause-mask
returns-in-Add-clause-mask c =
    subst (λ op. IsMaskOf op c.args.a.now c.args.b.now c.of_add.result.value) (sym c.in-Add.is)
    (least_mask Add c.args.a.now c.args.b.now _ (λ e. absurd (cc)) c.of_add.ensures.all c.of_add.ensures.only)

pub returns-in-Sub-clause-mask : goal.returns-in-Sub-clause-mask
returns-in-Sub-clause-mask c =
    subst (λ op. IsMaskOf op c.args.a.now c.args.b.now c.of_subtract.result.value) (sym c.in-Sub.is)
    (least_mask Sub c.args.a.now c.args.b.now _ (λ e. absurd (cc)) c.of_subtract.ensures.all c.of_subtract.ensures.only)

pub returns-in-Mul-clause-mask : goal.returns-in-Mul-clause-mask
returns-in-Mul-clause-mask c =
    subst (λ op. IsMaskOf op c.args.a.now c.args.b.now c.of_multiply.result.value) (sym c.in-Mul.is)
    (product_mask c.args.a.now c.args.b.now _ c.of_multiply.ensures.all c.of_multiply.ensures.settled)

pub returns-in-AddSatU-clause-mask : goal.returns-in-AddSatU-clause-mask
returns-in-AddSatU-clause-mask c =
    saturating_row c.args.op c.args.a.now c.args.b.now c.of_saturating.result.value c.requires c.in-AddSatU.is
    (record { clear = c.of_saturating.ensures.clear; every = c.of_saturating.ensures.every })

pub returns-in-And-clause-mask : goal.returns-in-And-clause-mask
returns-in-And-clause-mask c =
    subst (λ op. IsMaskOf op c.args.a.now c.args.b.now c.of_and.result.value) (sym c.in-And.is)
    (least_mask And c.args.a.now c.args.b.now _ (λ e. absurd (cc)) c.of_and.ensures.all c.of_and.ensures.only)

pub returns-in-Or-clause-mask : goal.returns-in-Or-clause-mask
returns-in-Or-clause-mask c =
    subst (λ op. IsMaskOf op c.args.a.now c.args.b.now c.of_or.result.value) (sym c.in-Or.is)
    (least_mask Or c.args.a.now c.args.b.now _ (λ e. absurd (cc)) c.of_or.ensures.all c.of_or.ensures.only)

pub returns-in-Xor-clause-mask : goal.returns-in-Xor-clause-mask
returns-in-Xor-clause-mask c =
    let a = c.args.a.now in
    let b = c.args.b.now in
    subst (λ op. IsMaskOf op a b c.either.result.value) (sym c.in-Xor.is)
    (subst (IsMaskOf Xor a b) (sym c.either.ensures.value)
    (least_mask Xor a b _ (λ e. absurd (cc)) (xor_masks_all a b) (xor_masks_only a b)))

pub returns-in-Not-clause-mask : goal.returns-in-Not-clause-mask
returns-in-Not-clause-mask c =
    subst (λ op. IsMaskOf op c.args.a.now c.args.b.now c.args.a.now.mask.value) (sym c.in-Not.is) (not_mask c.args.a.now c.args.b.now)

pub returns-in-Neg-clause-mask : goal.returns-in-Neg-clause-mask
returns-in-Neg-clause-mask c =
    subst (λ op. IsMaskOf op c.args.a.now c.args.b.now c.of_subtract-in-Neg.result.value) (sym c.in-Neg.is)
    (neg_mask c.clear.result c.args.a.now c.args.b.now _ (cc) (cc) c.clear.ensures.clear
    c.of_subtract-in-Neg.ensures.all c.of_subtract-in-Neg.ensures.only)

pub returns-in-Cat-clause-mask : goal.returns-in-Cat-clause-mask
returns-in-Cat-clause-mask c =
    let a = c.args.a.now in
    let b = c.args.b.now in
    subst (λ op. IsMaskOf op a b c.apply.result.value) (sym c.in-Cat.is)
    (subst (IsMaskOf Cat a b) (sym (cc))
    (least_mask Cat a b _ (λ e. absurd (cc)) (cat_masks_all a b) (cat_masks_only a b)))
