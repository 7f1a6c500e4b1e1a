use Rattle.std.proofs.Common.{◌≡◌, ℕ, sym, ap, ◌∙◌, subst}
use Rattle.bits_core.specs.Number.{extend_value}
use Rattle.taint_domain.specs.Results.{ImageOf, MasksAll, MasksOnly}
use Rattle.taint_domain.proofs.MovedLemmas.{extend_moved, moved_masks_all, moved_masks_only}
use Rattle.taint_domain.proofs.taint_domain.TaintDomainDomain.extend.Goals as goal

pub returns-clause-all : goal.returns-clause-all
returns-clause-all c =
    let a = c.args.a.now in
    let f = λ (x : ℕ). extend_value c.args.signed a.number.width x c.args.width in
    let mask : c.extend-2.result.value ≡ f a.mask.value =
    c.extend-2.ensures.value ∙ ap (λ (w : ℕ). extend_value c.args.signed w a.mask.value c.args.width) a.one_width in
    subst (MasksAll (ImageOf f a) (f a.number.value)) (sym mask) (moved_masks_all (extend_moved c.args.signed a c.args.width))

pub returns-clause-only : goal.returns-clause-only
returns-clause-only c =
    let a = c.args.a.now in
    let f = λ (x : ℕ). extend_value c.args.signed a.number.width x c.args.width in
    let mask : c.extend-2.result.value ≡ f a.mask.value =
    c.extend-2.ensures.value ∙ ap (λ (w : ℕ). extend_value c.args.signed w a.mask.value c.args.width) a.one_width in
    subst (MasksOnly (ImageOf f a) (f a.number.value)) (sym mask) (moved_masks_only (extend_moved c.args.signed a c.args.width))
