use Rattle.std.proofs.Common.{sym, subst}
use Rattle.bits_core.specs.Number.{slice_value}
use Rattle.taint_domain.specs.Results.{ImageOf, MasksAll, MasksOnly}
use Rattle.taint_domain.proofs.MovedLemmas.{slice_moved, moved_masks_all, moved_masks_only}
use Rattle.taint_domain.proofs.taint_domain.TaintDomainDomain.slice.Goals as goal

pub returns-clause-all : goal.returns-clause-all
returns-clause-all c =
    let a = c.args.a.now in
    subst (MasksAll (ImageOf (λ x. slice_value x c.args.high c.args.low) a) (slice_value a.number.value c.args.high c.args.low))
    (sym c.slice-2.ensures.value) (moved_masks_all (slice_moved a c.args.high c.args.low))

pub returns-clause-only : goal.returns-clause-only
returns-clause-only c =
    let a = c.args.a.now in
    subst (MasksOnly (ImageOf (λ x. slice_value x c.args.high c.args.low) a) (slice_value a.number.value c.args.high c.args.low))
    (sym c.slice-2.ensures.value) (moved_masks_only (slice_moved a c.args.high c.args.low))
