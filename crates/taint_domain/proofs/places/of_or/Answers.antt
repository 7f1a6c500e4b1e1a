use Rattle.taint_domain.proofs.BitwiseLemmas.{or_masks_all, or_masks_only}
use Rattle.taint_domain.proofs.places.of_or.Goals as goal

pub returns-clause-all : goal.returns-clause-all
returns-clause-all c =
    or_masks_all c.args.a.now c.args.b.now c.complement.result c.complement-2.result c.requires
    (record { width = c.complement.ensures.width; value = c.complement.ensures.value; mask = c.complement.ensures.mask })
    (record { width = c.complement-2.ensures.width; value = c.complement-2.ensures.value; mask = c.complement-2.ensures.mask })
    c.of_and.result.value c.of_and.ensures.all

pub returns-clause-only : goal.returns-clause-only
returns-clause-only c =
    or_masks_only c.args.a.now c.args.b.now c.complement.result c.complement-2.result c.requires
    (record { width = c.complement.ensures.width; value = c.complement.ensures.value; mask = c.complement.ensures.mask })
    (record { width = c.complement-2.ensures.width; value = c.complement-2.ensures.value; mask = c.complement-2.ensures.mask })
    c.of_and.result.value c.of_and.ensures.only
