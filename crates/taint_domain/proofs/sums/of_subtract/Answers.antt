use Rattle.taint_domain.proofs.MayBeLemmas.{least_is, greatest_is}
use Rattle.taint_domain.proofs.SumLemmas.{sub_masks_all, sub_masks_only}
use Rattle.taint_domain.proofs.sums.of_subtract.Goals as goal

pub returns-clause-all : goal.returns-clause-all
returns-clause-all c =
    let a = c.args.a.now in
    let b = c.args.b.now in
    sub_masks_all a b _ c.requires (cc (least_is a, least_is b, greatest_is a, greatest_is b))

pub returns-clause-only : goal.returns-clause-only
returns-clause-only c =
    let a = c.args.a.now in
    let b = c.args.b.now in
    sub_masks_only a b _ c.requires (cc (least_is a, least_is b, greatest_is a, greatest_is b))
