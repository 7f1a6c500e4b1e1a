use Rattle.taint_domain.proofs.ChoiceLemmas.{first_masks_all, first_masks_only, second_masks_all, second_masks_only, either_masks_all, either_masks_only}
use Rattle.taint_domain.proofs.places.of_choice.Goals as goal

pub returns-then-f-clause-all : goal.returns-then-f-clause-all
returns-then-f-clause-all c = either_masks_all c.args.f.now c.args.a.now c.args.b.now _ (cc)

pub returns-then-f-clause-only : goal.returns-then-f-clause-only
returns-then-f-clause-only c = either_masks_only c.args.f.now c.args.a.now c.args.b.now _ c.if-f.true (cc)

pub returns-then-f-2-clause-all : goal.returns-then-f-2-clause-all
returns-then-f-2-clause-all c = first_masks_all c.args.f.now c.args.a.now c.args.b.now c.if-f.false c.if-f-2.true

pub returns-then-f-2-clause-only : goal.returns-then-f-2-clause-only
returns-then-f-2-clause-only c = first_masks_only c.args.f.now c.args.a.now c.args.b.now c.if-f-2.true

pub returns-else-f-2-clause-all : goal.returns-else-f-2-clause-all
returns-else-f-2-clause-all c = second_masks_all c.args.f.now c.args.a.now c.args.b.now c.if-f.false c.if-f-2.false

pub returns-else-f-2-clause-only : goal.returns-else-f-2-clause-only
returns-else-f-2-clause-only c = second_masks_only c.args.f.now c.args.a.now c.args.b.now c.if-f-2.false
