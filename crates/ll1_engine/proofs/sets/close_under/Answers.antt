use Rattle.std.proofs.Common.{rules}
use Rattle.ll1_engine.specs.Marks.{marked}
use Rattle.ll1_engine.proofs.MarksLemmas.{AllDerive_seed, closed_derived}
use Rattle.ll1_engine.proofs.sets.close_under.Goals as goal

pub loop-init : goal.loop-init
loop-init c = record { size = search rules; grows = λ x h. h; derives = AllDerive_seed c.args.rows.now c.args.marks.now }

pub returns-clause-exact : goal.returns-clause-exact
returns-clause-exact c = λ x. (
  c.widen.ensures.derives c.args.marks.now c.loop.invariant.derives x,
  closed_derived c.args.rows.now c.args.marks.now (marked c.widen.new.marks) (λ y h. c.widen.ensures.widens.grows y (c.loop.invariant.grows y h)) (c.widen.ensures.closed c.loop-test.false) x,
)
