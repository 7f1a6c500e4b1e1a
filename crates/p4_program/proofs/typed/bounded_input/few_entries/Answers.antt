use Rattle.std.proofs.Common.{refl, arith}
use Rattle.p4_program.specs.BoundedInput.{HasFew}
use Rattle.p4_program.proofs.Pairs.{each_more, each_here}
use Rattle.p4_program.proofs.typed.bounded_input.few_entries.Goals as goal

pub loop-entry-preserved : goal.loop-entry-preserved
loop-entry-preserved c =
    each_more (HasFew c.args.limit c.args.entries.now) c.args.entries.now c.loop-entry.entry-index c.entry-item.result
    c.entry-item.is c.loop-entry-test.true c.loop-entry.invariant (c.if-not-has_few.ensures.0 refl)

pub returns-then-not-has_few : goal.returns-then-not-has_few
returns-then-not-has_few c = (
  λ h. cc,
  λ all.
      c.if-not-has_few.ensures.1
      (each_here (HasFew c.args.limit c.args.entries.now) c.args.entries.now c.loop-entry.entry-index c.entry-item.result
      c.entry-item.is c.loop-entry-test.true all),
)

pub returns : goal.returns
returns c = (λ h k d below. c.loop-entry.invariant k d (omega arith), λ all. refl)
