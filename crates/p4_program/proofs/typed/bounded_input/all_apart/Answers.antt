use Rattle.std.proofs.Common.{refl}
use Rattle.p4_program.specs.Entries.{Apart}
use Rattle.p4_program.specs.Trees.Programs.{core_of}
use Rattle.p4_program.proofs.Pairs.{pairs_more, pairs_behind}
use Rattle.p4_program.proofs.typed.bounded_input.all_apart.Goals as goal

pub loop-i-preserved : goal.loop-i-preserved
loop-i-preserved c =
    pairs_more (Apart (core_of c.args.program.now)) c.args.entries.now c.loop-i.i c.index-entries-i.result
    c.index-entries-i.is c.loop-i.invariant (c.if-not-is_apart_from.ensures.0 refl)

pub returns-then-not-is_apart_from : goal.returns-then-not-is_apart_from
returns-then-not-is_apart_from c = (
  λ h. cc,
  λ pairs.
      c.if-not-is_apart_from.ensures.1
      (pairs_behind (Apart (core_of c.args.program.now)) c.args.entries.now c.loop-i.i c.index-entries-i.result
      c.index-entries-i.is pairs),
)
