use Rattle.testgen_engine.proofs.SkeletonLemmas.{all_stand_or_refused}
use Rattle.testgen_engine.proofs.built.program_of.Goals as goal

pub returns-in-Ok : goal.returns-in-Ok
returns-in-Ok c =
    all_stand_or_refused c.args.source.now c.in-Ok.tokens c.built_of.result c.if-source-gt-MAX_BYTES.false c.in-Ok.ensures.tokens c.built_of.ensures
