use Rattle.testgen_engine.proofs.SkeletonLemmas.{refused_or_built}
use Rattle.testgen_engine.proofs.laws.no_source_is_refused_and_built.Goals as goal

pub returns : goal.returns
returns c = refused_or_built
