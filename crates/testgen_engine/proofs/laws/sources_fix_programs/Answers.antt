use Rattle.testgen_engine.proofs.SkeletonLemmas.{same_source}
use Rattle.testgen_engine.proofs.laws.sources_fix_programs.Goals as goal

pub returns : goal.returns
returns c = same_source
