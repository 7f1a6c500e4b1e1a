use Rattle.testgen_engine.proofs.SkeletonLemmas.{same_refusal}
use Rattle.testgen_engine.proofs.laws.refusals_are_fixed.Goals as goal

pub returns : goal.returns
returns c = same_refusal
