use Rattle.p4_meaning.proofs.BuiltLaws.{run_comes_to, comes_to_run}
use Rattle.p4_meaning.proofs.built_laws.built_runs.Goals as goal

pub returns : goal.returns
returns c =
    λ p well built b x outcome marks.
    (run_comes_to p b x outcome marks well built, comes_to_run p b x outcome marks well built)
