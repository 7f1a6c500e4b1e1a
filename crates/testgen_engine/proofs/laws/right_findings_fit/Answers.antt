use Rattle.testgen_engine.proofs.FitLemmas.{right_findings_fit}
use Rattle.testgen_engine.proofs.laws.right_findings_fit.Goals as goal

pub returns : goal.returns
returns c = right_findings_fit
