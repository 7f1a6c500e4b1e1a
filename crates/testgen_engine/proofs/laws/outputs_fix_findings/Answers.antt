use Rattle.testgen_engine.proofs.TellingLemmas.{same_findings}
use Rattle.testgen_engine.proofs.laws.outputs_fix_findings.Goals as goal

pub returns : goal.returns
returns c = same_findings
