use Rattle.testgen_engine.proofs.TellingLemmas.{same_right_findings}
use Rattle.testgen_engine.proofs.laws.right_outputs_fix_findings.Goals as goal

pub returns : goal.returns
returns c = same_right_findings
