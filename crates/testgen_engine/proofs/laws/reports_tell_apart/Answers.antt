use Rattle.testgen_engine.proofs.TellingLemmas.{same_report}
use Rattle.testgen_engine.proofs.laws.reports_tell_apart.Goals as goal

pub returns : goal.returns
returns c = same_report
