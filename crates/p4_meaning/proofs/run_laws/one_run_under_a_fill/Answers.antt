use Rattle.p4_meaning.proofs.RunLaws.{one_run_under}
use Rattle.p4_meaning.proofs.run_laws.one_run_under_a_fill.Goals as goal

pub returns : goal.returns
returns c = one_run_under
