use Rattle.p4_meaning.proofs.RunLaws.{one_run}
use Rattle.p4_meaning.proofs.run_laws.one_run_for_reads.Goals as goal

pub returns : goal.returns
returns c = one_run
