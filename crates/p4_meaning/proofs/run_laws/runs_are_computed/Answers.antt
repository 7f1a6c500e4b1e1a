use Rattle.p4_meaning.proofs.RunLaws.{run_seen, seen_run}
use Rattle.p4_meaning.proofs.run_laws.runs_are_computed.Goals as goal

pub returns : goal.returns
returns c = λ p b x reads outcome marks. (seen_run p b x reads outcome marks, run_seen p b x reads outcome marks)
