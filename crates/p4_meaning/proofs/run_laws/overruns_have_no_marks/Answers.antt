use Rattle.p4_meaning.proofs.RunLaws.{overrun_unmarked}
use Rattle.p4_meaning.proofs.run_laws.overruns_have_no_marks.Goals as goal

pub returns : goal.returns
returns c = overrun_unmarked
