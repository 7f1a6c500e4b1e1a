use Rattle.p4_meaning.proofs.RunLemmas.{some_run}
use Rattle.p4_meaning.proofs.laws.bounded_inputs_have_runs.Goals as goal

pub returns : goal.returns
returns c = some_run
