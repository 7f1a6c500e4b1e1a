use Rattle.p4_meaning.proofs.RunLaws.{some_run_under, run_under}
use Rattle.p4_meaning.proofs.run_laws.inputs_have_runs.Goals as goal

pub returns-clause-under : goal.returns-clause-under
returns-clause-under c = some_run_under

pub returns-clause-is_run : goal.returns-clause-is_run
returns-clause-is_run c = run_under
