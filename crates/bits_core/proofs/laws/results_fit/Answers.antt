use Rattle.bits_core.proofs.RowLaws.{operator_value_below}
use Rattle.bits_core.proofs.laws.results_fit.Goals as goal

pub returns : goal.returns
returns c = operator_value_below
