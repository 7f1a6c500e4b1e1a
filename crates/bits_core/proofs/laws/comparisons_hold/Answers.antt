use Rattle.bits_core.proofs.RowLaws.{operator_value_test, test_value_is_one}
use Rattle.bits_core.proofs.laws.comparisons_hold.Goals as goal

pub returns-clause-value : goal.returns-clause-value
returns-clause-value c = operator_value_test

pub returns-clause-truth : goal.returns-clause-truth
returns-clause-truth c = test_value_is_one
