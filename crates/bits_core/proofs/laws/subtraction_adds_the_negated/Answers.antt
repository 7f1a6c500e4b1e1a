use Rattle.bits_core.proofs.RowLaws.{sub_is_add_neg}
use Rattle.bits_core.proofs.laws.subtraction_adds_the_negated.Goals as goal

pub returns : goal.returns
returns c = sub_is_add_neg
