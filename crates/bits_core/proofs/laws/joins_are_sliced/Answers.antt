use Rattle.bits_core.proofs.PartLaws.{slice_value_cat_low, slice_value_cat_high, slice_value_cat_across}
use Rattle.bits_core.proofs.laws.joins_are_sliced.Goals as goal

pub returns-clause-lower : goal.returns-clause-lower
returns-clause-lower c = slice_value_cat_low

pub returns-clause-upper : goal.returns-clause-upper
returns-clause-upper c = slice_value_cat_high

pub returns-clause-across : goal.returns-clause-across
returns-clause-across c = slice_value_cat_across
