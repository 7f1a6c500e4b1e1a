use Rattle.bits_core.proofs.PartLaws.{cat_slices, slice_value_slice_value, cat_slices_whole}
use Rattle.bits_core.proofs.laws.slices_join.Goals as goal

pub returns-clause-neighbours : goal.returns-clause-neighbours
returns-clause-neighbours c = cat_slices

pub returns-clause-within : goal.returns-clause-within
returns-clause-within c = slice_value_slice_value

pub returns-clause-whole : goal.returns-clause-whole
returns-clause-whole c = cat_slices_whole
