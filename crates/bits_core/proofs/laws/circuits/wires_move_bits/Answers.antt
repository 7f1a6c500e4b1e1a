use Rattle.bits_core.proofs.BitwiseLaws.{cat_by_append, slice_by_take, cut_by_take, widen_by_zeros, widen_by_sign}
use Rattle.bits_core.proofs.laws.circuits.wires_move_bits.Goals as goal

pub returns-clause-join : goal.returns-clause-join
returns-clause-join c = cat_by_append

pub returns-clause-slice : goal.returns-clause-slice
returns-clause-slice c = slice_by_take

pub returns-clause-cut : goal.returns-clause-cut
returns-clause-cut c = cut_by_take

pub returns-clause-zeros : goal.returns-clause-zeros
returns-clause-zeros c = widen_by_zeros

pub returns-clause-signs : goal.returns-clause-signs
returns-clause-signs c = widen_by_sign
