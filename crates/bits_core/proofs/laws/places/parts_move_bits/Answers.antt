use Rattle.bits_core.proofs.PlaceLaws.{bit_at_slice_value, bit_at_extend_value_unsigned, bit_at_extend_value_signed, bit_at_concatenate_low, bit_at_concatenate_high}
use Rattle.bits_core.proofs.laws.places.parts_move_bits.Goals as goal

pub returns-clause-slice : goal.returns-clause-slice
returns-clause-slice c = bit_at_slice_value

pub returns-clause-zeros : goal.returns-clause-zeros
returns-clause-zeros c = bit_at_extend_value_unsigned

pub returns-clause-signs : goal.returns-clause-signs
returns-clause-signs c = bit_at_extend_value_signed

pub returns-clause-join_low : goal.returns-clause-join_low
returns-clause-join_low c = bit_at_concatenate_low

pub returns-clause-join_high : goal.returns-clause-join_high
returns-clause-join_high c = bit_at_concatenate_high
