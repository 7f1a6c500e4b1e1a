use Rattle.bits_core.proofs.PlaceLaws.{bit_at_shift_left, bit_at_shift_right_unsigned, bit_at_shift_right_signed}
use Rattle.bits_core.proofs.laws.places.shifts_move_bits.Goals as goal

pub returns-clause-left : goal.returns-clause-left
returns-clause-left c = bit_at_shift_left

pub returns-clause-right : goal.returns-clause-right
returns-clause-right c = bit_at_shift_right_unsigned

pub returns-clause-signed_right : goal.returns-clause-signed_right
returns-clause-signed_right c = bit_at_shift_right_signed
