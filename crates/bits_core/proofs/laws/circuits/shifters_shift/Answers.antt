use Rattle.bits_core.proofs.ShifterLaws.{shift_left_by_barrel, shift_right_by_barrel, shift_right_signed_by_barrel, get_or_shifted_left, get_or_shifted_right}
use Rattle.bits_core.proofs.laws.circuits.shifters_shift.Goals as goal

pub returns-clause-left : goal.returns-clause-left
returns-clause-left c = shift_left_by_barrel

pub returns-clause-right : goal.returns-clause-right
returns-clause-right c = shift_right_by_barrel

pub returns-clause-signed : goal.returns-clause-signed
returns-clause-signed c = shift_right_signed_by_barrel

pub returns-clause-place_left : goal.returns-clause-place_left
returns-clause-place_left c = get_or_shifted_left

pub returns-clause-place_right : goal.returns-clause-place_right
returns-clause-place_right c = get_or_shifted_right
