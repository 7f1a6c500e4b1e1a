use Rattle.bits_core.proofs.SaturationLaws.{add_or_end, subtract_or_zero, add_signed_or_end, subtract_signed_or_end}
use Rattle.bits_core.proofs.laws.circuits.saturating_adders_stop.Goals as goal

pub returns-clause-sum : goal.returns-clause-sum
returns-clause-sum c = add_or_end

pub returns-clause-difference : goal.returns-clause-difference
returns-clause-difference c = subtract_or_zero

pub returns-clause-signed_sum : goal.returns-clause-signed_sum
returns-clause-signed_sum c = add_signed_or_end

pub returns-clause-signed_difference : goal.returns-clause-signed_difference
returns-clause-signed_difference c = subtract_signed_or_end
