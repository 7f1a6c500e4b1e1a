use Rattle.bits_core.proofs.SignedRowLaws.{add_signed, subtract_signed, multiply_signed, negate_signed}
use Rattle.bits_core.proofs.laws.rows_wrap_for_both_readings.Goals as goal

pub returns-clause-sum : goal.returns-clause-sum
returns-clause-sum c = add_signed

pub returns-clause-difference : goal.returns-clause-difference
returns-clause-difference c = subtract_signed

pub returns-clause-product : goal.returns-clause-product
returns-clause-product c = multiply_signed

pub returns-clause-negation : goal.returns-clause-negation
returns-clause-negation c = negate_signed
