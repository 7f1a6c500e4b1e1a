use Rattle.bits_core.proofs.CarryLaws.{bit_at_sum, bit_at_add, bit_at_subtract, bit_at_negate, bit_at_multiply}
use Rattle.bits_core.proofs.laws.places.sums_have_carries.Goals as goal

pub returns-clause-numbers : goal.returns-clause-numbers
returns-clause-numbers c = bit_at_sum

pub returns-clause-sum : goal.returns-clause-sum
returns-clause-sum c = bit_at_add

pub returns-clause-difference : goal.returns-clause-difference
returns-clause-difference c = bit_at_subtract

pub returns-clause-negation : goal.returns-clause-negation
returns-clause-negation c = bit_at_negate

pub returns-clause-product : goal.returns-clause-product
returns-clause-product c = bit_at_multiply
