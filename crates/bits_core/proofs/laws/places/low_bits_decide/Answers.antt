use Rattle.bits_core.proofs.SameBelowLaws.{same_below_add, same_below_subtract, same_below_negate, same_below_multiply, same_below_product_zeros, product_zeros}
use Rattle.bits_core.proofs.laws.places.low_bits_decide.Goals as goal

pub returns-clause-sum : goal.returns-clause-sum
returns-clause-sum c = same_below_add

pub returns-clause-difference : goal.returns-clause-difference
returns-clause-difference c = same_below_subtract

pub returns-clause-negation : goal.returns-clause-negation
returns-clause-negation c = same_below_negate

pub returns-clause-product : goal.returns-clause-product
returns-clause-product c = same_below_multiply

pub returns-clause-zeros : goal.returns-clause-zeros
returns-clause-zeros c = same_below_product_zeros

pub returns-clause-both_zeros : goal.returns-clause-both_zeros
returns-clause-both_zeros c = product_zeros
