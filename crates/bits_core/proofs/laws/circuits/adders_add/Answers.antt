use Rattle.bits_core.proofs.AdderLaws.{add_by_ripple, subtract_by_ripple, negate_by_ripple, get_or_ripple_sum, less_equal_by_ripple}
use Rattle.bits_core.proofs.laws.circuits.adders_add.Goals as goal

pub returns-clause-sum : goal.returns-clause-sum
returns-clause-sum c = add_by_ripple

pub returns-clause-difference : goal.returns-clause-difference
returns-clause-difference c = subtract_by_ripple

pub returns-clause-negation : goal.returns-clause-negation
returns-clause-negation c = negate_by_ripple

pub returns-clause-place : goal.returns-clause-place
returns-clause-place c = get_or_ripple_sum

pub returns-clause-carry : goal.returns-clause-carry
returns-clause-carry c = less_equal_by_ripple
