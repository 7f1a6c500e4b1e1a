use Rattle.taint_domain.proofs.MaskLaws.{add_settled, subtract_settled, negate_settled}
use Rattle.taint_domain.proofs.laws.sums_settle_from_below.Goals as goal

pub returns-clause-sum : goal.returns-clause-sum
returns-clause-sum c = add_settled

pub returns-clause-difference : goal.returns-clause-difference
returns-clause-difference c = subtract_settled

pub returns-clause-negation : goal.returns-clause-negation
returns-clause-negation c = negate_settled
