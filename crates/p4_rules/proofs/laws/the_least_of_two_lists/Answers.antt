use Rattle.p4_rules.proofs.LeastLaws.{least_joined}
use Rattle.p4_rules.proofs.laws.the_least_of_two_lists.Goals as goal

-- src/laws.rt
pub returns : goal.returns
returns c f g more others = least_joined f more g others
