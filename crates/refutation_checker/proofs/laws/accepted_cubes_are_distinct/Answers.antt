-- By the lemmas of accepted cubes.
use Rattle.refutation_checker.proofs.AcceptedCubesLaws.{no_part, distinct, not_empty}
use Rattle.refutation_checker.proofs.laws.accepted_cubes_are_distinct.Goals as goal

pub returns-clause-part : goal.returns-clause-part
returns-clause-part c d accepted = no_part d accepted

pub returns-clause-distinct : goal.returns-clause-distinct
returns-clause-distinct c d accepted = distinct d accepted

pub returns-clause-not_empty : goal.returns-clause-not_empty
returns-clause-not_empty c d accepted = not_empty d accepted
