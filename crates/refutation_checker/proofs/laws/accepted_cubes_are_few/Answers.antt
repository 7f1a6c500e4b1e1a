-- By the lemma of accepted cubes.
use Rattle.refutation_checker.proofs.AcceptedCubesLaws.{few}
use Rattle.refutation_checker.proofs.laws.accepted_cubes_are_few.Goals as goal

pub returns : goal.returns
returns c d accepted = few d accepted
