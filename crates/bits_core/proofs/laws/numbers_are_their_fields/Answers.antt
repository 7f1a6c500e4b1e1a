use Rattle.bits_core.proofs.NumberLaws.{same_fields}
use Rattle.bits_core.proofs.laws.numbers_are_their_fields.Goals as goal

pub returns : goal.returns
returns c = same_fields
