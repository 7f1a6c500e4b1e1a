use Rattle.bits_core.proofs.SignLaws.{wrapped_signed_value, signed_value_wrapped}
use Rattle.bits_core.proofs.laws.readings_agree.Goals as goal

pub returns-clause-bits : goal.returns-clause-bits
returns-clause-bits c = wrapped_signed_value

pub returns-clause-integer : goal.returns-clause-integer
returns-clause-integer c = signed_value_wrapped
