use Rattle.bits_core.proofs.ShifterLaws.{shl_min, shr_min, shr_signed_min}
use Rattle.bits_core.proofs.laws.amounts_may_be_any.Goals as goal

pub returns-clause-left : goal.returns-clause-left
returns-clause-left c = λ w x v y. shl_min x w y

pub returns-clause-right : goal.returns-clause-right
returns-clause-right c = λ w x v y fits. shr_min x w y fits

pub returns-clause-signed_right : goal.returns-clause-signed_right
returns-clause-signed_right c = λ w x v y fits. shr_signed_min x w y fits
