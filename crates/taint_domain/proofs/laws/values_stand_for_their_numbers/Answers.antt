use Rattle.taint_domain.proofs.MaskLaws.{stands_for_own, stands_under_zeros, stands_if_clear}
use Rattle.taint_domain.proofs.laws.values_stand_for_their_numbers.Goals as goal

pub returns-clause-own : goal.returns-clause-own
returns-clause-own c = stands_for_own

pub returns-clause-zeros : goal.returns-clause-zeros
returns-clause-zeros c = stands_under_zeros

pub returns-clause-clear : goal.returns-clause-clear
returns-clause-clear c = stands_if_clear
