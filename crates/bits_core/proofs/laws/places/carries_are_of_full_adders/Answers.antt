use Rattle.bits_core.proofs.CarryLaws.{carry_into_zero, carry_into_suc, carry_into_below, carry_into_is, ripple_carry_take}
use Rattle.bits_core.proofs.laws.places.carries_are_of_full_adders.Goals as goal

pub returns-clause-first : goal.returns-clause-first
returns-clause-first c = carry_into_zero

pub returns-clause-next : goal.returns-clause-next
returns-clause-next c = carry_into_suc

pub returns-clause-bit : goal.returns-clause-bit
returns-clause-bit c = carry_into_below

pub returns-clause-whole : goal.returns-clause-whole
returns-clause-whole c = carry_into_is

pub returns-clause-lists : goal.returns-clause-lists
returns-clause-lists c = ripple_carry_take
