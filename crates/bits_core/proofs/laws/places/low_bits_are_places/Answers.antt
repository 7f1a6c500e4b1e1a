use Rattle.bits_core.proofs.SameBelowLaws.{same_below_bits, bit_at_same_below, same_below_fewer, le_from_bits}
use Rattle.bits_core.proofs.laws.places.low_bits_are_places.Goals as goal

pub returns-clause-same : goal.returns-clause-same
returns-clause-same c = same_below_bits

pub returns-clause-place : goal.returns-clause-place
returns-clause-place c = bit_at_same_below

pub returns-clause-fewer : goal.returns-clause-fewer
returns-clause-fewer c = same_below_fewer

pub returns-clause-order : goal.returns-clause-order
returns-clause-order c = le_from_bits
