use Rattle.bits_core.proofs.BitwiseLaws.{and_by_bits, or_by_bits, xor_by_bits, not_by_bits}
use Rattle.bits_core.proofs.laws.circuits.gates_work_place_by_place.Goals as goal

pub returns-clause-both : goal.returns-clause-both
returns-clause-both c = and_by_bits

pub returns-clause-either : goal.returns-clause-either
returns-clause-either c = or_by_bits

pub returns-clause-one : goal.returns-clause-one
returns-clause-one c = xor_by_bits

pub returns-clause-neither : goal.returns-clause-neither
returns-clause-neither c = not_by_bits
