use Rattle.bits_core.proofs.BitListLaws.{number_of_bits_of, bits_of_number_of, bit_at_number_of}
use Rattle.bits_core.proofs.laws.circuits.bits_and_numbers.Goals as goal

pub returns-clause-number : goal.returns-clause-number
returns-clause-number c = number_of_bits_of

pub returns-clause-list : goal.returns-clause-list
returns-clause-list c = bits_of_number_of

pub returns-clause-place : goal.returns-clause-place
returns-clause-place c = bit_at_number_of
