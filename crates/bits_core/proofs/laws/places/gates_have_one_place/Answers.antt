use Rattle.std.proofs.lemmas.Nat.Bits.{bit_at_and, bit_at_or, bit_at_xor}
use Rattle.bits_core.proofs.PlaceLaws.{bit_at_not}
use Rattle.bits_core.proofs.laws.places.gates_have_one_place.Goals as goal

pub returns-clause-both : goal.returns-clause-both
returns-clause-both c = λ w x v y i. bit_at_and x y i

pub returns-clause-either : goal.returns-clause-either
returns-clause-either c = λ w x v y i. bit_at_or x y i

pub returns-clause-one : goal.returns-clause-one
returns-clause-one c = λ w x v y i. bit_at_xor x y i

pub returns-clause-neither : goal.returns-clause-neither
returns-clause-neither c = bit_at_not
