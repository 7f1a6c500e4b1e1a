use Rattle.bits_core.proofs.MultiplierLaws.{multiply_by_shifts}
use Rattle.bits_core.proofs.laws.circuits.multipliers_multiply.Goals as goal

pub returns : goal.returns
returns c = multiply_by_shifts
