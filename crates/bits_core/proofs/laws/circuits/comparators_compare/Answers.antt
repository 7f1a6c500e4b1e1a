use Rattle.bits_core.proofs.ComparatorLaws.{equal_by_bits, less_by_ripple, less_by_sign_turned, less_equal_by_sign_turned}
use Rattle.bits_core.proofs.laws.circuits.comparators_compare.Goals as goal

pub returns-clause-equal : goal.returns-clause-equal
returns-clause-equal c = equal_by_bits

pub returns-clause-less : goal.returns-clause-less
returns-clause-less c = less_by_ripple

pub returns-clause-less_signed : goal.returns-clause-less_signed
returns-clause-less_signed c = less_by_sign_turned

pub returns-clause-less_equal_signed : goal.returns-clause-less_equal_signed
returns-clause-less_equal_signed c = less_equal_by_sign_turned
