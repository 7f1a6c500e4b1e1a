use Rattle.bits_core.proofs.PartLaws.{extend_value_extend_value, extend_value_unsigned, signed_value_extend_value}
use Rattle.bits_core.proofs.laws.extensions_are_cut.Goals as goal

pub returns-clause-back : goal.returns-clause-back
returns-clause-back c = extend_value_extend_value

pub returns-clause-unsigned : goal.returns-clause-unsigned
returns-clause-unsigned c = extend_value_unsigned

pub returns-clause-signed : goal.returns-clause-signed
returns-clause-signed c = signed_value_extend_value
