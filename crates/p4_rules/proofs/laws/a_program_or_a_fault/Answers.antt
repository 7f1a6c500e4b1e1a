use Rattle.p4_rules.specs.Typed.{checked}
use Rattle.p4_rules.proofs.CheckedLaws.{value_or_fault}
use Rattle.p4_rules.proofs.laws.a_program_or_a_fault.Goals as goal

-- src/laws.rt
pub returns : goal.returns
returns c s = value_or_fault (checked s)
