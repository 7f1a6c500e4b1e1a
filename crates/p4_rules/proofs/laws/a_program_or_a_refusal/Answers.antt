use Rattle.p4_rules.specs.Typed.{checked}
use Rattle.p4_rules.proofs.RefusedLaws.{value_or_refusal}
use Rattle.p4_rules.proofs.laws.a_program_or_a_refusal.Goals as goal

-- src/laws.rt
pub returns : goal.returns
returns c s = value_or_refusal (checked s)
