use Rattle.p4_rules.specs.Typed.{checked}
use Rattle.p4_rules.proofs.RefusedLaws.{none_of_right}
use Rattle.p4_rules.proofs.laws.no_refusal_of_a_program.Goals as goal

-- src/laws.rt
pub returns : goal.returns
returns c s p pass refusal right = none_of_right (checked s) p pass refusal right
