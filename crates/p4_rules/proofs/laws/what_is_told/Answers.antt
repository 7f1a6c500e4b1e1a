use Rattle.p4_rules.specs.Typed.{checked}
use Rattle.p4_rules.proofs.RefusedLaws.{right_told, fault_told}
use Rattle.p4_rules.proofs.laws.what_is_told.Goals as goal

-- src/laws.rt
pub returns : goal.returns
returns c = record {
  right = λ s p is. right_told (checked s) p is;
  wrong = λ s fault is. fault_told (checked s) fault is;
}
