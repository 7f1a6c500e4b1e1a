use Rattle.p4_rules.specs.Typed.{source_faults}
use Rattle.p4_rules.proofs.DecidingLaws.{one_pass, one_refusal}
use Rattle.p4_rules.proofs.laws.at_most_one_refusal.Goals as goal

-- src/laws.rt
pub returns : goal.returns
returns c s pass other refusal second one two = (
  one_pass (source_faults s) pass other refusal second one two,
  one_refusal (source_faults s) pass other refusal second one two,
)
