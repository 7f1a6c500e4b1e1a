use Rattle.std.proofs.Common.{arith}
use Rattle.std.proofs.lemmas.Grind.{common_steps}
use Rattle.p4_consts.proofs.NotedLaws.{made_of_noted}
use Rattle.p4_consts.proofs.PartLaws.{made_of_value}
use Rattle.p4_consts.proofs.passing.path_out.Goals as goal

pub returns-in_err-path-clause-value : goal.returns-in_err-path-clause-value
returns-in_err-path-clause-value c = λ Γ. grind (arith, common_steps, made_of_value, c.path_passed.ensures.value Γ)

pub returns-in_err-path-clause-faults : goal.returns-in_err-path-clause-faults
returns-in_err-path-clause-faults c = λ Γ. grind (arith, common_steps, made_of_noted, c.path_passed.ensures.faults Γ)

pub returns-clause-value : goal.returns-clause-value
returns-clause-value c = λ Γ. grind (arith, common_steps, made_of_value, c.path_passed.ensures.value Γ)

pub returns-clause-faults : goal.returns-clause-faults
returns-clause-faults c = λ Γ. grind (arith, common_steps, made_of_noted, c.path_passed.ensures.faults Γ)
