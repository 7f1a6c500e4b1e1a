use Rattle.std.proofs.Common.{arith}
use Rattle.std.proofs.lemmas.Grind.{common_steps}
use Rattle.p4_consts.proofs.passing.path_passed.Goals as goal

pub returns-clause-value : goal.returns-clause-value
returns-clause-value c = λ Γ. grind (arith, common_steps, c.path_where.ensures.value Γ)

pub returns-clause-faults : goal.returns-clause-faults
returns-clause-faults c = λ Γ. grind (arith, common_steps, c.path_where.ensures.faults Γ)
