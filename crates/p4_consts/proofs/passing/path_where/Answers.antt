use Rattle.std.proofs.Common.{arith}
use Rattle.std.proofs.lemmas.Grind.{common_steps}
use Rattle.p4_consts.proofs.passing.path_where.Goals as goal

pub returns-in_err-path-clause-value : goal.returns-in_err-path-clause-value
returns-in_err-path-clause-value c = λ Γ. grind (arith, common_steps, c.path_in.ensures.value Γ)

pub returns-in_err-path-clause-faults : goal.returns-in_err-path-clause-faults
returns-in_err-path-clause-faults c = λ Γ. grind (arith, common_steps, c.path_in.ensures.value Γ, c.path_in.ensures.faults Γ)

pub returns-then-holds-clause-value : goal.returns-then-holds-clause-value
returns-then-holds-clause-value c = λ Γ. grind (arith, common_steps, c.path_in.ensures.value Γ)

pub returns-then-holds-clause-faults : goal.returns-then-holds-clause-faults
returns-then-holds-clause-faults c = λ Γ. grind (arith, common_steps, c.path_in.ensures.value Γ, c.path_in.ensures.faults Γ)

pub returns-clause-faults : goal.returns-clause-faults
returns-clause-faults c = λ Γ. grind (arith, common_steps, c.path_in.ensures.value Γ, c.path_in.ensures.faults Γ)
