use Rattle.p4_consts.specs.Scopes.{scope_in}
use Rattle.p4_consts.proofs.unify.unified.Goals as goal

pub returns-in_default-u-2-clause-value : goal.returns-in_default-u-2-clause-value
returns-in_default-u-2-clause-value c = λ scope. c.values_unified.ensures.value (scope_in c.args.pass scope)

pub returns-in_default-u-2-clause-faults : goal.returns-in_default-u-2-clause-faults
returns-in_default-u-2-clause-faults c = λ scope. c.values_unified.ensures.faults (scope_in c.args.pass scope)
