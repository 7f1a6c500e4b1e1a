use Rattle.std.proofs.Common.{arith}
use Rattle.std.proofs.lemmas.Grind.{common_steps}
use Rattle.p4_consts.specs.Scopes.{scope_in}
use Rattle.p4_consts.proofs.passing.directed_value.Goals as goal

pub returns-in-Some-Out-clause-value : goal.returns-in-Some-Out-clause-value
returns-in-Some-Out-clause-value c = grind (arith, common_steps, c.path_out.ensures.value (scope_in c.args.pass c.args.scope.now))

pub returns-in-Some-Out-clause-faults : goal.returns-in-Some-Out-clause-faults
returns-in-Some-Out-clause-faults c = grind (arith, common_steps, c.path_out.ensures.faults (scope_in c.args.pass c.args.scope.now))

pub returns-in-Some-InOut-clause-value : goal.returns-in-Some-InOut-clause-value
returns-in-Some-InOut-clause-value c = grind (arith, common_steps, c.path_in_and_out.ensures.value (scope_in c.args.pass c.args.scope.now))

pub returns-in-Some-InOut-clause-faults : goal.returns-in-Some-InOut-clause-faults
returns-in-Some-InOut-clause-faults c = grind (arith, common_steps, c.path_in_and_out.ensures.faults (scope_in c.args.pass c.args.scope.now))
