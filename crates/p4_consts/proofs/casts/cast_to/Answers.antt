use Rattle.std.proofs.Common.{◌≡◌, subst}
use Rattle.std.specs.Prelude.{IfOk, OnOk, option_map}
use Rattle.p4_consts.specs.Noted.{noted, right_of}
use Rattle.p4_consts.specs.Operands.{operand_of}
use Rattle.p4_consts.specs.Scopes.{scope_in}
use Rattle.p4_consts.proofs.CastLaws.{cast_to_value}
use Rattle.p4_consts.proofs.casts.cast_to.Goals as goal

pub returns-in_default-clause-value : goal.returns-in_default-clause-value
returns-in_default-clause-value c = λ scope.
    subst (λ q. IfOk c.value_as.result (λ v. option_map operand_of v ≡ right_of q))
    (cast_to_value (scope_in c.args.pass scope) c.args.t c.type_of-u.result c.args.place c.args.operand c.in_default.not-Whole c.type_of-u.ensures)
    (c.value_as.ensures.value (scope_in c.args.pass scope))

pub returns-in_default-clause-faults : goal.returns-in_default-clause-faults
returns-in_default-clause-faults c = λ scope.
    subst (λ q. OnOk c.value_as.result (c.value_as.new.faults.first ≡ noted c.args.faults.now.first q))
    (cast_to_value (scope_in c.args.pass scope) c.args.t c.type_of-u.result c.args.place c.args.operand c.in_default.not-Whole c.type_of-u.ensures)
    (c.value_as.ensures.faults (scope_in c.args.pass scope))
