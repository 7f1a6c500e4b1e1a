use Rattle.std.proofs.Common.{◌≡◌, subst}
use Rattle.std.specs.Prelude.{IfOk, OnOk, option_map}
use Rattle.p4_consts.specs.Noted.{noted, right_of}
use Rattle.p4_consts.specs.Operands.{operand_of}
use Rattle.p4_consts.specs.Scopes.{scope_in}
use Rattle.p4_consts.proofs.CastLaws.{cast_value}
use Rattle.p4_consts.proofs.casts.cast.Goals as goal

pub returns-in_default-clause-value : goal.returns-in_default-clause-value
returns-in_default-clause-value c =
    subst (λ q. IfOk c.value_cast.result (λ v. option_map operand_of v ≡ right_of q))
    (cast_value (scope_in c.args.pass c.args.scope.now) c.args.t c.type_of-u.result c.args.place c.args.operand c.in_default.not-Whole c.type_of-u.ensures)
    (c.value_cast.ensures.value c.args.pass)

pub returns-in_default-clause-faults : goal.returns-in_default-clause-faults
returns-in_default-clause-faults c =
    subst (λ q. OnOk c.value_cast.result (c.value_cast.new.faults.first ≡ noted c.args.faults.now.first q))
    (cast_value (scope_in c.args.pass c.args.scope.now) c.args.t c.type_of-u.result c.args.place c.args.operand c.in_default.not-Whole c.type_of-u.ensures)
    (c.value_cast.ensures.faults c.args.pass)
