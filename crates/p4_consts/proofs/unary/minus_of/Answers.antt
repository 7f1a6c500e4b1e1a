use Rattle.std.proofs.Common.{◌≡◌, subst}
use Rattle.std.specs.Prelude.{IfOk, OnOk, option_map}
use Rattle.p4_consts.specs.Noted.{noted, right_of}
use Rattle.p4_consts.specs.Operands.{operand_of}
use Rattle.p4_consts.specs.Scopes.{scope_in}
use Rattle.p4_consts.proofs.UnaryLaws.{minus_of_value}
use Rattle.p4_consts.proofs.unary.minus_of.Goals as goal

pub returns-in_default-clause-value : goal.returns-in_default-clause-value
returns-in_default-clause-value c = λ pass.
    subst (λ q. IfOk c.provided_one.result (λ o. option_map operand_of o ≡ right_of q))
    (minus_of_value (scope_in pass c.args.scope.now) c.args.place c.args.operand c.in_default.not-Whole)
    (rw (← c.is_sized_value-holds.ensures) (c.provided_one.ensures.value pass))

pub returns-in_default-clause-faults : goal.returns-in_default-clause-faults
returns-in_default-clause-faults c = λ pass.
    subst (λ q. OnOk c.provided_one.result (c.provided_one.new.faults.first ≡ noted c.args.faults.now.first q))
    (minus_of_value (scope_in pass c.args.scope.now) c.args.place c.args.operand c.in_default.not-Whole)
    (rw (← c.is_sized_value-holds.ensures) (c.provided_one.ensures.faults pass))
