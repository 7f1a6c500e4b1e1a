use Rattle.std.proofs.Common.{◌≡◌, subst}
use Rattle.std.specs.Prelude.{IfOk}
use Rattle.p4_consts.specs.Operands.{operand_of}
use Rattle.p4_consts.specs.Scopes.{scope_in}
use Rattle.p4_consts.proofs.AppliedLaws.{constant_beside, value_beside}
use Rattle.p4_consts.proofs.applying.applied.Goals as goal

pub returns-in_default-other : goal.returns-in_default-other
returns-in_default-other c = λ pass.
    rw c.in-Fixed.is
    (subst (λ q. IfOk c.begun.result (λ x. operand_of x ≡ q))
    (constant_beside (scope_in pass c.args.scope.now) c.args.goes_on c.args.t c.args.operator c.args.place c.in-Fixed.a c.args.other c.in_default-other.not-Fixed)
    (c.begun.ensures pass))

pub returns-in_default : goal.returns-in_default
returns-in_default c = λ pass.
    subst (λ q. IfOk c.begun-in_default.result (λ x. operand_of x ≡ q))
    (value_beside (scope_in pass c.args.scope.now) c.args.goes_on c.args.t c.args.operator c.args.place c.args.one (operand_of c.args.other) c.in_default.not-Fixed c.in_default.not-Computed)
    (c.begun-in_default.ensures pass)
