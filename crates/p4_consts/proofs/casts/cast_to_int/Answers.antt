use Rattle.std.proofs.Common.{◌≡◌, subst}
use Rattle.std.specs.Prelude.{IfOk, OnOk, option_map}
use Rattle.p4_consts.specs.Noted.{noted, right_of}
use Rattle.p4_consts.specs.Operands.{operand_of}
use Rattle.p4_consts.specs.Scopes.{scope_in}
use Rattle.p4_consts.proofs.CastLaws.{to_int_otherwise}
use Rattle.p4_consts.proofs.casts.cast_to_int.Goals as goal

pub returns-in-Signed-clause-value : goal.returns-in-Signed-clause-value
returns-in-Signed-clause-value c = λ pass. rw c.in-Signed.is (c.provided_resized.ensures.value pass)

pub returns-in-Signed-clause-faults : goal.returns-in-Signed-clause-faults
returns-in-Signed-clause-faults c = λ pass. rw c.in-Signed.is (c.provided_resized.ensures.faults pass)

pub returns-in-Bit-clause-value : goal.returns-in-Bit-clause-value
returns-in-Bit-clause-value c = λ pass. rw c.in-Bit.is (c.provided_retyped.ensures.value (scope_in pass c.args.scope.now))

pub returns-in-Bit-clause-faults : goal.returns-in-Bit-clause-faults
returns-in-Bit-clause-faults c = λ pass. rw c.in-Bit.is (c.provided_retyped.ensures.faults (scope_in pass c.args.scope.now))

pub returns-in_default-clause-value : goal.returns-in_default-clause-value
returns-in_default-clause-value c = λ pass.
    subst (λ q. IfOk c.provided_retyped-in_default.result (λ o. option_map operand_of o ≡ right_of q))
    (to_int_otherwise (scope_in pass c.args.scope.now) c.args.v c.args.u c.args.place (operand_of c.args.operand) c.in_default.not-Signed c.in_default.not-Bit)
    (c.provided_retyped-in_default.ensures.value (scope_in pass c.args.scope.now))

pub returns-in_default-clause-faults : goal.returns-in_default-clause-faults
returns-in_default-clause-faults c = λ pass.
    subst (λ q. OnOk c.provided_retyped-in_default.result (c.provided_retyped-in_default.new.faults.first ≡ noted c.args.faults.now.first q))
    (to_int_otherwise (scope_in pass c.args.scope.now) c.args.v c.args.u c.args.place (operand_of c.args.operand) c.in_default.not-Signed c.in_default.not-Bit)
    (c.provided_retyped-in_default.ensures.faults (scope_in pass c.args.scope.now))
