use Rattle.std.proofs.Common.{◌≡◌, sym, subst}
use Rattle.std.specs.Prelude.{IfOk, OnOk, option_map}
use Rattle.p4_consts.specs.Noted.{noted, right_of}
use Rattle.p4_consts.specs.Operands.{operand_of}
use Rattle.p4_consts.specs.Scopes.{scope_in}
use Rattle.p4_consts.proofs.CastLaws.{not_sized}
use Rattle.p4_consts.proofs.casts.value_cast.Goals as goal

pub returns-in-Bit-clause-value : goal.returns-in-Bit-clause-value
returns-in-Bit-clause-value c = λ pass. rw c.in-Bit.is (c.cast_to_bit.ensures.value pass)

pub returns-in-Bit-clause-faults : goal.returns-in-Bit-clause-faults
returns-in-Bit-clause-faults c = λ pass. rw c.in-Bit.is (c.cast_to_bit.ensures.faults pass)

pub returns-in-Signed-clause-value : goal.returns-in-Signed-clause-value
returns-in-Signed-clause-value c = λ pass. rw c.in-Signed.is (c.cast_to_int.ensures.value pass)

pub returns-in-Signed-clause-faults : goal.returns-in-Signed-clause-faults
returns-in-Signed-clause-faults c = λ pass. rw c.in-Signed.is (c.cast_to_int.ensures.faults pass)

pub returns-in_default-clause-value : goal.returns-in_default-clause-value
returns-in_default-clause-value c = λ pass.
    let sized = not_sized c.args.t c.in_default.not-Bit c.in_default.not-Signed in
    subst (λ q. IfOk c.provided_retyped.result (λ o. option_map operand_of o ≡ right_of q))
    (sym (c.keeps_bits-holds.ensures sized (scope_in pass c.args.scope.now) c.args.place (operand_of c.args.operand)))
    (c.provided_retyped.ensures.value (scope_in pass c.args.scope.now))

pub returns-in_default-clause-faults : goal.returns-in_default-clause-faults
returns-in_default-clause-faults c = λ pass.
    let sized = not_sized c.args.t c.in_default.not-Bit c.in_default.not-Signed in
    subst (λ q. OnOk c.provided_retyped.result (c.provided_retyped.new.faults.first ≡ noted c.args.faults.now.first q))
    (sym (c.keeps_bits-holds.ensures sized (scope_in pass c.args.scope.now) c.args.place (operand_of c.args.operand)))
    (c.provided_retyped.ensures.faults (scope_in pass c.args.scope.now))
