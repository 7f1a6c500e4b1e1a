use Rattle.std.proofs.Common.{◌≡◌, ap, ◌∙◌, subst}
use Rattle.std.specs.Prelude.{IfOk, OnOk, option_map}
use Rattle.p4_rules.specs.Operands.{type_of}
use Rattle.p4_rules.specs.Operators.{core_operator}
use Rattle.p4_consts.specs.Noted.{noted, right_of}
use Rattle.p4_consts.specs.Operands.{operand_of}
use Rattle.p4_consts.specs.Scopes.{scope_in}
use Rattle.p4_consts.proofs.ShiftLaws.{by_integer, constant_by, value_by}
use Rattle.p4_consts.proofs.shifts.value_shift.Goals as goal

pub returns-in-Whole-clause-value : goal.returns-in-Whole-clause-value
returns-in-Whole-clause-value c = λ pass.
    let operator = c.core_operator-o.ensures ∙ ap (core_operator c.args.sign) c.is_signed.ensures in
    let t = c.type_of-t.ensures ∙ ap (λ x. type_of (operand_of x)) c.in-Fixed.is in
    rw (c.in-Fixed.is, c.in-Whole.is)
    (subst (λ q. IfOk c.applied_with.result (λ o. option_map operand_of o ≡ right_of q))
    (by_integer (scope_in pass c.args.scope.now) c.args.goes_on c.args.sign c.in-Fixed.a c.in-Whole.b (operand_of c.in_ok-amount-in-Whole.amount) c.args.pair.place
    c.type_of-t.result c.core_operator-o.result t operator c.in_ok-amount-in-Whole.ensures)
    (c.applied_with.ensures.value pass))

pub returns-in-Fixed : goal.returns-in-Fixed
returns-in-Fixed c =
    let operator = c.core_operator-o.ensures ∙ ap (core_operator c.args.sign) c.is_signed.ensures in
    let t = c.type_of-t.ensures ∙ ap (λ x. type_of (operand_of x)) c.in-Fixed.is in
    record {
      value = λ pass. rw c.in-Fixed.is
          (subst (λ q. IfOk c.applied_with-in_default-other.result (λ o. option_map operand_of o ≡ right_of q))
          (constant_by (scope_in pass c.args.scope.now) c.args.goes_on c.args.sign c.in-Fixed.a c.args.pair.right.operand c.args.pair.place
          c.type_of-t.result c.core_operator-o.result c.in_default-other.not-Whole t operator)
          (c.applied_with-in_default-other.ensures.value pass));
      faults = λ pass. rw c.in-Fixed.is
          (subst (λ q. OnOk c.applied_with-in_default-other.result (c.applied_with-in_default-other.new.faults.first ≡ noted c.args.faults.now.first q))
          (constant_by (scope_in pass c.args.scope.now) c.args.goes_on c.args.sign c.in-Fixed.a c.args.pair.right.operand c.args.pair.place
          c.type_of-t.result c.core_operator-o.result c.in_default-other.not-Whole t operator)
          (c.applied_with-in_default-other.ensures.faults pass));
    }

pub returns : goal.returns
returns c =
    let operator = c.core_operator-o.ensures ∙ ap (core_operator c.args.sign) c.is_signed.ensures in
    record {
      value = λ pass.
          subst (λ q. IfOk c.applied_with-in_default.result (λ o. option_map operand_of o ≡ right_of q))
          (value_by (scope_in pass c.args.scope.now) c.args.goes_on c.args.sign c.args.pair.left.operand (operand_of c.args.pair.right.operand) c.args.pair.place
          c.type_of-t.result c.core_operator-o.result c.in_default.not-Fixed c.type_of-t.ensures operator)
          (c.applied_with-in_default.ensures.value pass);
      faults = λ pass.
          subst (λ q. OnOk c.applied_with-in_default.result (c.applied_with-in_default.new.faults.first ≡ noted c.args.faults.now.first q))
          (value_by (scope_in pass c.args.scope.now) c.args.goes_on c.args.sign c.args.pair.left.operand (operand_of c.args.pair.right.operand) c.args.pair.place
          c.type_of-t.result c.core_operator-o.result c.in_default.not-Fixed c.type_of-t.ensures operator)
          (c.applied_with-in_default.ensures.faults pass);
    }
