use Rattle.std.proofs.Common.{◌≡◌, ap, sym, ◌∙◌, subst}
use Rattle.std.specs.Prelude.{IfOk, OnOk, option_map}
use Rattle.p4_rules.specs.Operators.{equality_on}
use Rattle.p4_consts.specs.Integers.{integer_of}
use Rattle.p4_consts.specs.Noted.{noted, right_of}
use Rattle.p4_consts.specs.Operands.{operand_of}
use Rattle.p4_consts.specs.Pairs.{integers_of}
use Rattle.p4_consts.specs.Scopes.{scope_in}
use Rattle.p4_consts.proofs.OperatorLaws.{whole_numbers_are, equality_beside}
use Rattle.p4_consts.proofs.comparisons.equality_on.Goals as goal

pub returns-in-Some-clause-value : goal.returns-in-Some-clause-value
returns-in-Some-clause-value c = λ pass.
    let numbers = whole_numbers_are (operand_of c.args.one) (operand_of c.args.other) (integer_of c.in-Some.field-0.0) (integer_of c.in-Some.field-0.1)
    (sym c.whole_numbers.ensures ∙ ap (option_map integers_of) c.in-Some.is) in
    ap right_of (sym (ap (equality_on (scope_in pass c.args.scope.now) c.args.goes_on c.args.sign c.args.place) numbers))

pub returns-in-Some-clause-faults : goal.returns-in-Some-clause-faults
returns-in-Some-clause-faults c = λ pass.
    let numbers = whole_numbers_are (operand_of c.args.one) (operand_of c.args.other) (integer_of c.in-Some.field-0.0) (integer_of c.in-Some.field-0.1)
    (sym c.whole_numbers.ensures ∙ ap (option_map integers_of) c.in-Some.is) in
    c.note.ensures
    ∙ ap (noted c.args.faults.now.first) (sym (ap (equality_on (scope_in pass c.args.scope.now) c.args.goes_on c.args.sign c.args.place) numbers))

pub returns-in-None-clause-value : goal.returns-in-None-clause-value
returns-in-None-clause-value c = λ pass.
    let none = sym c.whole_numbers.ensures ∙ ap (option_map integers_of) c.in-None.is in
    subst (λ q. IfOk c.applied_with.result (λ o. option_map operand_of o ≡ right_of q))
    (equality_beside (scope_in pass c.args.scope.now) c.args.goes_on c.args.sign c.args.place (operand_of c.args.one) (operand_of c.args.other) none)
    (rw (← c.core_operator-operator.ensures) (c.applied_with.ensures.value pass))

pub returns-in-None-clause-faults : goal.returns-in-None-clause-faults
returns-in-None-clause-faults c = λ pass.
    let none = sym c.whole_numbers.ensures ∙ ap (option_map integers_of) c.in-None.is in
    subst (λ q. OnOk c.applied_with.result (c.applied_with.new.faults.first ≡ noted c.args.faults.now.first q))
    (equality_beside (scope_in pass c.args.scope.now) c.args.goes_on c.args.sign c.args.place (operand_of c.args.one) (operand_of c.args.other) none)
    (rw (← c.core_operator-operator.ensures) (c.applied_with.ensures.faults pass))
