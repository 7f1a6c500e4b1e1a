use Rattle.std.proofs.Common.{◌≡◌, ap, sym, ◌∙◌, subst}
use Rattle.std.specs.Prelude.{IfOk, OnOk, option_map}
use Rattle.p4_rules.specs.Operators.{arithmetic_on}
use Rattle.p4_consts.specs.Integers.{integer_of}
use Rattle.p4_consts.specs.Noted.{noted, right_of}
use Rattle.p4_consts.specs.Operands.{operand_of}
use Rattle.p4_consts.specs.Pairs.{integers_of}
use Rattle.p4_consts.specs.Scopes.{scope_in}
use Rattle.p4_consts.proofs.OperatorLaws.{whole_numbers_are, arithmetic_beside}
use Rattle.p4_consts.proofs.calculations.arithmetic_on.Goals as goal

pub returns-in-Some-clause-value : goal.returns-in-Some-clause-value
returns-in-Some-clause-value c =
    let numbers = whole_numbers_are (operand_of c.args.one) (operand_of c.args.other) (integer_of c.in-Some.a) (integer_of c.in-Some.b)
    (sym c.whole_numbers.ensures ∙ ap (option_map integers_of) c.in-Some.is) in
    c.integers_folded.ensures.value c.args.scope.now
    ∙ ap right_of (sym (ap (arithmetic_on (scope_in c.args.pass c.args.scope.now) c.args.goes_on c.args.sign c.args.place) numbers))

pub returns-in-Some-clause-faults : goal.returns-in-Some-clause-faults
returns-in-Some-clause-faults c =
    let numbers = whole_numbers_are (operand_of c.args.one) (operand_of c.args.other) (integer_of c.in-Some.a) (integer_of c.in-Some.b)
    (sym c.whole_numbers.ensures ∙ ap (option_map integers_of) c.in-Some.is) in
    c.integers_folded.ensures.faults c.args.scope.now
    ∙ ap (noted c.args.faults.now.first) (sym (ap (arithmetic_on (scope_in c.args.pass c.args.scope.now) c.args.goes_on c.args.sign c.args.place) numbers))

pub returns-in-None-clause-value : goal.returns-in-None-clause-value
returns-in-None-clause-value c =
    let none = sym c.whole_numbers.ensures ∙ ap (option_map integers_of) c.in-None.is in
    subst (λ q. IfOk c.applied_with.result (λ o. option_map operand_of o ≡ right_of q))
    (arithmetic_beside (scope_in c.args.pass c.args.scope.now) c.args.goes_on c.args.sign c.args.place (operand_of c.args.one) (operand_of c.args.other) none)
    (rw (← c.type_of-t.ensures, ← c.is_signed.ensures, ← c.core_operator-operator.ensures) (c.applied_with.ensures.value c.args.pass))

pub returns-in-None-clause-faults : goal.returns-in-None-clause-faults
returns-in-None-clause-faults c =
    let none = sym c.whole_numbers.ensures ∙ ap (option_map integers_of) c.in-None.is in
    subst (λ q. OnOk c.applied_with.result (c.applied_with.new.faults.first ≡ noted c.args.faults.now.first q))
    (arithmetic_beside (scope_in c.args.pass c.args.scope.now) c.args.goes_on c.args.sign c.args.place (operand_of c.args.one) (operand_of c.args.other) none)
    (rw (← c.type_of-t.ensures, ← c.is_signed.ensures, ← c.core_operator-operator.ensures) (c.applied_with.ensures.faults c.args.pass))
