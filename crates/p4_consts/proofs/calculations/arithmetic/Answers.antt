use Rattle.std.proofs.Common.{◌≡◌, ap, sym, ◌∙◌, subst}
use Rattle.std.specs.Prelude.{IfOk, OnOk, option_map}
use Rattle.p4_rules.specs.Operators.{is_number, with_bits, arithmetic_on}
use Rattle.p4_consts.proofs.OperatorLaws.{unified_each_right, unified_each_noted, unified_each_wrong}
use Rattle.p4_consts.specs.Noted.{noted, right_of}
use Rattle.p4_consts.specs.Operands.{operand_of}
use Rattle.p4_consts.specs.Pairs.{pair_of, operands_of}
use Rattle.p4_consts.specs.Scopes.{scope_in}
use Rattle.p4_consts.proofs.calculations.arithmetic.Goals as goal

pub returns-in-Some-clause-value : goal.returns-in-Some-clause-value
returns-in-Some-clause-value c =
    let scope = scope_in c.args.pass c.args.scope.now in
    let found = sym (c.in_ok-one.ensures.value c.args.scope.now) ∙ ap (option_map operands_of) c.in-Some.is in
    subst (λ q. IfOk c.arithmetic_on.result (λ o. option_map operand_of o ≡ right_of q))
    (sym (unified_each_right scope is_number (with_bits scope (pair_of c.args.pair)) (arithmetic_on scope c.args.goes_on c.args.sign)
    (operand_of c.in-Some.one, operand_of c.in-Some.other) found))
    (c.arithmetic_on.ensures.value)

pub returns-in-Some-clause-faults : goal.returns-in-Some-clause-faults
returns-in-Some-clause-faults c =
    let scope = scope_in c.args.pass c.args.scope.now in
    let found = sym (c.in_ok-one.ensures.value c.args.scope.now) ∙ ap (option_map operands_of) c.in-Some.is in
    let whole = arithmetic_on scope c.args.goes_on c.args.sign in
    subst (λ first. OnOk c.arithmetic_on.result (c.arithmetic_on.new.faults.first ≡ first))
    (ap (λ first. noted first (whole c.args.pair.place (operand_of c.in-Some.one, operand_of c.in-Some.other))) (c.in_ok-one.ensures.faults c.args.scope.now)
    ∙ sym (unified_each_noted scope is_number (with_bits scope (pair_of c.args.pair)) whole
    (operand_of c.in-Some.one, operand_of c.in-Some.other) c.args.faults.now.first found))
    (c.arithmetic_on.ensures.faults)

pub returns-in-None-clause-value : goal.returns-in-None-clause-value
returns-in-None-clause-value c =
    let scope = scope_in c.args.pass c.args.scope.now in
    let none = sym (c.in_ok-one.ensures.value c.args.scope.now) ∙ ap (option_map operands_of) c.in-None.is in
    sym ((unified_each_wrong scope is_number (with_bits scope (pair_of c.args.pair)) (arithmetic_on scope c.args.goes_on c.args.sign) c.args.faults.now.first none).0)

pub returns-in-None-clause-faults : goal.returns-in-None-clause-faults
returns-in-None-clause-faults c =
    let scope = scope_in c.args.pass c.args.scope.now in
    let none = sym (c.in_ok-one.ensures.value c.args.scope.now) ∙ ap (option_map operands_of) c.in-None.is in
    c.in_ok-one.ensures.faults c.args.scope.now
    ∙ sym ((unified_each_wrong scope is_number (with_bits scope (pair_of c.args.pair)) (arithmetic_on scope c.args.goes_on c.args.sign) c.args.faults.now.first none).1)
