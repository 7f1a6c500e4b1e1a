use Rattle.std.proofs.Common.{◌≡◌, ap, sym, ◌∙◌, subst}
use Rattle.std.specs.Prelude.{IfOk, OnOk, option_map}
use Rattle.p4_rules.specs.declared.faults.Pass.{Pass}
use Rattle.p4_rules.specs.declared.types.SourceType.TheVariants.{Boolean}
use Rattle.p4_rules.specs.Faults.{Right}
use Rattle.p4_rules.specs.Operands.{Fixed}
use Rattle.p4_rules.specs.Operators.{bool_value, order_on}
use Rattle.p4_consts.specs.Integers.{integer_of}
use Rattle.p4_consts.specs.Noted.{noted, right_of}
use Rattle.p4_consts.specs.Operands.{operand_of}
use Rattle.p4_consts.specs.Pairs.{integers_of}
use Rattle.p4_consts.specs.Scopes.{scope_in}
use Rattle.p4_consts.proofs.OperatorLaws.{whole_numbers_are, order_beside}
use Rattle.p4_consts.proofs.comparisons.order_on.Goals as goal

pub returns-in_ok-fixed-in-Some : goal.returns-in_ok-fixed-in-Some
returns-in_ok-fixed-in-Some c =
    let numbers = whole_numbers_are (operand_of c.args.one) (operand_of c.args.other) (integer_of c.in-Some.a) (integer_of c.in-Some.b)
    (sym c.whole_numbers.ensures ∙ ap (option_map integers_of) c.in-Some.is) in
    let ordered = λ (pass : Pass).
    ap (λ q. Right q) (c.in_ok-fixed-in-Some.ensures ∙ ap (Fixed Boolean) (c.one_where-value.ensures ∙ ap bool_value c.integer_order.ensures))
    ∙ sym (ap (order_on (scope_in pass c.args.scope.now) c.args.goes_on c.args.sign c.args.place) numbers) in
    record { value = λ pass. ap right_of (ordered pass); faults = λ pass. ap (noted c.args.faults.now.first) (ordered pass) }

pub returns-in-None-clause-value : goal.returns-in-None-clause-value
returns-in-None-clause-value c = λ pass.
    let none = sym c.whole_numbers.ensures ∙ ap (option_map integers_of) c.in-None.is in
    subst (λ q. IfOk c.applied_with.result (λ o. option_map operand_of o ≡ right_of q))
    (order_beside (scope_in pass c.args.scope.now) c.args.goes_on c.args.sign c.args.place (operand_of c.args.one) (operand_of c.args.other) none)
    (rw (← c.type_of.ensures, ← c.is_signed.ensures, ← c.core_operator-operator.ensures) (c.applied_with.ensures.value pass))

pub returns-in-None-clause-faults : goal.returns-in-None-clause-faults
returns-in-None-clause-faults c = λ pass.
    let none = sym c.whole_numbers.ensures ∙ ap (option_map integers_of) c.in-None.is in
    subst (λ q. OnOk c.applied_with.result (c.applied_with.new.faults.first ≡ noted c.args.faults.now.first q))
    (order_beside (scope_in pass c.args.scope.now) c.args.goes_on c.args.sign c.args.place (operand_of c.args.one) (operand_of c.args.other) none)
    (rw (← c.type_of.ensures, ← c.is_signed.ensures, ← c.core_operator-operator.ensures) (c.applied_with.ensures.faults pass))
