use Rattle.std.proofs.Common.{◌≡◌, ap, sym, ◌∙◌, subst}
use Rattle.std.specs.Prelude.{IfOk, OnOk, option_map}
use Rattle.p4_rules.specs.Operators.{unified, choice_on}
use Rattle.p4_consts.specs.Noted.{noted, right_of}
use Rattle.p4_consts.specs.Operands.{operand_of, placed_of}
use Rattle.p4_consts.specs.Pairs.{pair_of, operands_of}
use Rattle.p4_consts.specs.Scopes.{scope_in}
use Rattle.p4_consts.proofs.ChoiceLaws.{choice_unified}
use Rattle.p4_consts.proofs.NotedLaws.{and_then_right, and_then_noted, and_then_wrong}
use Rattle.p4_consts.proofs.choices.choice.Goals as goal

pub returns-in-Some-clause-value : goal.returns-in-Some-clause-value
returns-in-Some-clause-value c =
    let scope = scope_in c.args.pass c.args.scope.now in
    let both = choice_unified scope (placed_of c.args.condition) (pair_of c.args.pair) (sym c.is_boolean.ensures ∙ c.if-not-is_boolean.false) in
    let found = sym (c.in_ok-one.ensures.value c.args.scope.now) ∙ ap (option_map operands_of) c.in-Some.is in
    subst (λ q. IfOk c.choice_on.result (λ o. option_map operand_of o ≡ right_of q))
    (sym (both ∙ and_then_right (unified scope (pair_of c.args.pair)) (choice_on scope c.args.pair.place (operand_of c.args.condition.operand))
    (operand_of c.in-Some.one, operand_of c.in-Some.other) found))
    (c.choice_on.ensures.value c.args.pass)

pub returns-in-Some-clause-faults : goal.returns-in-Some-clause-faults
returns-in-Some-clause-faults c =
    let scope = scope_in c.args.pass c.args.scope.now in
    let both = choice_unified scope (placed_of c.args.condition) (pair_of c.args.pair) (sym c.is_boolean.ensures ∙ c.if-not-is_boolean.false) in
    let found = sym (c.in_ok-one.ensures.value c.args.scope.now) ∙ ap (option_map operands_of) c.in-Some.is in
    let whole = choice_on scope c.args.pair.place (operand_of c.args.condition.operand) in
    subst (λ first. OnOk c.choice_on.result (c.choice_on.new.faults.first ≡ first))
    (ap (λ first. noted first (whole (operand_of c.in-Some.one, operand_of c.in-Some.other))) (c.in_ok-one.ensures.faults c.args.scope.now)
    ∙ sym (ap (noted c.args.faults.now.first) both ∙ and_then_noted (unified scope (pair_of c.args.pair)) whole
    (operand_of c.in-Some.one, operand_of c.in-Some.other) c.args.faults.now.first found))
    (c.choice_on.ensures.faults c.args.pass)

pub returns-in-None-clause-value : goal.returns-in-None-clause-value
returns-in-None-clause-value c =
    let scope = scope_in c.args.pass c.args.scope.now in
    let both = choice_unified scope (placed_of c.args.condition) (pair_of c.args.pair) (sym c.is_boolean.ensures ∙ c.if-not-is_boolean.false) in
    let none = sym (c.in_ok-one.ensures.value c.args.scope.now) ∙ ap (option_map operands_of) c.in-None.is in
    sym (ap right_of both ∙ (and_then_wrong (unified scope (pair_of c.args.pair))
    (choice_on scope c.args.pair.place (operand_of c.args.condition.operand)) c.args.faults.now.first none).0)

pub returns-in-None-clause-faults : goal.returns-in-None-clause-faults
returns-in-None-clause-faults c =
    let scope = scope_in c.args.pass c.args.scope.now in
    let both = choice_unified scope (placed_of c.args.condition) (pair_of c.args.pair) (sym c.is_boolean.ensures ∙ c.if-not-is_boolean.false) in
    let none = sym (c.in_ok-one.ensures.value c.args.scope.now) ∙ ap (option_map operands_of) c.in-None.is in
    c.in_ok-one.ensures.faults c.args.scope.now
    ∙ sym (ap (noted c.args.faults.now.first) both ∙ (and_then_wrong (unified scope (pair_of c.args.pair))
    (choice_on scope c.args.pair.place (operand_of c.args.condition.operand)) c.args.faults.now.first none).1)
