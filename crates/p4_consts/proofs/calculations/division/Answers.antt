use Rattle.std.proofs.Common.{◌≡◌, ap, sym, ◌∙◌}
use Rattle.std.specs.Prelude.{option_map}
use Rattle.p4_rules.specs.Operators.{each, is_integer}
use Rattle.p4_rules.specs.Operators.{division_on}
use Rattle.p4_consts.specs.Noted.{noted, right_of}
use Rattle.p4_consts.specs.Operands.{operand_of}
use Rattle.p4_consts.specs.Pairs.{pair_of}
use Rattle.p4_consts.specs.Scopes.{scope_in}
use Rattle.p4_consts.proofs.NotedLaws.{right_noted}
use Rattle.p4_consts.proofs.OperatorLaws.{division_taken, division_wrong}
use Rattle.p4_consts.proofs.calculations.division.Goals as goal

pub returns-in-Some-clause-value : goal.returns-in-Some-clause-value
returns-in-Some-clause-value c = λ scope.
    let found = sym c.each.ensures.value ∙ ap (option_map pair_of) c.in-Some.is in
    c.division_on.ensures.value scope
    ∙ ap right_of (sym (division_taken (scope_in c.args.pass scope) c.args.sign (pair_of c.args.pair) (pair_of c.in-Some.fitting) found))

pub returns-in-Some-clause-faults : goal.returns-in-Some-clause-faults
returns-in-Some-clause-faults c = λ scope.
    let found = sym c.each.ensures.value ∙ ap (option_map pair_of) c.in-Some.is in
    let divided = division_on (scope_in c.args.pass scope) c.args.sign (pair_of c.in-Some.fitting)
    (operand_of c.in-Some.fitting.left.operand) (operand_of c.in-Some.fitting.right.operand) in
    c.division_on.ensures.faults scope
    ∙ ap (λ first. noted first divided) (c.each.ensures.faults ∙ right_noted (each is_integer (pair_of c.args.pair)) (pair_of c.in-Some.fitting) c.args.faults.now.first found)
    ∙ ap (noted c.args.faults.now.first)
    (sym (division_taken (scope_in c.args.pass scope) c.args.sign (pair_of c.args.pair) (pair_of c.in-Some.fitting) found))

pub returns-in-None-clause-value : goal.returns-in-None-clause-value
returns-in-None-clause-value c = λ scope.
    let none = sym c.each.ensures.value ∙ ap (option_map pair_of) c.in-None.is in
    sym (division_wrong (scope_in c.args.pass scope) c.args.sign (pair_of c.args.pair) c.args.faults.now.first none).0

pub returns-in-None-clause-faults : goal.returns-in-None-clause-faults
returns-in-None-clause-faults c = λ scope.
    let none = sym c.each.ensures.value ∙ ap (option_map pair_of) c.in-None.is in
    c.each.ensures.faults ∙ sym (division_wrong (scope_in c.args.pass scope) c.args.sign (pair_of c.args.pair) c.args.faults.now.first none).1
