use Rattle.std.proofs.Common.{◌≡◌, ap, sym, ◌∙◌}
use Rattle.std.specs.Prelude.{option_map}
use Rattle.p4_rules.specs.Operands.{Operand}
use Rattle.p4_rules.specs.Operators.{division_on}
use Rattle.p4_consts.specs.Integers.{integer_of}
use Rattle.p4_consts.specs.Noted.{noted, right_of}
use Rattle.p4_consts.specs.Operands.{operand_of}
use Rattle.p4_consts.specs.Pairs.{pair_of, integers_of}
use Rattle.p4_consts.specs.Scopes.{scope_in}
use Rattle.p4_consts.proofs.OperatorLaws.{whole_numbers_are, division_beside}
use Rattle.p4_consts.proofs.calculations.division_on.Goals as goal

pub returns-in-Some-clause-value : goal.returns-in-Some-clause-value
returns-in-Some-clause-value c = λ scope.
    let numbers = whole_numbers_are (operand_of c.args.pair.left.operand) (operand_of c.args.pair.right.operand) (integer_of c.in-Some.a) (integer_of c.in-Some.b)
    (sym c.whole_numbers.ensures ∙ ap (option_map integers_of) c.in-Some.is) in
    c.integers_divided.ensures.value scope
    ∙ ap (λ (e : Operand × Operand). right_of (division_on (scope_in c.args.pass scope) c.args.sign (pair_of c.args.pair) e.0 e.1)) (sym numbers)

pub returns-in-Some-clause-faults : goal.returns-in-Some-clause-faults
returns-in-Some-clause-faults c = λ scope.
    let numbers = whole_numbers_are (operand_of c.args.pair.left.operand) (operand_of c.args.pair.right.operand) (integer_of c.in-Some.a) (integer_of c.in-Some.b)
    (sym c.whole_numbers.ensures ∙ ap (option_map integers_of) c.in-Some.is) in
    c.integers_divided.ensures.faults scope
    ∙ ap (λ (e : Operand × Operand). noted c.args.faults.now.first (division_on (scope_in c.args.pass scope) c.args.sign (pair_of c.args.pair) e.0 e.1)) (sym numbers)

pub returns-in-None-clause-value : goal.returns-in-None-clause-value
returns-in-None-clause-value c = λ scope.
    let none = sym c.whole_numbers.ensures ∙ ap (option_map integers_of) c.in-None.is in
    sym (ap right_of (division_beside (scope_in c.args.pass scope) c.args.sign (pair_of c.args.pair)
    (operand_of c.args.pair.left.operand) (operand_of c.args.pair.right.operand) none))

pub returns-in-None-clause-faults : goal.returns-in-None-clause-faults
returns-in-None-clause-faults c = λ scope.
    let none = sym c.whole_numbers.ensures ∙ ap (option_map integers_of) c.in-None.is in
    c.note.ensures
    ∙ sym (ap (noted c.args.faults.now.first) (division_beside (scope_in c.args.pass scope) c.args.sign (pair_of c.args.pair)
    (operand_of c.args.pair.left.operand) (operand_of c.args.pair.right.operand) none))
