use Rattle.std.proofs.Common.{ap, sym, ◌∙◌}
use Rattle.p4_rules.specs.declared.faults.Pass.{Pass}
use Rattle.p4_rules.specs.Faults.{Right}
use Rattle.p4_rules.specs.Operators.{choice_on}
use Rattle.p4_consts.specs.Integers.{integer_of}
use Rattle.p4_consts.specs.Noted.{noted, right_of}
use Rattle.p4_consts.specs.Operands.{operand_of}
use Rattle.p4_consts.specs.Scopes.{scope_in}
use Rattle.p4_consts.proofs.ChoiceLaws.{integer_beside, constant_beside, value_beside}
use Rattle.p4_consts.proofs.choices.choice_on.Goals as goal

pub returns-in_ok-run_choice-in_default-other : goal.returns-in_ok-run_choice-in_default-other
returns-in_ok-run_choice-in_default-other c =
    let chosen = λ (pass : Pass).
    ap (λ q. Right q) (c.in_ok-run_choice-in_default-other.ensures pass)
    ∙ integer_beside (scope_in pass c.args.scope.now) c.args.place (operand_of c.args.condition) (integer_of c.in-Whole.a) c.args.other c.in_default-other.not-Whole
    ∙ ap (λ x. choice_on (scope_in pass c.args.scope.now) c.args.place (operand_of c.args.condition) (operand_of x, operand_of c.args.other)) (sym c.in-Whole.is) in
    record { value = λ pass. ap right_of (chosen pass); faults = λ pass. ap (noted c.args.faults.now.first) (chosen pass) }

pub returns-in_ok-run_choice-in_default-other-2 : goal.returns-in_ok-run_choice-in_default-other-2
returns-in_ok-run_choice-in_default-other-2 c =
    let chosen = λ (pass : Pass).
    ap (λ q. Right q) (c.in_ok-run_choice-in_default-other-2.ensures pass)
    ∙ constant_beside (scope_in pass c.args.scope.now) c.args.place (operand_of c.args.condition) c.in-Fixed.a c.args.other c.in_default-other-2.not-Fixed
    ∙ ap (λ x. choice_on (scope_in pass c.args.scope.now) c.args.place (operand_of c.args.condition) (operand_of x, operand_of c.args.other)) (sym c.in-Fixed.is) in
    record { value = λ pass. ap right_of (chosen pass); faults = λ pass. ap (noted c.args.faults.now.first) (chosen pass) }

pub returns-in_ok-run_choice-in_default : goal.returns-in_ok-run_choice-in_default
returns-in_ok-run_choice-in_default c =
    let chosen = λ (pass : Pass).
    ap (λ q. Right q) (c.in_ok-run_choice-in_default.ensures pass)
    ∙ value_beside (scope_in pass c.args.scope.now) c.args.place (operand_of c.args.condition) c.args.one (operand_of c.args.other) c.in_default.not-Whole c.in_default.not-Fixed in
    record { value = λ pass. ap right_of (chosen pass); faults = λ pass. ap (noted c.args.faults.now.first) (chosen pass) }
