use Rattle.std.proofs.Common.{◌≡◌, ap, ◌∙◌}
use Rattle.std.proofs.lemmas.Result.{IfOk-weaker}
use Rattle.p4_rules.specs.Faults.{Right}
use Rattle.p4_rules.specs.Operators.{choice_on}
use Rattle.p4_consts.specs.declared.operands.Operand.TheVariants as operand
use Rattle.p4_consts.specs.Choices.{chosen_in_run}
use Rattle.p4_consts.specs.Operands.{operand_of}
use Rattle.p4_consts.specs.Scopes.{scope_in}
use Rattle.p4_consts.proofs.ChoiceLaws.{constants_in_run}
use Rattle.p4_consts.proofs.choices.fixed_choice.Goals as goal

pub returns-in_default : goal.returns-in_default
returns-in_default c = λ pass.
    let one = operand_of (operand.Fixed c.args.a) in
    let other = operand_of (operand.Fixed c.args.b) in
    let scope = scope_in pass c.args.scope.now in
    IfOk-weaker c.run_choice.result
    (λ x. operand_of x ≡ chosen_in_run scope c.args.place (operand_of c.args.condition) one other)
    (λ x. Right (operand_of x) ≡ choice_on scope c.args.place (operand_of c.args.condition) (one, other))
    (λ x e. ap (λ q. Right q) e ∙ constants_in_run scope c.args.place c.args.condition c.args.a c.args.b c.in_default.not-Fixed)
    (c.run_choice.ensures pass)
