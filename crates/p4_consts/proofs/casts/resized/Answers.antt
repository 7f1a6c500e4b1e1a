use Rattle.std.proofs.Common.{ap, ◌∙◌}
use Rattle.p4_consts.specs.Scopes.{scope_in}
use Rattle.p4_program.specs.Trees.Expressions.{expression_of}
use Rattle.p4_consts.proofs.CastLaws.{resized_same, resized_other}
use Rattle.p4_consts.proofs.casts.resized.Goals as goal

pub returns-then-w-v : goal.returns-then-w-v
returns-then-w-v c = λ pass.
    resized_same (scope_in pass c.args.scope.now) c.args.signed c.args.w c.args.v c.args.t c.args.place c.args.operand
    (expression_of c.in_ok-expression-in_default.expression) c.varying_or-at.result
    c.in_default.not-Fixed c.if-w-v.true (c.in_ok-expression-in_default.ensures pass) c.varying_or-at.ensures

pub returns-in_ok-part-in_default : goal.returns-in_ok-part-in_default
returns-in_ok-part-in_default c = λ pass.
    resized_other (scope_in pass c.args.scope.now) c.args.signed c.args.w c.args.v c.args.t c.args.place c.args.operand
    (expression_of c.in_ok-part-in_default.part.value) c.varying_or-at.result
    c.in_default.not-Fixed c.if-w-v.false (ap expression_of c.in_ok-part-in_default.ensures.ok ∙ c.in_ok-expression-in_default.ensures pass) c.varying_or-at.ensures
