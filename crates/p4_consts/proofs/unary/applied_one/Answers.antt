use Rattle.std.proofs.Common.{ap}
use Rattle.p4_program.specs.Trees.Expressions.{expression_of}
use Rattle.p4_consts.specs.Scopes.{scope_in}
use Rattle.p4_consts.proofs.UnaryLaws.{applied_one_run}
use Rattle.p4_consts.proofs.unary.applied_one.Goals as goal

pub returns-in_ok-part-in_default : goal.returns-in_ok-part-in_default
returns-in_ok-part-in_default c = λ pass.
    let run = applied_one_run (scope_in pass c.args.scope.now) c.args.op c.args.place c.args.operand c.in_default.not-Fixed in
    let part = ap expression_of c.in_ok-part-in_default.ensures.ok in
    cc (c.in_ok-core_of-in_default.ensures pass)
