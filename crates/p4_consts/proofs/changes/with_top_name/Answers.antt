use Rattle.std.proofs.Common.{refl}
use Rattle.p4_consts.specs.Scopes.{scope_in}
use Rattle.p4_consts.proofs.ScopeLaws.{on_ok, top_declared}
use Rattle.p4_consts.proofs.changes.with_top_name.Goals as goal

pub returns-clause-ok : goal.returns-clause-ok
returns-clause-ok c = λ pass.
    on_ok c.declare.result (top_declared (scope_in pass c.args.scope.now) c.args.scope.now.top c.declare.new.self c.args.name.now c.args.meaning refl)
    c.declare.ensures.ok
