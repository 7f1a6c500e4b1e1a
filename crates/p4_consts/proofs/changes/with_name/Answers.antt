use Rattle.p4_consts.specs.Scopes.{scope_in}
use Rattle.p4_consts.proofs.ScopeLaws.{inner_declared}
use Rattle.p4_consts.proofs.changes.with_name.Goals as goal

pub returns : goal.returns
returns c = record {
  ok = λ pass. inner_declared (scope_in pass c.args.scope.now) c.args.scope.now.inner.items c.push.new.self.items c.pop.new.self.items
      c.in-Some.innermost c.declare.new.self c.args.name.now c.args.meaning
      c.in-Some.ensures.items c.in_ok-push.ensures.items c.in_ok-declare.ensures.ok;
}
