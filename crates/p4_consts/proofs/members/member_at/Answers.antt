use Rattle.std.proofs.Common.{◌≡◌, subst}
use Rattle.std.specs.Prelude.{IfOk, OnOk, option_map}
use Rattle.p4_rules.specs.Things.{member_in}
use Rattle.p4_consts.specs.Noted.{noted, right_of}
use Rattle.p4_consts.specs.Scopes.{scope_in}
use Rattle.p4_consts.specs.Things.{thing_of}
use Rattle.p4_consts.proofs.members.member_at.Goals as goal

pub returns-clause-value : goal.returns-clause-value
returns-clause-value c =
    subst (λ found. IfOk c.member_in.result (λ v. option_map thing_of v ≡ right_of (member_in (scope_in c.args.pass c.args.scope.now) c.args.name.now found)))
    c.member_named-found.ensures c.member_in.ensures.value

pub returns-clause-faults : goal.returns-clause-faults
returns-clause-faults c =
    subst (λ found. OnOk c.member_in.result
    (c.member_in.new.faults.first ≡ noted c.args.faults.now.first (member_in (scope_in c.args.pass c.args.scope.now) c.args.name.now found)))
    c.member_named-found.ensures c.member_in.ensures.faults
