use Rattle.p4_consts.proofs.AppliedLaws.{pushed_is}
use Rattle.p4_consts.proofs.applying.extended.Goals as goal

pub returns-in_ok-push-in-Operations : goal.returns-in_ok-push-in-Operations
returns-in_ok-push-in-Operations c = rw c.in-Operations.is
    (pushed_is c.in-Operations.first c.in-Operations.rest c.push.new.self (record { operator = c.args.operator; operand = c.args.operand })
    c.in_ok-push-in-Operations.ensures.items)
