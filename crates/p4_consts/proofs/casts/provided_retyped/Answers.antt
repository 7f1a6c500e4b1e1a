use Rattle.std.proofs.Common.{ap, Some}
use Rattle.p4_consts.proofs.casts.provided_retyped.Goals as goal

pub returns-then-holds-clause-value : goal.returns-then-holds-clause-value
returns-then-holds-clause-value c = λ Γ. rw c.if-holds.true (ap Some (c.in_ok-retyped.ensures Γ))
