use Rattle.p4_meaning.proofs.BuiltTests.{reachable_when, reachable_only, verdict_is}
use Rattle.p4_meaning.proofs.built_laws.built_verdicts.Goals as goal

pub returns-clause-reachable : goal.returns-clause-reachable
returns-clause-reachable c =
    λ p well built b statement.
    (reachable_only p well built b statement, reachable_when p well built b statement)

pub returns-clause-verdicts : goal.returns-clause-verdicts
returns-clause-verdicts c = verdict_is
