use Rattle.p4_meaning.proofs.BuiltTests.{holds_when, holds_only, tight_when, tight_only}
use Rattle.p4_meaning.proofs.built_laws.built_tests.Goals as goal

pub returns-clause-hold : goal.returns-clause-hold
returns-clause-hold c =
    λ p well built b t. (holds_only p well built b t, λ h. holds_when p well built b t h.0 h.1)

pub returns-clause-tight : goal.returns-clause-tight
returns-clause-tight c =
    λ p well built b t.
    (tight_only p well built b t.input t.expected, tight_when p well built b t.input t.expected)
