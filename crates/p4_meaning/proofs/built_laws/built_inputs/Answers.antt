use Rattle.p4_meaning.proofs.BuiltTests.{steady, good_when, good_only}
use Rattle.p4_meaning.proofs.built_laws.built_inputs.Goals as goal

pub returns-clause-steady : goal.returns-clause-steady
returns-clause-steady c = λ p well built b x. steady p well built b x

pub returns-clause-good : goal.returns-clause-good
returns-clause-good c =
    λ p well built b x statement.
    (good_only p well built b x statement, λ h. good_when p well built b x statement h.0 h.1)
