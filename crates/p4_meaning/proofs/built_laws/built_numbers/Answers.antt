use Rattle.p4_meaning.proofs.BuiltPorts.{port_below}
use Rattle.p4_meaning.proofs.BuiltTables.{numbered_only, numbered_when}
use Rattle.p4_meaning.proofs.built_laws.built_numbers.Goals as goal

pub returns-clause-statements : goal.returns-clause-statements
returns-clause-statements c =
    λ p well n. (numbered_only p well n, λ h. numbered_when p well n h.0 h.1)

pub returns-clause-port : goal.returns-clause-port
returns-clause-port c = port_below
