use Rattle.p4_program.proofs.Smallest.{some_built}
use Rattle.p4_program.proofs.typed.laws.some_program_is_built.Goals as goal

-- src/typed/laws.rt
pub returns : goal.returns
returns c = some_built
