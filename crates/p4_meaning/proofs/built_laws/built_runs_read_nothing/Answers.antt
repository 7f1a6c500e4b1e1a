use Rattle.p4_meaning.proofs.BuiltLaws.{no_reads}
use Rattle.p4_meaning.proofs.built_laws.built_runs_read_nothing.Goals as goal

pub returns : goal.returns
returns c = λ p well built b x reads outcome marks run. no_reads p b x reads outcome marks well built run
