use Rattle.ll1_engine.proofs.MarksLemmas.{Widens_set}
use Rattle.ll1_engine.proofs.sets.mark.Goals as goal

pub returns-clause-widens : goal.returns-clause-widens
returns-clause-widens c = Widens_set c.args.marks.now c.args.symbol c.requires
