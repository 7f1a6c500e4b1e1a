use Rattle.p4_lexer.proofs.PartsLemmas.{parts_one}
use Rattle.p4_lexer.proofs.laws.parts_are_determined.Goals as goal

pub returns : goal.returns
returns c = parts_one
