use Rattle.p4_lexer.proofs.SpellingLemmas.{reserved_exact}
use Rattle.p4_lexer.proofs.spellings.reserved_of.Goals as goal

pub returns : goal.returns
returns c = reserved_exact c.args.spelling.now c.reserved_among.result c.reserved_among.ensures
