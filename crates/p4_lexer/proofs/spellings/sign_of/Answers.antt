use Rattle.p4_lexer.proofs.SpellingLemmas.{sign_exact}
use Rattle.p4_lexer.proofs.spellings.sign_of.Goals as goal

pub returns : goal.returns
returns c = sign_exact c.args.spelling.now c.sign_among.result c.sign_among.ensures
