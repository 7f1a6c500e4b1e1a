use Rattle.p4_lexer.proofs.SpellingLemmas.{keyword_exact}
use Rattle.p4_lexer.proofs.spellings.keyword_of.Goals as goal

pub returns : goal.returns
returns c = keyword_exact c.args.spelling.now c.keyword_among.result c.keyword_among.ensures
