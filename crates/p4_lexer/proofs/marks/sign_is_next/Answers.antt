use Rattle.p4_lexer.proofs.NextLemmas.{first_next}
use Rattle.p4_lexer.proofs.marks.sign_is_next.Goals as goal

pub returns-in-len1-up : goal.returns-in-len1-up
returns-in-len1-up c = first_next c.args.text.now c.args.rest.now c.args.sign c.bare_is_sign.result _ c.in-len1-up.len_at_least c.bare_is_sign.ensures
