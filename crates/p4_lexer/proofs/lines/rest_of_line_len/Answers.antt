use Rattle.p4_lexer.proofs.RestLemmas.{rest_ended, rest_is_ended, rest_whole, rest_is_whole}
use Rattle.p4_lexer.proofs.lines.rest_of_line_len.Goals as goal

pub returns-then-len-text-clause-rest : goal.returns-then-len-text-clause-rest
returns-then-len-text-clause-rest c = rest_ended c.args.text.now c.run_len-len.result c.run_len-len.ensures.value c.if-len-text.true

pub returns-then-len-text-clause-only : goal.returns-then-len-text-clause-only
returns-then-len-text-clause-only c = rest_is_ended c.args.text.now c.run_len-len.result c.run_len-len.ensures.value c.if-len-text.true

pub returns-else-len-text-clause-rest : goal.returns-else-len-text-clause-rest
returns-else-len-text-clause-rest c = rest_whole c.args.text.now c.run_len-len.result c.run_len-len.ensures.value c.requires c.run_len-len.ensures.within c.if-len-text.false

pub returns-else-len-text-clause-only : goal.returns-else-len-text-clause-only
returns-else-len-text-clause-only c = rest_is_whole c.args.text.now c.run_len-len.result c.run_len-len.ensures.value c.run_len-len.ensures.within c.if-len-text.false
