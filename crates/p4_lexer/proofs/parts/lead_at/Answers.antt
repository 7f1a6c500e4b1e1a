use Rattle.p4_lexer.proofs.PartLemmas.{lead_there}
use Rattle.p4_lexer.proofs.parts.lead_at.Goals as goal

pub returns-then-begins_line : goal.returns-then-begins_line
returns-then-begins_line c = lead_there c.args.text.now c.args.at c.lead_len.result (c.begins_line.ensures.0 c.if-begins_line.true) c.lead_len.ensures.begins
