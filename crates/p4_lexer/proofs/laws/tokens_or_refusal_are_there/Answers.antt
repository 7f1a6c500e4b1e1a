use Rattle.p4_lexer.proofs.WholeLemmas.{tokens_or_refusal}
use Rattle.p4_lexer.proofs.laws.tokens_or_refusal_are_there.Goals as goal

pub returns : goal.returns
returns c = tokens_or_refusal
