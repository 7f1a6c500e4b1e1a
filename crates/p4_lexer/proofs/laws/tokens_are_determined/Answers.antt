use Rattle.p4_lexer.proofs.TokensLemmas.{one_tokens, one_refusal, no_both}
use Rattle.p4_lexer.proofs.laws.tokens_are_determined.Goals as goal

pub returns-clause-tokens : goal.returns-clause-tokens
returns-clause-tokens c = one_tokens

pub returns-clause-refusal : goal.returns-clause-refusal
returns-clause-refusal c = one_refusal

pub returns-clause-either : goal.returns-clause-either
returns-clause-either c = no_both
