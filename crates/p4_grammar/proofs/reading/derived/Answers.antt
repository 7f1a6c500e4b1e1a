-- The rows of a derivation tell all of its tokens.
use Rattle.std.proofs.Common.{ℕ, List, length, sym, subst}
use Rattle.p4_lexer.specs.declared.token.Token.{Token}
use Rattle.p4_grammar.specs.Depth.{IsShallowBefore}
use Rattle.p4_grammar.specs.Descent.{TellTokens}
use Rattle.p4_grammar.proofs.ReadingLemmas.{rows_tell, shallow_all, none_is_deep}
use Rattle.p4_grammar.proofs.reading.derived.Goals as goal

pub first_deep-requires-clause-told : goal.first_deep-requires-clause-told
first_deep-requires-clause-told c =
    subst (λ (ts : List Token). TellTokens c.as_slice.result.now ts (length ts)) (sym c.as_slice-all.ensures)
    (subst (λ (rows : List ℕ). TellTokens rows c.args.tokens.now.tokens (length c.args.tokens.now.tokens)) (sym c.as_slice.ensures)
    (rows_tell c.args.rows c.args.tokens.now.tokens c.requires.rows))

pub returns-in-Ok-None-clause-shallow : goal.returns-in-Ok-None-clause-shallow
returns-in-Ok-None-clause-shallow c =
    let shallow : IsShallowBefore c.as_slice-all.result.now (length c.as_slice-all.result.now) =
    none_is_deep c.in-Ok-None.field-0 c.as_slice-all.result.now (length c.as_slice-all.result.now) c.in-Ok-None.field-0-is c.in-Ok-None.ensures in
    shallow_all c.args.tokens.now.tokens (subst (λ (ts : List Token). IsShallowBefore ts (length ts)) c.as_slice-all.ensures shallow)
