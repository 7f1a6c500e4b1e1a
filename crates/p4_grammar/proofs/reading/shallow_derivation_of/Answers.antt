-- The stop is that of the parse.
use Rattle.std.proofs.Common.{List, Err, ap, ◌∙◌, subst}
use Rattle.p4_lexer.specs.declared.token.Token.{Token}
use Rattle.ll1_engine.specs.Parse.{StopsAt}
use Rattle.p4_grammar.specs.Rows.{grammar_rows}
use Rattle.p4_grammar.specs.Words.{terminals_of}
use Rattle.p4_grammar.specs.Descent.{TellTokens}
use Rattle.p4_grammar.proofs.reading.shallow_derivation_of.Goals as goal

pub stopped-requires-clause-stops : goal.stopped-requires-clause-stops
stopped-requires-clause-stops c =
    subst (λ (ts : List Token). StopsAt grammar_rows (terminals_of ts) c.in-Err-Stop.stop.at) c.as_slice.ensures
    (c.parsed.ensures.stop c.in-Err-Stop.stop (c.in-Err-Stop.is ∙ ap Err c.in-Err-Stop.field-0-is))

pub stopped-requires-clause-told : goal.stopped-requires-clause-told
stopped-requires-clause-told c =
    subst (λ (ts : List Token). TellTokens c.in-Err-Stop.stop.rows ts c.in-Err-Stop.stop.at) c.as_slice.ensures
    (c.parsed.ensures.told c.in-Err-Stop.stop (c.in-Err-Stop.is ∙ ap Err c.in-Err-Stop.field-0-is))
