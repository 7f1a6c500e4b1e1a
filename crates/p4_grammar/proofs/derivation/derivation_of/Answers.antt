-- The stop is that of the parse.
use Rattle.std.proofs.Common.{List, Err, ap, ◌∙◌, subst}
use Rattle.p4_lexer.specs.declared.token.Token.{Token}
use Rattle.ll1_engine.specs.Parse.{StopsAt}
use Rattle.p4_grammar.specs.Rows.{grammar_rows}
use Rattle.p4_grammar.specs.Words.{terminals_of}
use Rattle.p4_grammar.proofs.derivation.derivation_of.Goals as goal

pub syntax_fault-requires : goal.syntax_fault-requires
syntax_fault-requires c =
    subst (λ (ts : List Token). StopsAt grammar_rows (terminals_of ts) c.in-Err-Stop.stop.at) c.as_slice.ensures
    (c.parsed.ensures.stop c.in-Err-Stop.stop (c.in-Err-Stop.is ∙ ap Err c.in-Err-Stop.field-0-is))
