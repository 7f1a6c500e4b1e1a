-- The left of a row is a form, and the symbol of a token is none.
use Rattle.std.proofs.Common.{◌≡◌, ℕ, true, false, leb, ltb, refl}
use Rattle.std.specs.Prelude.{nat_lt}
use Rattle.std.proofs.lemmas.Bool.{and_parts, leb-true, le-ltb}
use Rattle.p4_lexer.specs.declared.token.Word.{Word}
use Rattle.ll1_engine.specs.declared.grammar.Row.{Row}
use Rattle.ll1_engine.specs.Table.{IsRow}
use Rattle.p4_grammar.specs.declared.symbols.TheConstants.{FORM_COUNT, SYMBOL_COUNT}
use Rattle.p4_grammar.specs.Rows.{top_rows, types_rows, expressions_rows, operations_rows, keys_rows, statements_rows, parser_rows, control_rows, tables_rows, grammar_rows}
use Rattle.p4_grammar.specs.Words.{terminal_of}
use Rattle.p4_grammar.proofs.TableTests.{all_from}
use Rattle.p4_grammar.proofs.TableTestsLemmas.{at_row_zero}
use Rattle.p4_grammar.proofs.WordsLemmas.{terminal_is_word}

lefts_are_forms : all_from (λ i r. ltb r.left FORM_COUNT) 0 grammar_rows ≡ true
unfolding grammar_rows top_rows types_rows expressions_rows operations_rows keys_rows statements_rows parser_rows control_rows tables_rows
lefts_are_forms = refl

pub left_is_form : (k : ℕ) (r : Row) → IsRow grammar_rows k r → nat_lt r.left FORM_COUNT ≡ true
left_is_form k r e = at_row_zero (λ i q. ltb q.left FORM_COUNT) grammar_rows k r lefts_are_forms e

pub word_is_no_form : (w : Word) → nat_lt (terminal_of w) FORM_COUNT ≡ false
word_is_no_form w =
    let a = and_parts (leb FORM_COUNT (terminal_of w)) (ltb (terminal_of w) SYMBOL_COUNT) (terminal_is_word w) in
    le-ltb (terminal_of w) FORM_COUNT (leb-true FORM_COUNT (terminal_of w) a.0)
