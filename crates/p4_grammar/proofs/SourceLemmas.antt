-- The tree of a whole derivation.
use Rattle.std.proofs.Common.{◌≡◌, ℕ, List, [], ◌∷◌, Some, refl, sym, ap, ◌∙◌}
use Rattle.std.specs.Prelude.{nat_lt}
use Rattle.std.proofs.lemmas.Bool.{false≢true}
use Rattle.p4_lexer.specs.declared.token.Token.{Token}
use Rattle.p4_lexer.specs.declared.token.Tokens.{Tokens}
use Rattle.p4_tree.specs.declared.declarations.Source.{Source}
use Rattle.ll1_engine.specs.Trees.{roots, AreTrees}
use Rattle.p4_grammar.specs.declared.symbols.TheConstants.{FORM_COUNT, PROGRAM}
use Rattle.p4_grammar.specs.Rows.{grammar_rows}
use Rattle.p4_grammar.specs.Words.{terminal_of}
use Rattle.p4_grammar.specs.Parses.{Parse, End, Word, Node, IsParseOf, trees_of}
use Rattle.p4_grammar.specs.Ahead.{Begins, below}
use Rattle.p4_grammar.specs.Sources.{program, parts_of, IsSourceOf}
use Rattle.p4_grammar.proofs.FormsAndWords.{word_is_no_form}

-- one node, of this form
abbrev IsOne : ℕ → Parse → Type 0
IsOne form p = Begins form p × (parts_of p ≡ program (below p))

is_one : (p : Parse) → AreTrees grammar_rows (trees_of p) → roots (trees_of p) ≡ PROGRAM ∷ [] → IsOne PROGRAM p
is_one End v e = absurd (cc)
is_one (Word t a) v e =
    let here : terminal_of t.word ≡ PROGRAM = cc in
    absurd (false≢true (sym (word_is_no_form t.word) ∙ ap (λ (x : ℕ). nat_lt x FORM_COUNT) here))
is_one (Node k r u End) v e = (let here : r.left ≡ PROGRAM = cc in (record { row = v.0; left = here; right = v.1; valid = v.2 }, refl))
is_one (Node k r u (Word t a)) v e = absurd (cc)
is_one (Node k r u (Node j s w a)) v e = absurd (cc)

pub begins_program : (p : Parse) (tokens : List Token) → IsParseOf p tokens → Begins PROGRAM p
begins_program p tokens h = (is_one p h.derives.valid h.derives.top).0

pub is_source : (p : Parse) (source : Source) (tokens : Tokens) → IsParseOf p tokens.tokens → program (below p) ≡ Some source.parts →
    source.end ≡ tokens.end → IsSourceOf source tokens
is_source p source tokens h parts end = record { parse = p; derives = h; parts = (is_one p h.derives.valid h.derives.top).1 ∙ parts; end = end }
