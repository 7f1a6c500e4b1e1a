-- The row of a level says where its operator stands, and what is behind it.
use Rattle.std.proofs.Common.{◌≡◌, ℕ, Bool, None, Some, sym, ap, ◌∙◌, subst, inl, inr, ◌⊎◌}
use Rattle.std.specs.Prelude.{IsTrue}
use Rattle.p4_lexer.specs.declared.token.Token.{Token}
use Rattle.p4_grammar.specs.declared.levels.Level.{Level}
use Rattle.p4_grammar.specs.Parses.{Parse}
use Rattle.p4_grammar.specs.Ahead.{Begins, IsWord, after, opened, token_at, first_symbol}
use Rattle.p4_grammar.specs.Levels.{has_operator_form, level_form, operator_word, OperatorStands}
use Rattle.p4_grammar.proofs.LevelRows.{level_row, LevelRow, OperatorNext}
use Rattle.p4_grammar.proofs.levels.operator.Goals as goal

-- a level that begins with a symbol has an operator
next_of : (x : Level) (p : Parse) (s : ℕ) → LevelRow x p → first_symbol p ≡ Some s → OperatorNext (has_operator_form x) x p
next_of x p s (inl h) e = absurd (cc)
next_of x p s (inr h) e = h.1

next : (x : Level) (p : Parse) (s : ℕ) → Begins (level_form x) p → Some s ≡ first_symbol p → OperatorNext (has_operator_form x) x p
next x p s h e = next_of x p s (level_row x p h) (sym e)

pub enter_operator-requires : goal.enter_operator-requires
enter_operator-requires c =
    subst (λ (q : Parse). IsTrue (has_operator_form c.args.level) → (form : ℕ) × Begins form q) (sym c.enter.ensures.opened)
    (next c.args.level c.args.cursor.now c.in_ok-enter.field-0 c.requires c.in_ok-enter.ensures.symbol).enters

pub take-token-requires : goal.take-token-requires
take-token-requires c =
    subst (λ (q : Parse). IsWord q) (sym (c.enter_operator.ensures ∙ ap (operator_word (has_operator_form c.args.level)) c.enter.ensures.opened))
    (next c.args.level c.args.cursor.now c.in_ok-enter.field-0 c.requires c.in_ok-enter.ensures.symbol).word

pub operator_of-requires : goal.operator_of-requires
operator_of-requires c =
    let here = c.enter_operator.ensures ∙ ap (operator_word (has_operator_form c.args.level)) c.enter.ensures.opened in
    (next c.args.level c.args.cursor.now c.in_ok-enter.field-0 c.requires c.in_ok-enter.ensures.symbol).known
    c.take-token.result.now (ap token_at (sym here) ∙ c.take-token.ensures.token)

pub returns : goal.returns
returns c =
    let here = c.enter_operator.ensures ∙ ap (operator_word (has_operator_form c.args.level)) c.enter.ensures.opened in
    subst (λ (q : Parse). OperatorStands c.args.level c.operator_of.result c.take-token.result.now.span c.args.cursor.now q)
    (sym (c.take-token.ensures.rest ∙ ap after here))
    ((next c.args.level c.args.cursor.now c.in_ok-enter.field-0 c.requires c.in_ok-enter.ensures.symbol).stands
    c.take-token.result.now c.operator_of.result (ap token_at (sym here) ∙ c.take-token.ensures.token) c.operator_of.ensures)
