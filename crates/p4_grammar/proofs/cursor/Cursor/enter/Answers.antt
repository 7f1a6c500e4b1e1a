-- The next row is that of the first tree, and the trees behind it are the opened ones.
use Rattle.std.proofs.Common.{ℕ, List, ap, ◌∙◌, sym, subst, arith}
use Rattle.std.specs.Prelude.{slice_get}
use Rattle.p4_grammar.specs.Parses.{Parse}
use Rattle.p4_grammar.specs.Ahead.{Begins, opened}
use Rattle.p4_grammar.proofs.AheadLemmas.{entered, row_within, symbol_read, get_first}
use Rattle.p4_grammar.proofs.cursor.Cursor.enter.Goals as goal

pub bounds-self-inside-row : goal.bounds-self-inside-row
bounds-self-inside-row c =
    row_within c.self.inside.grammar.now c.self.inside.rows.now c.self.inside.tokens.now c.self.inside.next_row c.self.inside.next_token c.requires.0 c.args.self.now c.self.invariant c.self.view_is c.requires.1

pub offset_bounds-self-inside-row : goal.offset_bounds-self-inside-row
offset_bounds-self-inside-row c =
    omega (arith, row_within c.self.inside.grammar.now c.self.inside.rows.now c.self.inside.tokens.now c.self.inside.next_row c.self.inside.next_token c.requires.0 c.args.self.now c.self.invariant c.self.view_is c.requires.1)

pub invariant_of-self : goal.invariant_of-self
invariant_of-self c =
    (entered c.self.inside.grammar.now c.self.inside.rows.now c.self.inside.tokens.now c.self.inside.next_row c.self.inside.next_token c.requires.0 c.self.invariant
    (subst (λ (p : Parse). Begins c.requires.0 p) (sym c.self.view_is) c.requires.1)).0

pub returns-clause-opened : goal.returns-clause-opened
returns-clause-opened c =
    (entered c.self.inside.grammar.now c.self.inside.rows.now c.self.inside.tokens.now c.self.inside.next_row c.self.inside.next_token c.requires.0 c.self.invariant
    (subst (λ (p : Parse). Begins c.requires.0 p) (sym c.self.view_is) c.requires.1)).1 ∙ ap opened c.self.view_is

pub returns-clause-symbol : goal.returns-clause-symbol
returns-clause-symbol c =
    c.copied.ensures ∙ c.first.ensures.value ∙ ap (λ (xs : List ℕ). slice_get xs 0) c.as_slice.ensures ∙ get_first _
    ∙ symbol_read c.self.inside.grammar.now c.self.inside.rows.now c.self.inside.tokens.now c.self.inside.next_row c.self.inside.next_token c.requires.0 c.args.self.now
    c.index-self-row.result c.self.invariant c.self.view_is c.requires.1
