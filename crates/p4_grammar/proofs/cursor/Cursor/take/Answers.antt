-- The next token is the first tree, and the trees behind it are left.
use Rattle.std.proofs.Common.{ap, ◌∙◌, sym, subst}
use Rattle.p4_grammar.specs.Parses.{Parse}
use Rattle.p4_grammar.specs.Ahead.{IsWord, after}
use Rattle.p4_grammar.proofs.AheadLemmas.{taken}
use Rattle.p4_grammar.proofs.cursor.Cursor.take.Goals as goal

pub invariant_of-self : goal.invariant_of-self
invariant_of-self c =
    (taken c.self.inside.grammar.now c.self.inside.rows.now c.self.inside.tokens.now c.self.inside.next_row c.self.inside.next_token c.self.invariant
    (subst (λ (p : Parse). IsWord p) (sym c.self.view_is) c.requires)).0

pub returns-clause-rest : goal.returns-clause-rest
returns-clause-rest c =
    (taken c.self.inside.grammar.now c.self.inside.rows.now c.self.inside.tokens.now c.self.inside.next_row c.self.inside.next_token c.self.invariant
    (subst (λ (p : Parse). IsWord p) (sym c.self.view_is) c.requires)).1 ∙ ap after c.self.view_is
