use Rattle.std.proofs.Common.{refl}
use Rattle.p4_lexer.proofs.ScopeLemmas.{turned}
use Rattle.p4_lexer.proofs.scope.ScopeAt.turn.Goals as goal

pub returns : goal.returns
returns c = λ scope st.
    turned c.args.self.now _ c.pop.new.self c.in-Some.condition c.turned_over-turned.result scope c.in-Some.ensures c.in_ok-push.ensures.ok c.turned_over-turned.ensures.condition c.turned_over-turned.ensures.outside c.is_taken_within-self.ensures refl st
