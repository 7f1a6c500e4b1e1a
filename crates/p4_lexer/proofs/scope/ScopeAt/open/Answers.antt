use Rattle.std.proofs.Common.{refl}
use Rattle.p4_lexer.proofs.ScopeLemmas.{opened}
use Rattle.p4_lexer.proofs.scope.ScopeAt.open.Goals as goal

pub returns : goal.returns
returns c = λ scope st. opened c.args.self.now _ c.args.place c.args.chosen scope c.in_ok-push.ensures.ok c.is_taken_within-self.ensures refl st
