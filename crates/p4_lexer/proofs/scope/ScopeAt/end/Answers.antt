use Rattle.std.proofs.Common.{refl}
use Rattle.p4_lexer.proofs.ScopeLemmas.{ended}
use Rattle.p4_lexer.proofs.scope.ScopeAt.end.Goals as goal

pub returns-in-Some : goal.returns-in-Some
returns-in-Some c = λ scope st. ended c.args.self.now _ c.in-Some.condition scope c.in-Some.ensures refl refl st
