use Rattle.std.proofs.Common.{subst}
use Rattle.std.specs.Option.{MatchOption}
use Rattle.testgen_engine.specs.Skeleton.{IsProgramOf, IsNoProgram}
use Rattle.testgen_engine.specs.Skeleton.AreRefused.{not_built}
use Rattle.testgen_engine.proofs.built.built_of.Goals as goal

pub returns-in-Ok : goal.returns-in-Ok
returns-in-Ok c =
    let tokens = c.args.tokens.now in
    let none = subst (λ r. MatchOption r (IsNoProgram tokens) (λ p. IsProgramOf tokens p)) c.in-None.is c.in_ok-program-in-Ok.ensures in
    not_built c.in-Ok.field-0 c.in-Ok.ensures.tree none c.at_start.ensures
