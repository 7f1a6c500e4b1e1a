-- A literal is open exactly where its variable is not on the trail.
use Rattle.std.proofs.Common.{refl}
use Rattle.unit_propagation.proofs.ApartLaws.{apart_open}
use Rattle.refutation_checker.proofs.hints.decide_one.Goals as goal

pub returns-in-Open-clause-answer : goal.returns-in-Open-clause-answer
returns-in-Open-clause-answer c =
    ((λ _. apart_open c.args.assignment.now.trail c.args.l c.requires.apart c.in-Open.ensures), (λ _. refl))
