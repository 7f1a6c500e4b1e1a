-- The answer of `follows` speaks of the root's clauses, which are the known ones.
use Rattle.std.proofs.Common.{false, true, refl, sym, subst}
use Rattle.refutation_checker.specs.Acceptance.{FollowsByHints}
use Rattle.refutation_checker.specs.Derivation.{Derivation}
use Rattle.refutation_checker.proofs.CheckedLemmas.{follows_answer}
use Rattle.refutation_checker.proofs.checker.Checker.accept.Goals as goal

pub returns-then-not-follows-clause-refused : goal.returns-then-not-follows-clause-refused
returns-then-not-follows-clause-refused c = λ _ follows.
    let a = c.self.inside in
    let says = follows_answer a c.args.step.now a.root.clauses false c.self.invariant refl c.if-not-follows.ensures.answer in
    let there = says.1 (subst (λ (d : Derivation). FollowsByHints d c.args.step.now) (sym c.self.view_is) follows) in
    absurd (cc)

pub add_step-requires : goal.add_step-requires
add_step-requires c =
    let a = c.self.inside in
    (follows_answer a c.args.step.now a.root.clauses true c.self.invariant refl c.if-not-follows.ensures.answer).0 refl

pub returns-clause-follows : goal.returns-clause-follows
returns-clause-follows c = λ _.
    let a = c.self.inside in
    let says = follows_answer a c.args.step.now a.root.clauses true c.self.invariant refl c.if-not-follows.ensures.answer in
    subst (λ (d : Derivation). FollowsByHints d c.args.step.now) c.self.view_is (says.0 refl)
