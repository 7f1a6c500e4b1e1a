-- The head moves past a literal whose clauses were all looked at.
use Rattle.std.proofs.Common.{◌+◌, List, length, take, refl, ap, sym, ◌∙◌, subst, arith, length-append}
use Rattle.cnf_core.specs.declared.formula.Lit.{Lit}
use Rattle.unit_propagation.specs.Trail.{Implies}
use Rattle.unit_propagation.specs.Ready.{AllReady, KeepsReady}
use Rattle.unit_propagation.specs.Propagated.{IsFalseClause}
use Rattle.unit_propagation.proofs.TrailLemmas.{implies_none, implies_then}
use Rattle.unit_propagation.proofs.ReadyLemmas.{keeps_none, keeps_then}
use Rattle.unit_propagation.proofs.propagation.run.Goals as goal

pub loop-head-init : goal.loop-head-init
loop-head-init c = record {
  width = refl;
  assignment_width = refl;
  clauses = refl;
  implies = implies_none c.args.watched.now.clauses c.args.assignment.now.trail c.args.assignment.now.causes;
  keeps = keeps_none c.args.watched.now.clauses c.args.watched.now.pairs c.args.assignment.now.trail;
  ready = c.requires.ready;
  head = c.requires.head;
  indexed = c.requires.indexed;
}

pub visit-requires-clause-ready : goal.visit-requires-clause-ready
visit-requires-clause-ready c =
    subst (λ (cs : List (List Lit)). AllReady cs c.loop-head.watched.pairs c.loop-head.assignment.trail (take c.loop-head.head c.loop-head.assignment.trail)) (sym c.loop-head.invariant.clauses) c.loop-head.invariant.ready

pub returns-in-Some-clause-implies : goal.returns-in-Some-clause-implies
returns-in-Some-clause-implies c =
    let inv = c.loop-head.invariant in
    let a = c.args.assignment.now in
    let b = c.loop-head.assignment in
    let e = c.visit.new.assignment in
    implies_then c.args.watched.now.clauses a.trail b.trail e.trail a.causes b.causes e.causes inv.implies
    (subst (λ (cs : List (List Lit)). Implies cs b.trail b.causes e.trail e.causes) inv.clauses c.in-Some.ensures.implies)

pub returns-in-Some-clause-keeps : goal.returns-in-Some-clause-keeps
returns-in-Some-clause-keeps c =
    let inv = c.loop-head.invariant in
    let there : KeepsReady c.args.watched.now.clauses c.loop-head.watched.pairs c.visit.new.watched.pairs c.loop-head.assignment.trail =
    subst (λ (cs : List (List Lit)). KeepsReady cs c.loop-head.watched.pairs c.visit.new.watched.pairs c.loop-head.assignment.trail) inv.clauses c.in-Some.ensures.keeps in
    keeps_then c.args.watched.now.clauses c.args.watched.now.pairs c.loop-head.watched.pairs c.visit.new.watched.pairs c.args.assignment.now.trail inv.implies.more inv.keeps
    (subst (KeepsReady c.args.watched.now.clauses c.loop-head.watched.pairs c.visit.new.watched.pairs) inv.implies.trail there)

pub returns-in-Some-clause-ready : goal.returns-in-Some-clause-ready
returns-in-Some-clause-ready c =
    subst (λ (cs : List (List Lit)). AllReady cs c.visit.new.watched.pairs c.visit.new.assignment.trail (take c.loop-head.head c.visit.new.assignment.trail)) c.loop-head.invariant.clauses c.in-Some.ensures.ready

pub returns-in-Some-clause-falsified : goal.returns-in-Some-clause-falsified
returns-in-Some-clause-falsified c =
    subst (λ (cs : List (List Lit)). IsFalseClause cs c.visit.new.assignment.trail c.in-Some.clause) c.loop-head.invariant.clauses c.in-Some.ensures.falsified

pub loop-head-preserved : goal.loop-head-preserved
loop-head-preserved c =
    let inv = c.loop-head.invariant in
    let a = c.args.assignment.now in
    let b = c.loop-head.assignment in
    let e = c.visit.new.assignment in
    let start = c.args.watched.now.clauses in
    let after = c.in_default.ensures in
    let step = subst (λ (cs : List (List Lit)). Implies cs b.trail b.causes e.trail e.causes) inv.clauses after.implies in
    let there : KeepsReady start c.loop-head.watched.pairs c.visit.new.watched.pairs b.trail =
    subst (λ (cs : List (List Lit)). KeepsReady cs c.loop-head.watched.pairs c.visit.new.watched.pairs b.trail) inv.clauses after.keeps in
    let size = ap length step.trail ∙ length-append b.trail step.more in
    record {
      width = after.width ∙ inv.width;
      assignment_width = after.assignment_width ∙ inv.assignment_width;
      clauses = after.clauses ∙ inv.clauses;
      implies = implies_then start a.trail b.trail e.trail a.causes b.causes e.causes inv.implies step;
      keeps = keeps_then start c.args.watched.now.pairs c.loop-head.watched.pairs c.visit.new.watched.pairs a.trail inv.implies.more inv.keeps
          (subst (KeepsReady start c.loop-head.watched.pairs c.visit.new.watched.pairs) inv.implies.trail there);
      ready = subst (λ (cs : List (List Lit)). AllReady cs c.visit.new.watched.pairs e.trail (take (c.loop-head.head + 1) e.trail)) inv.clauses after.next;
      head = omega (arith, size, c.loop-head-test.true, c.count.ensures.count);
      indexed = after.indexed;
    }
