-- The decided literals stand for one more, or the literals conflict.
use Rattle.std.proofs.Common.{List, [], ◌∷◌, ◌++◌, get_or, subst}
use Rattle.std.proofs.lemmas.List.{get_or_default}
use Rattle.cnf_core.specs.declared.formula.Lit.{Lit}
use Rattle.cnf_core.proofs.Literals.{no_lit}
use Rattle.unit_propagation.specs.Propagation.{decisions, IsRefuted}
use Rattle.sat_solver.specs.Reducing.{StandsFor}
use Rattle.unit_propagation.proofs.ExtendsLaws.{extends_itself, extends_then}
use Rattle.sat_solver.proofs.TrialLemmas.{stands_none, stands_more, stands_refuted, stands_whole}
use Rattle.sat_solver.proofs.trial.decide_each.Goals as goal

pub loop-l-init : goal.loop-l-init
loop-l-init c = record {
  extends = extends_itself c.args.solver.now;
  stands = stands_none c.args.solver.now.clauses (decisions c.args.solver.now) c.args.lits.now;
}

pub returns-then-not-decide_unless_set : goal.returns-then-not-decide_unless_set
returns-then-not-decide_unless_set c =
    let old = c.args.solver.now in
    let now = c.loop-l.solver in
    let i = c.loop-l.l-index in
    let l = get_or c.args.lits.now i no_lit in
    let refuted = subst (λ (cs : List (List Lit)). IsRefuted cs (decisions now) l) c.loop-l.invariant.extends.clauses c.if-not-decide_unless_set.ensures.refuted in
    record {
      extends = extends_then old now c.decide_unless_set.new.solver c.loop-l.invariant.extends c.if-not-decide_unless_set.ensures.extends;
      decided = tt;
      conflict = stands_refuted old.clauses (decisions old) (decisions now) c.args.lits.now i l c.loop-l-test.true (get_or_default c.args.lits.now i l no_lit c.loop-l-test.true) c.requires.consistent c.loop-l.invariant.stands refuted;
    }

pub loop-l-preserved : goal.loop-l-preserved
loop-l-preserved c =
    let old = c.args.solver.now in
    let now = c.loop-l.solver in
    let new = c.decide_unless_set.new.solver in
    let i = c.loop-l.l-index in
    let l = get_or c.args.lits.now i no_lit in
    let then = subst (λ (cs : List (List Lit)). StandsFor cs (decisions new) (decisions now ++ l ∷ [])) c.loop-l.invariant.extends.clauses c.if-not-decide_unless_set.ensures.decided in
    record {
      extends = extends_then old now new c.loop-l.invariant.extends c.if-not-decide_unless_set.ensures.extends;
      stands = stands_more old.clauses (decisions old) (decisions now) (decisions new) c.args.lits.now i l c.loop-l-test.true (get_or_default c.args.lits.now i l no_lit c.loop-l-test.true) c.loop-l.invariant.stands then;
    }

pub returns : goal.returns
returns c = record {
  extends = c.loop-l.invariant.extends;
  decided = stands_whole c.args.solver.now.clauses (decisions c.args.solver.now) (decisions c.loop-l.solver) c.args.lits.now c.loop-l.l-index c.loop-l-test.false c.loop-l.invariant.stands;
  conflict = tt;
}
