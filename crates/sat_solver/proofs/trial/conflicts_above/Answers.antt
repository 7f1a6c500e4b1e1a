-- The decided literals stand for all, so they conflict where all do.
use Rattle.std.proofs.Common.{◌++◌, List, refl, sym, subst}
use Rattle.cnf_core.specs.declared.formula.Lit.{Lit}
use Rattle.cnf_core.specs.Propagation.{Conflicts}
use Rattle.unit_propagation.specs.Propagation.{decisions}
use Rattle.unit_propagation.proofs.ExtendsLaws.{extends_then, extends_continues}
use Rattle.sat_solver.proofs.TrialLemmas.{stands_conflicts, conflicts_stands}
use Rattle.sat_solver.proofs.trial.conflicts_above.Goals as goal

pub returns-then-not-decide_each : goal.returns-then-not-decide_each
returns-then-not-decide_each c = record { extends = c.if-not-decide_each.ensures.extends; answer = ((λ _. c.if-not-decide_each.ensures.conflict), (λ _. refl)) }

pub returns-in-Some : goal.returns-in-Some
returns-in-Some c =
    let old = c.args.solver.now in
    let tried = c.decide_each.new.solver in
    let extends = c.if-not-decide_each.ensures.extends in
    let conflicts = subst (λ (cs : List (List Lit)). Conflicts cs (decisions tried)) extends.clauses c.in-Some.ensures.conflicts in
    record {
      extends = extends_then old tried c.propagate.new.self extends (extends_continues tried c.propagate.new.self c.in-Some.ensures.continues);
      answer = ((λ _. stands_conflicts old.clauses (decisions tried) (decisions old ++ c.args.lits.now) c.if-not-decide_each.ensures.decided conflicts), (λ _. refl));
    }

pub returns-in-None : goal.returns-in-None
returns-in-None c =
    let old = c.args.solver.now in
    let tried = c.decide_each.new.solver in
    let extends = c.if-not-decide_each.ensures.extends in
    record {
      extends = extends_then old tried c.propagate.new.self extends (extends_continues tried c.propagate.new.self c.in-None.ensures.continues);
      answer = (
        (λ yes. absurd (cc)),
        (λ conflicts. absurd (c.in-None.ensures.none (subst (λ (cs : List (List Lit)). Conflicts cs (decisions tried)) (sym extends.clauses)
            (conflicts_stands old.clauses (decisions tried) (decisions old ++ c.args.lits.now) c.if-not-decide_each.ensures.decided conflicts)))),
      );
    }
