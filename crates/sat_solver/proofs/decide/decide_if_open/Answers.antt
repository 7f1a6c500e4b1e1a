-- The literal was set before, or it is decided and propagation tells the rest.
use Rattle.std.proofs.Common.{sym, subst}
use Rattle.sat_solver.specs.Deciding.{EndsInConflict, IsReached}
use Rattle.unit_propagation.proofs.ExtendsLaws.{extends_itself, extends_both, extends_continues}
use Rattle.sat_solver.proofs.DecidingLemmas.{reached_conflict, reached_next, one_way_stands, one_way_decided}
use Rattle.sat_solver.proofs.decide.decide_if_open.Goals as goal

pub returns-in-True : goal.returns-in-True
returns-in-True c = record {
  extends = extends_itself c.args.solver.now;
  comes = c.requires.reached;
  is_set = λ _. one_way_stands c.args.solver.now.trail c.args.l c.value.result c.value.ensures.stands c.in-True.is;
}

pub returns-in-Some-clause-extends : goal.returns-in-Some-clause-extends
returns-in-Some-clause-extends c = extends_both c.args.solver.now c.decide.new.self c.propagate.new.self c.args.l c.decide.ensures.decided c.in-Some.ensures.continues

pub returns-in-Some-clause-comes : goal.returns-in-Some-clause-comes
returns-in-Some-clause-comes c =
    subst (EndsInConflict c.args.inputs c.propagate.new.self.clauses) (sym c.in_ok-push.ensures.items)
    (reached_conflict c.args.inputs c.args.solver.now c.decide.new.self c.propagate.new.self c.args.decided.now.items c.args.l c.requires.reached c.requires.input c.in-Open.ensures.stands
    c.decide.ensures.decided c.decide.ensures.decisions c.in-Some.ensures.continues c.in-Some.ensures.conflicts)

pub returns-in-None-clause-extends : goal.returns-in-None-clause-extends
returns-in-None-clause-extends c = extends_both c.args.solver.now c.decide.new.self c.propagate.new.self c.args.l c.decide.ensures.decided c.in-None.ensures.continues

pub returns-in-None-clause-comes : goal.returns-in-None-clause-comes
returns-in-None-clause-comes c =
    subst (IsReached c.args.inputs c.propagate.new.self) (sym c.in_ok-push.ensures.items)
    (reached_next c.args.inputs c.args.solver.now c.decide.new.self c.propagate.new.self c.args.decided.now.items c.args.l c.requires.reached c.requires.input c.in-Open.ensures.stands
    c.decide.ensures.decided c.decide.ensures.decisions c.in-None.ensures.continues c.in-None.ensures.all_set c.in-None.ensures.none)

pub returns-in-None-clause-is_set : goal.returns-in-None-clause-is_set
returns-in-None-clause-is_set c = λ _.
    one_way_decided c.args.solver.now c.decide.new.self c.propagate.new.self c.args.l c.decide.ensures.decided (extends_continues c.decide.new.self c.propagate.new.self c.in-None.ensures.continues)
