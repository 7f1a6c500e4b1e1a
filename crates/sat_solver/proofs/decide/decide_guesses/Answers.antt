-- Each guess extends what was set.
use Rattle.cnf_core.proofs.Literals.{no_lit}
use Rattle.unit_propagation.proofs.ExtendsLaws.{extends_itself, extends_then}
use Rattle.sat_solver.proofs.DecidingLemmas.{comes_conflict, comes_reached, width_extends}
use Rattle.sat_solver.proofs.decide.decide_guesses.Goals as goal

pub loop-l-init : goal.loop-l-init
loop-l-init c = record { extends = extends_itself c.args.solver.now; reached = c.requires.reached }

pub decide_if_open-requires : goal.decide_if_open-requires
decide_if_open-requires c = record {
  inputs = width_extends c.args.inputs c.args.solver.now c.loop-l.solver c.loop-l.invariant.extends c.requires.inputs;
  input = c.requires.guesses c.loop-l.l-index no_lit c.loop-l-test.true;
  reached = c.loop-l.invariant.reached;
}

pub returns-then-branch : goal.returns-then-branch
returns-then-branch c = record {
  extends = extends_then c.args.solver.now c.loop-l.solver c.decide_if_open.new.solver c.loop-l.invariant.extends c.in_ok-decide_if_open.ensures.extends;
  comes = comes_conflict c.args.inputs c.decide_if_open.new.solver c.decide_if_open.new.decided.items c.in_ok-decide_if_open.field-0 c.if-branch.true c.in_ok-decide_if_open.ensures.comes;
}

pub loop-l-preserved : goal.loop-l-preserved
loop-l-preserved c = record {
  extends = extends_then c.args.solver.now c.loop-l.solver c.decide_if_open.new.solver c.loop-l.invariant.extends c.in_ok-decide_if_open.ensures.extends;
  reached = comes_reached c.args.inputs c.decide_if_open.new.solver c.decide_if_open.new.decided.items c.in_ok-decide_if_open.field-0 c.if-branch.false c.in_ok-decide_if_open.ensures.comes;
}
