-- Each input extends what was set, and is set itself.
use Rattle.std.proofs.Common.{arith}
use Rattle.unit_propagation.proofs.ExtendsLaws.{extends_itself, extends_then}
use Rattle.sat_solver.proofs.DecidingLemmas.{comes_conflict, comes_reached, width_extends, set_to_none, set_to_more, set_to_all}
use Rattle.sat_solver.proofs.decide.decide_rest.Goals as goal

pub loop-place-init : goal.loop-place-init
loop-place-init c = record { extends = extends_itself c.args.solver.now; reached = c.requires.reached; all_set = set_to_none c.args.solver.now.trail }

pub decide_if_open-requires : goal.decide_if_open-requires
decide_if_open-requires c = record {
  inputs = width_extends c.args.inputs c.args.solver.now c.loop-place.solver c.loop-place.invariant.extends c.requires.inputs;
  input = (omega arith, omega arith);
  reached = c.loop-place.invariant.reached;
}

pub returns-then-branch : goal.returns-then-branch
returns-then-branch c = record {
  extends = extends_then c.args.solver.now c.loop-place.solver c.decide_if_open.new.solver c.loop-place.invariant.extends c.in_ok-decide_if_open.ensures.extends;
  comes = comes_conflict c.args.inputs c.decide_if_open.new.solver c.decide_if_open.new.decided.items c.in_ok-decide_if_open.field-0 c.if-branch.true c.in_ok-decide_if_open.ensures.comes;
  all_set = λ e. absurd (cc);
}

pub loop-place-preserved : goal.loop-place-preserved
loop-place-preserved c = record {
  extends = extends_then c.args.solver.now c.loop-place.solver c.decide_if_open.new.solver c.loop-place.invariant.extends c.in_ok-decide_if_open.ensures.extends;
  reached = comes_reached c.args.inputs c.decide_if_open.new.solver c.decide_if_open.new.decided.items c.in_ok-decide_if_open.field-0 c.if-branch.false c.in_ok-decide_if_open.ensures.comes;
  all_set = set_to_more c.loop-place.solver c.decide_if_open.new.solver c.loop-place.place c.in_ok-decide_if_open.ensures.extends c.loop-place.invariant.all_set
      (c.in_ok-decide_if_open.ensures.is_set c.if-branch.false);
}

pub returns : goal.returns
returns c = record {
  extends = c.loop-place.invariant.extends;
  comes = c.loop-place.invariant.reached;
  all_set = λ _. set_to_all c.args.inputs c.loop-place.place c.loop-place.solver.trail (omega (arith, c.loop-place-test.false)) c.loop-place.invariant.all_set;
}
