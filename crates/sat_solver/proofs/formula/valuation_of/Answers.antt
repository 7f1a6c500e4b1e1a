-- One variable more has its truth.
use Rattle.std.proofs.Common.{Bool, List, ◌+◌, length, sym, ap, subst, arith}
use Rattle.std.proofs.lemmas.List.{length_push}
use Rattle.sat_solver.specs.Deciding.{GivesTrail}
use Rattle.sat_solver.proofs.ModelLemmas.{gives_more}
use Rattle.sat_solver.proofs.formula.valuation_of.Goals as goal

pub loop-var-preserved : goal.loop-var-preserved
loop-var-preserved c =
    let truths = c.loop-var.truths.items in
    let var = c.loop-var.var in
    let trail = c.args.solver.now.trail in
    record {
      counted = omega (arith, ap length c.in_ok-push.ensures.items, length_push truths c.is_true.result, c.loop-var.invariant.counted);
      gives = subst (λ (v : List Bool). GivesTrail v (var + 1) trail) (sym c.in_ok-push.ensures.items)
          (gives_more truths var trail c.is_true.result c.loop-var.invariant.counted c.loop-var.invariant.gives c.is_true.ensures);
    }
