-- A new variable is open, so that the values go on agreeing with the trail.
use Rattle.std.proofs.Common.{◌≡◌, ◌+◌, List, ap, sym, ◌∙◌, subst, arith, length}
use Rattle.std.proofs.lemmas.List.{length_push}
use Rattle.unit_propagation.specs.declared.assignment.Truth.{Truth}
use Rattle.unit_propagation.specs.declared.assignment.Truth.TheVariants.{Open}
use Rattle.unit_propagation.specs.Assigned.{Agrees}
use Rattle.unit_propagation.proofs.AgreesLemmas.{agrees_grow}
use Rattle.unit_propagation.proofs.assignment.Assignment.grow.Goals as goal

pub loop-preserved : goal.loop-preserved
loop-preserved c =
    let inv = c.loop.invariant in
    let size : length c.push.new.self.items ≡ length c.loop.self-inside.values.items + 1 =
    ap length c.in_ok-push.ensures.items ∙ length_push c.loop.self-inside.values.items Open in
    record {
      width = omega (arith, size, inv.width);
      agrees = subst (λ (vs : List Truth). Agrees vs c.args.self.now.trail) (sym c.in_ok-push.ensures.items)
          (agrees_grow c.loop.self-inside.values.items c.args.self.now.trail inv.agrees);
      trail = inv.trail;
      causes = inv.causes;
      trail_room = inv.trail_room;
      causes_room = inv.causes_room;
    }
