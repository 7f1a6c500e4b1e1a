-- There is room for each variable, so the pushes succeed, and the values go on agreeing with the trail.
use Rattle.std.proofs.Common.{◌≡◌, ◌+◌, ◌∙◌, arith, List, ap, sym, subst, length}
use Rattle.std.proofs.Math.ListN.{set}
use Rattle.std.proofs.lemmas.List.{length-set, length_push}
use Rattle.unit_propagation.specs.declared.assignment.Truth.{Truth}
use Rattle.cnf_core.specs.declared.formula.Lit.{Lit}
use Rattle.unit_propagation.specs.Units.{IsOpen}
use Rattle.unit_propagation.specs.Assigned.{Assigned, Agrees, truth_of}
use Rattle.unit_propagation.proofs.AgreesLemmas.{room, fits, agrees_set}
use Rattle.unit_propagation.proofs.assignment.Assignment.set.Goals as goal

pub unreachable-requires : goal.unreachable-requires
unreachable-requires c =
    let trail = ap (λ (a : Assigned). a.trail) (sym c.self.view_is) in
    let width = ap (λ (a : Assigned). a.width) c.self.view_is in
    let is_open = subst (λ (t : List Lit). IsOpen t c.args.l) trail c.requires.is_open in
    let below = room c.self.inside.values.items c.self.inside.trail.items c.args.l c.self.invariant.agrees (omega arith) is_open in
    omega (arith, c.self.inside.trail.ok.0, c.in-Err.ensures.full, c.self.invariant.trail_room)

pub unreachable-requires-in-Err-push : goal.unreachable-requires-in-Err-push
unreachable-requires-in-Err-push c =
    let trail = ap (λ (a : Assigned). a.trail) (sym c.self.view_is) in
    let width = ap (λ (a : Assigned). a.width) c.self.view_is in
    let is_open = subst (λ (t : List Lit). IsOpen t c.args.l) trail c.requires.is_open in
    let below = room c.self.inside.values.items c.self.inside.trail.items c.args.l c.self.invariant.agrees (omega arith) is_open in
    omega (arith, c.self.inside.causes.ok.0, c.in-Err-push.ensures.full, c.self.invariant.causes_room, c.self.invariant.same_length)

agrees : (c : goal.In_default-push) → Agrees (set c.self.inside.values.items c.args.l.var c.from.result) c.push.new.self.items
agrees c =
    let trail = ap (λ (a : Assigned). a.trail) (sym c.self.view_is) in
    let width = ap (λ (a : Assigned). a.width) c.self.view_is in
    let is_open = subst (λ (t : List Lit). IsOpen t c.args.l) trail c.requires.is_open in
    let after = agrees_set c.self.inside.values.items c.self.inside.trail.items c.args.l c.self.invariant.agrees (omega arith) is_open in
    let assignment = set c.self.inside.values.items c.args.l.var (truth_of c.args.l.positive) in
    let pushed : Agrees assignment c.push.new.self.items = subst (Agrees assignment) (sym c.in_default.ensures.items) after in
    subst (λ (t : Truth). Agrees (set c.self.inside.values.items c.args.l.var t) c.push.new.self.items) (sym c.from.ensures) pushed

pub invariant_of-self : goal.invariant_of-self
invariant_of-self c =
    let size = length-set c.self.inside.values.items c.args.l.var c.from.result in
    let trail_size : length c.push.new.self.items ≡ length c.self.inside.trail.items + 1 = ap length c.in_default.ensures.items ∙ length_push c.self.inside.trail.items c.args.l in
    let causes_size : length c.push-2.new.self.items ≡ length c.self.inside.causes.items + 1 =
    ap length c.in_default-push.ensures.items ∙ length_push c.self.inside.causes.items c.args.cause in
    record {
      agrees = agrees c;
      same_length = omega (arith, trail_size, causes_size, c.self.invariant.same_length);
      trail_room = omega (arith, size, c.in_default.ensures.capacity, c.self.invariant.trail_room);
      causes_room = omega (arith, size, c.in_default-push.ensures.capacity, c.self.invariant.causes_room);
    }

pub returns-clause-fits : goal.returns-clause-fits
returns-clause-fits c = fits (set c.self.inside.values.items c.args.l.var c.from.result) c.push.new.self.items (agrees c)
