-- The last literal leaves the trail and its variable is opened, until as many are left as wanted.
use Rattle.std.proofs.Common.{◌≡◌, ◌∷◌, [], ◌++◌, ◌<◌, List, ap, sym, ◌∙◌, subst, arith, length, take, min, length-append, ◌+◌}
use Rattle.std.proofs.lemmas.List.{length-take, length-set, take_all, take-append-le}
use Rattle.std.proofs.lemmas.List.Elements.{All-contains, Contains-push}
use Rattle.unit_propagation.specs.declared.assignment.Truth.TheVariants.{Open}
use Rattle.unit_propagation.specs.declared.assignment.Cause.{Cause}
use Rattle.unit_propagation.specs.Assigned.{Assigned, Agrees}
use Rattle.unit_propagation.proofs.AgreesLemmas.{agrees_pop, within}
use Rattle.unit_propagation.proofs.assignment.Assignment.undo_to.Goals as goal

pub index_mut-requires : goal.index_mut-requires
index_mut-requires c =
    let values = c.loop-self.self-inside.values.items in
    let agrees : Agrees values (c.pop.new.self.items ++ c.in-Some.l ∷ []) = subst (Agrees values) c.in-Some.ensures.items c.loop-self.invariant.agrees in
    let below : c.in-Some.l.var < length values =
    All-contains (λ k. k.var < length values) (c.pop.new.self.items ++ c.in-Some.l ∷ []) c.in-Some.l (within values (c.pop.new.self.items ++ c.in-Some.l ∷ []) agrees) (Contains-push c.pop.new.self.items c.in-Some.l) in
    omega arith

pub loop-self-preserved-in-Some : goal.loop-self-preserved-in-Some
loop-self-preserved-in-Some c =
    let values = c.loop-self.self-inside.values.items in
    let l = c.in-Some.l in
    let rest = c.pop.new.self.items in
    let inv = c.loop-self.invariant in
    let items : c.loop-self.self-inside.trail.items ≡ rest ++ l ∷ [] = c.in-Some.ensures.items in
    let size : length c.loop-self.self-inside.trail.items ≡ length rest + 1 = ap length items ∙ length-append rest (l ∷ []) in
    record {
      agrees = agrees_pop values rest l (subst (Agrees values) items inv.agrees);
      trail = sym (take-append-le c.args.place rest (l ∷ []) (omega arith)) ∙ ap (take c.args.place) (sym items) ∙ inv.trail;
      enough = omega (arith, inv.enough);
      fewer = omega (arith, inv.fewer, size);
      causes = inv.causes;
      causes_room = inv.causes_room;
      width = length-set values l.var Open ∙ inv.width;
      room = omega (arith, length-set values l.var Open, inv.room, c.in-Some.ensures.capacity);
    }

pub invariant_of-self : goal.invariant_of-self
invariant_of-self c =
    let inv = c.loop-self.invariant in
    let size = length-take c.args.place c.self.inside.causes.items in
    let same : length c.truncate.new.self.items ≡ min c.args.place (length c.self.inside.causes.items) = ap length c.truncate.ensures.items ∙ ap (λ (cs : List Cause). length (take c.args.place cs)) inv.causes ∙ size in
    record {
      agrees = inv.agrees;
      same_length = omega (arith, same, c.self.invariant.same_length, inv.enough, inv.fewer, c.loop-self-test.false, c.len.ensures);
      trail_room = inv.room;
      causes_room = omega (arith, inv.width, c.self.invariant.causes_room, inv.causes_room, c.truncate.ensures.capacity);
    }

pub returns-clause-trail : goal.returns-clause-trail
returns-clause-trail c =
    sym (take_all c.args.place c.loop-self.self-inside.trail.items (omega (arith, c.loop-self-test.false, c.len.ensures)))
    ∙ c.loop-self.invariant.trail ∙ ap (λ (a : Assigned). take c.args.place a.trail) c.self.view_is

pub returns-clause-causes : goal.returns-clause-causes
returns-clause-causes c = c.truncate.ensures.items ∙ ap (take c.args.place) c.loop-self.invariant.causes ∙ ap (λ (a : Assigned). take c.args.place a.causes) c.self.view_is
