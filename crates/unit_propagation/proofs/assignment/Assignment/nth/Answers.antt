-- A literal of the trail has its variable in the assignment.
use Rattle.std.proofs.Common.{◌<◌, length, arith, ap, subst, take}
use Rattle.std.specs.Prelude.{Contains}
use Rattle.cnf_core.specs.declared.formula.Lit.{Lit}
use Rattle.unit_propagation.specs.Assigned.{Assigned}
use Rattle.unit_propagation.proofs.AgreesLemmas.{within}
use Rattle.unit_propagation.proofs.ApartLaws.{apart_before}
use Rattle.unit_propagation.proofs.assignment.Assignment.nth.Goals as goal

pub returns-clause-within : goal.returns-clause-within
returns-clause-within c =
    let width = ap (λ (a : Assigned). a.width) c.self.view_is in
    let size = ap (λ (a : Assigned). length a.trail) c.self.view_is in
    let inside : c.args.place < length c.self.inside.trail.items = omega arith in
    let below = within c.self.inside.values.items c.self.inside.trail.items c.self.invariant.agrees c.args.place c.index.result.now inside in
    let read = ap (λ (l : Lit). l.var) c.index.ensures in
    omega arith

pub returns-clause-fresh : goal.returns-clause-fresh
returns-clause-fresh c =
    let size = ap (λ (a : Assigned). length a.trail) c.self.view_is in
    subst (λ (a : Assigned). Contains (take c.args.place a.trail) c.index.result.now → ⊥) c.self.view_is
    (apart_before c.self.inside.trail.items c.args.place c.index.result.now c.self.invariant.agrees.apart (omega arith) c.index.ensures)
