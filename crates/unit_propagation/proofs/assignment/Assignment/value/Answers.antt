-- A variable that is set makes the literal of its sign true and the other false.
use Rattle.std.proofs.Common.{◌≡◌, List, ap, sym, ◌∙◌, subst, not, arith, get_or}
use Rattle.std.proofs.lemmas.List.{get_or_read}
use Rattle.cnf_core.specs.declared.formula.Lit.{Lit}
use Rattle.unit_propagation.specs.Assigned.{Assigned, StandsAs, truth_of}
use Rattle.unit_propagation.specs.declared.assignment.Truth.TheVariants.{Open, True, False}
use Rattle.unit_propagation.proofs.AgreesLemmas.{stands_true, stands_false}
use Rattle.unit_propagation.proofs.assignment.Assignment.value.Goals as goal

pub returns-in-True-false : goal.returns-in-True-false
returns-in-True-false c =
    let width = ap (λ (a : Assigned). a.width) c.self.view_is in
    let read = get_or_read c.self.inside.values.items c.args.l.var c.index.result.now (omega arith) c.index.ensures Open in
    let other : get_or c.self.inside.values.items c.args.l.var Open ≡ truth_of (not c.args.l.positive) =
    sym read ∙ c.in-True-false.is-0 ∙ ap (λ b. truth_of (not b)) (sym c.in-True-false.is-1) in
    subst (λ (trail : List Lit). StandsAs trail c.args.l False) (ap (λ (a : Assigned). a.trail) c.self.view_is)
    (stands_false c.self.inside.values.items c.self.inside.trail.items c.args.l c.self.invariant.agrees other)

pub returns-in-True-false-2 : goal.returns-in-True-false-2
returns-in-True-false-2 c =
    let width = ap (λ (a : Assigned). a.width) c.self.view_is in
    let read = get_or_read c.self.inside.values.items c.args.l.var c.index.result.now (omega arith) c.index.ensures Open in
    let other : get_or c.self.inside.values.items c.args.l.var Open ≡ truth_of (not c.args.l.positive) =
    sym read ∙ c.in-True-false.is-0 ∙ ap (λ b. truth_of (not b)) (sym c.in-True-false.is-1) in
    subst (λ (trail : List Lit). StandsAs trail c.args.l False) (ap (λ (a : Assigned). a.trail) c.self.view_is)
    (stands_false c.self.inside.values.items c.self.inside.trail.items c.args.l c.self.invariant.agrees other)

pub returns-in-True-true : goal.returns-in-True-true
returns-in-True-true c =
    let width = ap (λ (a : Assigned). a.width) c.self.view_is in
    let read = get_or_read c.self.inside.values.items c.args.l.var c.index.result.now (omega arith) c.index.ensures Open in
    let here : get_or c.self.inside.values.items c.args.l.var Open ≡ truth_of c.args.l.positive =
    sym read ∙ c.in-True-true.is-0 ∙ ap truth_of (sym c.in-True-true.is-1) in
    subst (λ (trail : List Lit). StandsAs trail c.args.l True) (ap (λ (a : Assigned). a.trail) c.self.view_is)
    (stands_true c.self.inside.values.items c.self.inside.trail.items c.args.l c.self.invariant.agrees here)

pub returns-in-True-true-2 : goal.returns-in-True-true-2
returns-in-True-true-2 c =
    let width = ap (λ (a : Assigned). a.width) c.self.view_is in
    let read = get_or_read c.self.inside.values.items c.args.l.var c.index.result.now (omega arith) c.index.ensures Open in
    let here : get_or c.self.inside.values.items c.args.l.var Open ≡ truth_of c.args.l.positive =
    sym read ∙ c.in-True-true.is-0 ∙ ap truth_of (sym c.in-True-true.is-1) in
    subst (λ (trail : List Lit). StandsAs trail c.args.l True) (ap (λ (a : Assigned). a.trail) c.self.view_is)
    (stands_true c.self.inside.values.items c.self.inside.trail.items c.args.l c.self.invariant.agrees here)
