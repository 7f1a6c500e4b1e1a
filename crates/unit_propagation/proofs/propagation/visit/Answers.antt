-- The clauses of the falsified literal's list are passed one after the other.
use Rattle.std.proofs.Common.{◌≡◌, ◌<◌, ◌+◌, ℕ, List, length, get_or, take, refl, ap, sym, subst, arith}
use Rattle.std.specs.Prelude.{All, Contains}
use Rattle.std.proofs.lemmas.List.Elements.{Contains-append_left}
use Rattle.std.proofs.lemmas.Option.{get_or_from_slice_get}
use Rattle.cnf_core.specs.declared.formula.Lit.{Lit}
use Rattle.cnf_core.proofs.Literals.{negation_negation}
use Rattle.unit_propagation.specs.Units.{IsFalse}
use Rattle.unit_propagation.specs.Assigned.{Assigned}
use Rattle.unit_propagation.specs.Watching.{Watched, list_at}
use Rattle.unit_propagation.specs.Ready.{AllReady, IsSeen, clause_at}
use Rattle.unit_propagation.specs.declared.propagation.Seen.TheVariants.{Kept, Moved}
use Rattle.unit_propagation.proofs.TrailLemmas.{implies_none}
use Rattle.unit_propagation.proofs.ReadyLemmas.{Visiting, visiting_start, visiting_none, visiting_end, visiting_stop, keeps_none}
use Rattle.unit_propagation.proofs.VisitLemmas.{Visited, visited_kept, visited_moved, head_inside}
use Rattle.unit_propagation.proofs.propagation.visit.Goals as goal

pub returns-then-width-falsified-clause-implies : goal.returns-then-width-falsified-clause-implies
returns-then-width-falsified-clause-implies c = implies_none c.args.watched.now.clauses c.args.assignment.now.trail c.args.assignment.now.causes

pub returns-then-width-falsified-clause-next : goal.returns-then-width-falsified-clause-next
returns-then-width-falsified-clause-next c =
    let var = ap (λ (l : Lit). l.var) c.not-falsified.ensures in
    visiting_none c.args.watched.now c.args.assignment.now.trail c.args.head c.nth.result c.width.ensures.indexed c.requires.head
    (get_or_from_slice_get c.args.assignment.now.trail c.args.head c.nth.result c.nth.result c.nth.ensures.is)
    (omega (arith, c.if-width-falsified.true, c.width.ensures.is)) c.requires.ready

pub loop-place-init : goal.loop-place-init
loop-place-init c =
    let w = c.args.watched.now in
    let trail = c.args.assignment.now.trail in
    record {
      width = refl;
      assignment_width = refl;
      clauses = refl;
      implies = implies_none w.clauses trail c.args.assignment.now.causes;
      keeps = keeps_none w.clauses w.pairs trail;
      visiting = subst (λ (d : Lit). Visiting w.clauses w.pairs w.lists trail c.args.head d 0) (sym c.not-falsified.ensures)
          (visiting_start w trail c.args.head c.nth.result c.width.ensures.indexed c.requires.head
          (get_or_from_slice_get trail c.args.head c.nth.result c.nth.result c.nth.ensures.is) c.requires.ready);
    }

pub step-requires-clause-falsified : goal.step-requires-clause-falsified
step-requires-clause-falsified c =
    let trail = c.args.assignment.now.trail in
    let l = c.nth.result in
    let at = get_or_from_slice_get trail c.args.head l l c.nth.ensures.is in
    let stands : Contains trail l = (c.args.head, c.requires.head, at) in
    let v = c.loop-place.invariant in
    subst (λ (d : Lit). IsFalse c.loop-place.assignment.trail d) (sym c.not-falsified.ensures)
    (subst (Contains c.loop-place.assignment.trail) (sym (negation_negation l))
    (subst (λ (t : List Lit). Contains t l) (sym v.implies.trail) (Contains-append_left trail v.implies.more l stands)))

pub loop-place-preserved-in-Kept : goal.loop-place-preserved-in-Kept
loop-place-preserved-in-Kept c =
    let l = c.nth.result in
    let same = c.not-falsified.ensures in
    let at = get_or_from_slice_get c.args.assignment.now.trail c.args.head l l c.nth.ensures.is in
    let here : c.loop-place.place < length (list_at c.loop-place.watched.lists c.not-falsified.result) = omega (arith, c.loop-place-test.true, c.count.ensures.is) in
    subst (λ (d : Lit). Visited c.args.watched.now c.args.assignment.now c.args.head d c.step.new.watched c.step.new.assignment (c.loop-place.place + 1)) (sym same)
    (visited_kept c.args.watched.now c.loop-place.watched c.step.new.watched c.args.assignment.now c.loop-place.assignment c.step.new.assignment c.args.head l c.loop-place.place c.requires.head at
    (subst (λ (d : Lit). c.loop-place.place < length (list_at c.loop-place.watched.lists d)) same here)
    (subst (λ (d : Lit). Visited c.args.watched.now c.args.assignment.now c.args.head d c.loop-place.watched c.loop-place.assignment c.loop-place.place) same c.loop-place.invariant)
    (subst (λ (d : Lit). IsSeen c.loop-place.watched c.step.new.watched c.loop-place.assignment c.step.new.assignment d c.loop-place.place Kept) same c.in-Kept.ensures.seen)
    c.in-Kept.ensures.assignment_width)

pub loop-place-preserved : goal.loop-place-preserved
loop-place-preserved c =
    let l = c.nth.result in
    let same = c.not-falsified.ensures in
    let at = get_or_from_slice_get c.args.assignment.now.trail c.args.head l l c.nth.ensures.is in
    let here : c.loop-place.place < length (list_at c.loop-place.watched.lists c.not-falsified.result) = omega (arith, c.loop-place-test.true, c.count.ensures.is) in
    let number : clause_at c.loop-place.watched c.not-falsified.result c.loop-place.place ≡ c.nth-clause.result =
    get_or_from_slice_get (list_at c.loop-place.watched.lists c.not-falsified.result) c.loop-place.place c.nth-clause.result 0 c.nth-clause.ensures.is in
    let exists : clause_at c.loop-place.watched c.not-falsified.result c.loop-place.place < length c.loop-place.watched.clauses = omega (arith, number, c.nth-clause.ensures.exists) in
    subst (λ (d : Lit). Visited c.args.watched.now c.args.assignment.now c.args.head d c.step.new.watched c.step.new.assignment c.loop-place.place) (sym same)
    (visited_moved c.args.watched.now c.loop-place.watched c.step.new.watched c.args.assignment.now c.loop-place.assignment c.step.new.assignment c.args.head l c.loop-place.place c.requires.head at
    (subst (λ (d : Lit). c.loop-place.place < length (list_at c.loop-place.watched.lists d)) same here)
    (subst (λ (d : Lit). clause_at c.loop-place.watched d c.loop-place.place < length c.loop-place.watched.clauses) same exists)
    c.nth-clause.ensures.paired
    (subst (λ (d : Lit). Visited c.args.watched.now c.args.assignment.now c.args.head d c.loop-place.watched c.loop-place.assignment c.loop-place.place) same c.loop-place.invariant)
    (subst (λ (d : Lit). IsSeen c.loop-place.watched c.step.new.watched c.loop-place.assignment c.step.new.assignment d c.loop-place.place Moved) same c.in-Moved.ensures.seen))

pub returns-in-Falsified-clause-ready : goal.returns-in-Falsified-clause-ready
returns-in-Falsified-clause-ready c =
    let s = c.in-Falsified.ensures.seen in
    let v = c.loop-place.invariant in
    let clauses = c.args.watched.now.clauses in
    subst (λ (w : Watched). AllReady clauses w.pairs c.step.new.assignment.trail (take c.args.head c.step.new.assignment.trail)) (sym s.0)
    (subst (λ (a : Assigned). AllReady clauses c.loop-place.watched.pairs a.trail (take c.args.head a.trail)) (sym s.1)
    (visiting_stop clauses c.loop-place.watched.pairs c.loop-place.watched.lists c.loop-place.assignment.trail c.args.head c.not-falsified.result c.loop-place.place
    (head_inside c.args.assignment.now c.loop-place.assignment clauses c.args.head v.implies c.requires.head) v.visiting))

pub returns-in-Falsified-clause-falsified : goal.returns-in-Falsified-clause-falsified
returns-in-Falsified-clause-falsified c =
    let s = c.in-Falsified.ensures.seen in
    let v = c.loop-place.invariant in
    let number : clause_at c.loop-place.watched c.not-falsified.result c.loop-place.place ≡ c.nth-clause.result =
    get_or_from_slice_get (list_at c.loop-place.watched.lists c.not-falsified.result) c.loop-place.place c.nth-clause.result 0 c.nth-clause.ensures.is in
    let size = ap length v.clauses in (
      omega (arith, c.nth-clause.ensures.exists),
      λ clause.
          subst (λ (a : Assigned). All (IsFalse a.trail) (get_or c.args.watched.now.clauses c.nth-clause.result clause)) (sym s.1)
          (subst (λ (cs : List (List Lit)). All (IsFalse c.loop-place.assignment.trail) (get_or cs c.nth-clause.result clause)) v.clauses
          (subst (λ (k : ℕ). All (IsFalse c.loop-place.assignment.trail) (get_or c.loop-place.watched.clauses k clause)) number (s.2 clause))),
    )

pub returns-clause-ready : goal.returns-clause-ready
returns-clause-ready c =
    visiting_stop c.args.watched.now.clauses c.loop-place.watched.pairs c.loop-place.watched.lists c.loop-place.assignment.trail c.args.head c.not-falsified.result c.loop-place.place
    (head_inside c.args.assignment.now c.loop-place.assignment c.args.watched.now.clauses c.args.head c.loop-place.invariant.implies c.requires.head) c.loop-place.invariant.visiting

pub returns-clause-next : goal.returns-clause-next
returns-clause-next c =
    visiting_end c.args.watched.now.clauses c.loop-place.watched.pairs c.loop-place.watched.lists c.loop-place.assignment.trail c.args.head c.not-falsified.result c.loop-place.place
    (omega (arith, c.loop-place-test.false, c.count.ensures.is)) c.loop-place.invariant.visiting
