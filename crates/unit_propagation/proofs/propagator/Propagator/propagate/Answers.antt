-- First the clauses of one literal are looked at, then those that watch what is falsified; at the end the trail is the least closed set.
use Rattle.std.proofs.Common.{◌≡◌, ℕ, Option, Some, None, List, Vec, Global, length, take, refl, sym, ◌∙◌, subst, arith}
use Rattle.std.specs.Prelude.{All, Contains, IfSome, IfNone}
use Rattle.std.proofs.lemmas.List.{take_all, length-map}
use Rattle.std.proofs.lemmas.List.Elements.{Contains-append_left}
use Rattle.cnf_core.specs.declared.formula.Lit.{Lit}
use Rattle.cnf_core.specs.Propagation.{Sets, Conflicts}
use Rattle.unit_propagation.specs.declared.pair.Pair.{Pair}
use Rattle.unit_propagation.specs.declared.assignment.Cause.{Cause}
use Rattle.unit_propagation.specs.Units.{IsConsistent}
use Rattle.unit_propagation.specs.Trail.{decided, reasons_of, Implies}
use Rattle.unit_propagation.specs.Watching.{Watched, IsIndexed}
use Rattle.unit_propagation.specs.Ready.{AllReady, LooseAreTrue}
use Rattle.unit_propagation.specs.Loose.{AreTrue, IsSettled}
use Rattle.unit_propagation.specs.Propagated.{AreAllSet, IsFalseClause, SaysNothing, IsTotal, HasTrueLiterals}
use Rattle.unit_propagation.specs.Propagation.{Propagation, decisions}
use Rattle.unit_propagation.specs.PropagatorFields.{IsState}
use Rattle.unit_propagation.proofs.LooseLemmas.{settled_grows, are_true_grows}
use Rattle.unit_propagation.proofs.TrailLemmas.{implies_then}
use Rattle.unit_propagation.proofs.FixpointLemmas.{are_set, conflicts_false, fixed, all_set_fixed, no_conflict_fixed, decided_within, total_satisfied}
use Rattle.unit_propagation.proofs.StateLemmas.{state_set, state_continues, state_grows, loose_true, lists_kept, continues_is}
use Rattle.unit_propagation.proofs.propagator.Propagator.propagate.Goals as goal

if_some : (r : Option ℕ) (P : ℕ → Type 0) (Q : Type 0) → ((k : ℕ) → P k → Q) → IfSome r P → IfSome r (λ _. Q)
if_some None P Q f h = tt
if_some (Some k) P Q f h = f k h

if_none : (r : Option ℕ) (A B C Q : Type 0) → (A → B → C → Q) → IfNone r A → IfNone r B → IfNone r C → IfNone r Q
if_none None A B C Q f a b c = f a b c
if_none (Some k) A B C Q f a b c = tt

-- propagation sets what is on the trail now
are_set_since : (clauses : List (List Lit)) (pairs : List Pair) (trail new : List Lit) (causes new_causes : List Cause) (head : ℕ) (loose : List ℕ) →
    IsState clauses pairs trail causes head loose → Implies clauses trail causes new new_causes → All (Sets clauses (decided trail (reasons_of causes))) new
are_set_since clauses pairs trail new causes new_causes head loose s implies =
    subst (λ (ds : List Lit). All (Sets clauses ds) new) (implies.decides s.sized)
    (are_set clauses new (reasons_of new_causes) (length-map new_causes (λ (k : Cause). k.reason) ∙ implies.sized s.sized) (implies.justified s.sized s.justified))

-- the decided literals are on the trail now
decided_since : (clauses : List (List Lit)) (trail new : List Lit) (causes new_causes : List Cause) → Implies clauses trail causes new new_causes →
    (l : Lit) → Contains (decided trail (reasons_of causes)) l → Contains new l
decided_since clauses trail new causes new_causes implies l h =
    subst (λ (t : List Lit). Contains t l) (sym implies.trail) (Contains-append_left trail implies.more l (decided_within trail (reasons_of causes) l h))

-- nothing is left to look at
nothing_left : (w : Watched) (clauses : List (List Lit)) (trail : List Lit) (head : ℕ) → w.clauses ≡ clauses → AllReady clauses w.pairs trail (take head trail) → LooseAreTrue clauses w.pairs trail →
    head ≡ length trail → IsIndexed w.width w.clauses w.pairs w.lists → IsConsistent trail → All (SaysNothing trail) clauses
nothing_left w clauses trail head same ready loose at_end indexed consistent =
    subst (All (SaysNothing trail)) same
    (fixed w trail indexed consistent
    (subst (λ (cs : List (List Lit)). AllReady cs w.pairs trail trail) (sym same) (subst (AllReady clauses w.pairs trail) (take_all head trail (omega arith)) ready))
    (subst (λ (cs : List (List Lit)). LooseAreTrue cs w.pairs trail) (sym same) loose))

pub set_loose-requires-clause-loose : goal.set_loose-requires-clause-loose
set_loose-requires-clause-loose c =
    c.self.invariant.state.are_loose

pub set_loose-requires-clause-settled : goal.set_loose-requires-clause-settled
set_loose-requires-clause-settled c =
    c.self.invariant.settled

pub invariant_of-self : goal.invariant_of-self
invariant_of-self c =
    let inside = c.self.inside in
    let w = inside.watched in
    let new = c.set_loose.new.assignment in
    let implies = c.in-Some.ensures.implies in
    record {
      width = omega (arith, c.self.invariant.width, c.in-Some.ensures.width);
      state = subst (λ (v : Vec ℕ Global). IsState w.clauses w.pairs new.trail new.causes inside.head v.items) (sym c.in-Some.ensures.numbers)
          (state_set w.clauses w.pairs inside.assignment.trail new.trail inside.assignment.causes new.causes inside.head inside.loose.numbers.items c.self.invariant.state implies);
      settled = c.in-Some.ensures.settled;
    }

pub returns-in-Some-clause-continues : goal.returns-in-Some-clause-continues
returns-in-Some-clause-continues c =
    let inside = c.self.inside in
    let w = inside.watched in
    let new = c.set_loose.new.assignment in
    let implies = c.in-Some.ensures.implies in
    continues_is c.args.self.now w.width w.clauses inside.assignment.trail new.trail inside.assignment.causes new.causes w.width w.clauses c.self.view_is refl refl c.self.invariant.state.sized implies

pub returns-in-Some-clause-conflict : goal.returns-in-Some-clause-conflict
returns-in-Some-clause-conflict c =
    c.in-Some.ensures.falsified

pub returns-in-Some-clause-conflicts : goal.returns-in-Some-clause-conflicts
returns-in-Some-clause-conflicts c =
    let inside = c.self.inside in
    let w = inside.watched in
    let new = c.set_loose.new.assignment in
    let implies = c.in-Some.ensures.implies in
    let falsified = c.in-Some.ensures.falsified in
    subst (λ (p : Propagation). Conflicts p.clauses (decisions p)) c.self.view_is
    (conflicts_false w.clauses (decided inside.assignment.trail (reasons_of inside.assignment.causes)) new.trail c.in-Some.clause
    (are_set_since w.clauses w.pairs inside.assignment.trail new.trail inside.assignment.causes new.causes inside.head inside.loose.numbers.items c.self.invariant.state implies) falsified)

pub run-requires-clause-ready : goal.run-requires-clause-ready
run-requires-clause-ready c =
    let inside = c.self.inside in
    let w = inside.watched in
    let new = c.set_loose.new.assignment in
    let implies = c.in_default.ensures.implies in
    (state_set w.clauses w.pairs inside.assignment.trail new.trail inside.assignment.causes new.causes inside.head inside.loose.numbers.items c.self.invariant.state implies).ready

implied : (c : goal.After-run) → Implies c.self.inside.watched.clauses c.self.inside.assignment.trail c.self.inside.assignment.causes c.run.new.assignment.trail c.run.new.assignment.causes
implied c =
    let inside = c.self.inside in
    let mid = c.set_loose.new.assignment in
    let end = c.run.new.assignment in
    implies_then inside.watched.clauses inside.assignment.trail mid.trail end.trail inside.assignment.causes mid.causes end.causes
    (c.in_default.ensures.implies) c.run.ensures.implies

pub invariant_of-self-2 : goal.invariant_of-self-2
invariant_of-self-2 c =
    let inside = c.self.inside in
    let w = inside.watched in
    let mid = c.set_loose.new.assignment in
    let end = c.run.new.assignment in
    let first = c.in_default.ensures.implies in
    let s = state_set w.clauses w.pairs inside.assignment.trail mid.trail inside.assignment.causes mid.causes inside.head inside.loose.numbers.items c.self.invariant.state first in
    let new_pairs = c.run.new.watched.pairs in
    let settled = c.in_default.ensures.settled in
    record {
      width = omega (arith, c.self.invariant.width, c.in_default.ensures.width, c.run.ensures.width, c.run.ensures.assignment_width);
      state = subst (λ (v : Vec ℕ Global). IsState c.run.new.watched.clauses new_pairs end.trail end.causes c.run.new.head v.items) (sym c.in_default.ensures.numbers) (state_grows w.clauses c.run.new.watched.clauses new_pairs new_pairs end.trail end.causes c.run.new.head inside.loose.numbers.items (sym c.run.ensures.clauses) refl
          (state_continues w.clauses w.pairs new_pairs mid.trail end.trail mid.causes end.causes inside.head c.run.new.head inside.loose.numbers.items s c.run.ensures.implies c.run.ensures.keeps
          (lists_kept w.pairs new_pairs inside.loose.numbers.items c.run.ensures.keeps.size c.run.ensures.keeps.pairs s.listed) c.run.ensures.ready c.run.ensures.head));
      settled = subst (λ (cs : List (List Lit)). IsSettled cs end.trail c.set_loose.new.loose) (sym c.run.ensures.clauses)
          (subst (λ (t : List Lit). IsSettled w.clauses t c.set_loose.new.loose) (sym c.run.ensures.implies.trail)
          (settled_grows w.clauses mid.trail c.run.ensures.implies.more c.set_loose.new.loose settled));
    }

pub returns-clause-continues : goal.returns-clause-continues
returns-clause-continues c =
    let inside = c.self.inside in
    let w = inside.watched in
    let end = c.run.new.assignment in
    continues_is c.args.self.now w.width w.clauses inside.assignment.trail end.trail inside.assignment.causes end.causes c.run.new.watched.width c.run.new.watched.clauses c.self.view_is
    c.run.ensures.width c.run.ensures.clauses c.self.invariant.state.sized (implied c)

pub returns-clause-conflicts : goal.returns-clause-conflicts
returns-clause-conflicts c =
    let inside = c.self.inside in
    let w = inside.watched in
    let end = c.run.new.assignment in
    let Q = Conflicts c.args.self.now.clauses (decisions c.args.self.now) in
    if_some c.run.result (λ k. IsFalseClause w.clauses end.trail k) Q
    (λ k falsified. subst (λ (p : Propagation). Conflicts p.clauses (decisions p)) c.self.view_is
    (conflicts_false w.clauses (decided inside.assignment.trail (reasons_of inside.assignment.causes)) end.trail k
    (are_set_since w.clauses w.pairs inside.assignment.trail end.trail inside.assignment.causes end.causes inside.head inside.loose.numbers.items c.self.invariant.state (implied c)) falsified))
    c.run.ensures.falsified

left : (c : goal.After-run) → c.run.new.head ≡ length c.run.new.assignment.trail → IsIndexed c.run.new.watched.width c.run.new.watched.clauses c.run.new.watched.pairs c.run.new.watched.lists →
    IsConsistent c.run.new.assignment.trail → All (SaysNothing c.run.new.assignment.trail) c.self.inside.watched.clauses
left c at_end indexed consistent =
    let inside = c.self.inside in
    let clauses = inside.watched.clauses in
    let mid = c.set_loose.new.assignment in
    let numbers = inside.loose.numbers.items in
    let are : AreTrue clauses numbers mid.trail =
    subst (λ (v : Vec ℕ Global). AreTrue clauses v.items mid.trail) c.in_default.ensures.numbers
    c.in_default.ensures.are_true in
    let are_now : AreTrue clauses numbers c.run.new.assignment.trail =
    subst (AreTrue clauses numbers) (sym c.run.ensures.implies.trail) (are_true_grows clauses numbers mid.trail c.run.ensures.implies.more are) in
    let loose = loose_true clauses c.run.new.watched.pairs numbers c.run.new.assignment.trail
    (lists_kept inside.watched.pairs c.run.new.watched.pairs numbers c.run.ensures.keeps.size c.run.ensures.keeps.pairs c.self.invariant.state.listed) are_now in
    nothing_left c.run.new.watched clauses c.run.new.assignment.trail c.run.new.head c.run.ensures.clauses c.run.ensures.ready loose at_end indexed consistent

pub returns-clause-all_set : goal.returns-clause-all_set
returns-clause-all_set c =
    let inside = c.self.inside in
    let w = inside.watched in
    let end = c.run.new.assignment in
    if_none c.run.result (c.run.new.head ≡ length end.trail) (IsIndexed c.run.new.watched.width c.run.new.watched.clauses c.run.new.watched.pairs c.run.new.watched.lists) (IsConsistent end.trail)
    (AreAllSet c.args.self.now.clauses (decisions c.args.self.now) end.trail)
    (λ at_end indexed consistent. subst (λ (p : Propagation). AreAllSet p.clauses (decisions p) end.trail) c.self.view_is
    (all_set_fixed w.clauses (decided inside.assignment.trail (reasons_of inside.assignment.causes)) end.trail (decided_since w.clauses inside.assignment.trail end.trail inside.assignment.causes end.causes (implied c))
    (are_set_since w.clauses w.pairs inside.assignment.trail end.trail inside.assignment.causes end.causes inside.head inside.loose.numbers.items c.self.invariant.state (implied c)) (left c at_end indexed consistent)))
    c.run.ensures.ended c.run.ensures.indexed c.run.ensures.consistent

pub returns-clause-none : goal.returns-clause-none
returns-clause-none c =
    let inside = c.self.inside in
    let w = inside.watched in
    let end = c.run.new.assignment in
    if_none c.run.result (c.run.new.head ≡ length end.trail) (IsIndexed c.run.new.watched.width c.run.new.watched.clauses c.run.new.watched.pairs c.run.new.watched.lists) (IsConsistent end.trail)
    (Conflicts c.args.self.now.clauses (decisions c.args.self.now) → ⊥)
    (λ at_end indexed consistent conflicts. no_conflict_fixed w.clauses (decided inside.assignment.trail (reasons_of inside.assignment.causes)) end.trail
    (decided_since w.clauses inside.assignment.trail end.trail inside.assignment.causes end.causes (implied c)) (left c at_end indexed consistent)
    (subst (λ (p : Propagation). Conflicts p.clauses (decisions p)) (sym c.self.view_is) conflicts))
    c.run.ensures.ended c.run.ensures.indexed c.run.ensures.consistent

pub returns-clause-satisfied : goal.returns-clause-satisfied
returns-clause-satisfied c =
    let w = c.self.inside.watched in
    let end = c.run.new.assignment in
    if_none c.run.result (c.run.new.head ≡ length end.trail) (IsIndexed c.run.new.watched.width c.run.new.watched.clauses c.run.new.watched.pairs c.run.new.watched.lists) (IsConsistent end.trail)
    (IsTotal c.run.new.watched.clauses end.trail → HasTrueLiterals c.run.new.watched.clauses end.trail)
    (λ at_end indexed consistent. total_satisfied c.run.new.watched.clauses end.trail
    (subst (All (SaysNothing end.trail)) (sym c.run.ensures.clauses) (left c at_end indexed consistent)))
    c.run.ensures.ended c.run.ensures.indexed c.run.ensures.consistent
