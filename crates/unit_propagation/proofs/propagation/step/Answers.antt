-- The clause is passed, watches another literal, is false, or sets its other watched literal.
use Rattle.std.proofs.Common.{◌≡◌, ◌≢◌, ◌<◌, ℕ, false, ◌∷◌, [], ◌++◌, List, length, get_or, refl, ap, sym, ◌∙◌, subst, arith, inl, inr, Some}
use Rattle.std.specs.Prelude.{All, Any, Contains, IsTrue, slice_get}
use Rattle.std.proofs.lemmas.List.{get_or_default}
use Rattle.std.proofs.lemmas.List.Elements.{All-contains, Contains-push}
use Rattle.std.proofs.lemmas.Option.{get_or_from_slice_get, slice_get-get_or}
use Rattle.cnf_core.specs.declared.formula.Lit.{Lit}
use Rattle.cnf_core.proofs.Literals.{lit-cases}
use Rattle.unit_propagation.specs.declared.pair.Pair.{Pair}
use Rattle.unit_propagation.specs.declared.assignment.Cause.{Cause}
use Rattle.unit_propagation.specs.declared.assignment.Truth.{Truth}
use Rattle.unit_propagation.specs.declared.assignment.Truth.TheVariants.{True, False, Open}
use Rattle.unit_propagation.specs.Units.{IsFalse, IsOpen, IsFree, IsUnit}
use Rattle.unit_propagation.specs.Assigned.{StandsAs}
use Rattle.unit_propagation.specs.Trail.{Implies}
use Rattle.unit_propagation.specs.Watching.{Watched, IsIndexed, IsOther, MovesWatch, list_at, watches}
use Rattle.unit_propagation.specs.Ready.{clause_at}
use Rattle.unit_propagation.proofs.PairLemmas.{other_other}
use Rattle.unit_propagation.proofs.TrailLemmas.{implies_none, implies_one}
use Rattle.unit_propagation.proofs.propagation.step.Goals as goal

-- the other watched literal stands in the clause
stands_other : (w : Watched) (n : ℕ) (pair : Pair) (falsified other : Lit) → IsIndexed w.width w.clauses w.pairs w.lists → n < length w.clauses →
    slice_get w.pairs n ≡ Some pair → IsOther pair falsified other → (clause : List Lit) → Contains (get_or w.clauses n clause) other
stands_other w n pair falsified other h inside at is clause =
    let same = h.paired in
    h.stands n pair clause (omega arith) other (subst (λ (p : Pair). IsTrue (watches p other)) (sym (get_or_from_slice_get w.pairs n pair pair at)) (other_other pair falsified other is))

within_clause : (w : Watched) (n : ℕ) (l : Lit) → IsIndexed w.width w.clauses w.pairs w.lists → n < length w.clauses → Contains (get_or w.clauses n []) l → l.var < w.width
within_clause w n l h inside stands = All-contains (λ k. k.var < w.width) (get_or w.clauses n []) l (h.within n [] inside) stands

open_from : (trail : List Lit) (l : Lit) (t : Truth) → StandsAs trail l t → (t ≡ True → ⊥) → (t ≡ False → ⊥) → IsOpen trail l
open_from trail l Open stands a b = stands
open_from trail l True stands a b = absurd (a refl)
open_from trail l False stands a b = absurd (b refl)

at_place : (w : Watched) (falsified : Lit) (place n : ℕ) → slice_get (list_at w.lists falsified) place ≡ Some n → n ≡ clause_at w falsified place
at_place w falsified place n at = sym (get_or_from_slice_get (list_at w.lists falsified) place n 0 at)

true_in : (trail clause : List Lit) (l : Lit) → Contains clause l → Contains trail l → Any (Contains trail) clause
true_in trail clause l (k, inside, at) is = (k, l, inside, at, is)

pub returns-in_default-clause-seen : goal.returns-in_default-clause-seen
returns-in_default-clause-seen c =
    let w = c.args.watched.now in
    let n = c.nth-number.result in
    let number = at_place w c.args.falsified c.args.place n c.nth-number.ensures.is in (
      refl,
      implies_none w.clauses c.args.assignment.now.trail c.args.assignment.now.causes,
      inl (λ p. subst (λ (k : ℕ). watches (get_or w.pairs k p) c.args.falsified ≡ false) number
          (ap (λ (q : Pair). watches q c.args.falsified) (get_or_from_slice_get w.pairs n c.pair.result p c.pair.ensures.is) ∙ c.in_default.ensures.not_watched)),
    )

pub value-truth-requires : goal.value-truth-requires
value-truth-requires c =
    let w = c.args.watched.now in
    let n = c.nth-number.result in
    let stands = stands_other w n c.pair.result c.args.falsified c.in-Some.other c.pair.ensures.indexed c.nth-number.ensures.exists c.pair.ensures.is c.in-Some.ensures.watched [] in
    let below = within_clause w n c.in-Some.other c.pair.ensures.indexed c.nth-number.ensures.exists stands in
    let same : c.lit.result.var ≡ c.in-Some.other.var = ap (λ (l : Lit). l.var) c.lit.ensures in
    omega (arith, c.requires.width)

pub returns-in-True-clause-seen : goal.returns-in-True-clause-seen
returns-in-True-clause-seen c =
    let w = c.args.watched.now in
    let n = c.nth-number.result in
    let trail = c.args.assignment.now.trail in
    let number = at_place w c.args.falsified c.args.place n c.nth-number.ensures.is in (
      refl,
      implies_none w.clauses trail c.args.assignment.now.causes,
      inr (λ clause. subst (λ (k : ℕ). Any (Contains trail) (get_or w.clauses k clause)) number
          (true_in trail (get_or w.clauses n clause) c.in-Some.other
          (stands_other w n c.pair.result c.args.falsified c.in-Some.other c.pair.ensures.indexed c.nth-number.ensures.exists c.pair.ensures.is c.in-Some.ensures.watched clause) (subst (Contains trail) c.lit.ensures c.in-True.ensures.0))),
    )

-- the clause that is looked at is the one of the number
clause_is : (clauses : List (List Lit)) (n : ℕ) (seen clause : List Lit) → n < length clauses → seen ≡ get_or clauses n [] → seen ≡ get_or clauses n clause
clause_is clauses n seen clause inside is = is ∙ get_or_default clauses n [] clause inside

moves_watch : (w : Watched) (trail seen : List Lit) (n place : ℕ) (pair : Pair) (falsified other to : Lit) → n < length w.pairs → slice_get (list_at w.lists falsified) place ≡ Some n →
    slice_get w.pairs n ≡ Some pair → IsOther pair falsified other → IsFree trail seen other to → IsFalse trail falsified →
    ((clause : List Lit) → seen ≡ get_or w.clauses n clause) → MovesWatch w n falsified place other to
moves_watch w trail seen n place pair falsified other to inside here at is free falsified_now same = record {
  here = here;
  inside = inside;
  pair = λ p. subst (λ (q : Pair). IsOther q falsified other) (sym (get_or_from_slice_get w.pairs n pair p at)) is;
  stands = λ clause. subst (λ (k : List Lit). Contains k to) (same clause) free.stands;
  not_from = λ e. free.not_false (subst (λ (l : Lit). IsFalse trail l) (sym e) falsified_now);
  not_other = free.differs;
}

pub rewatch-requires : goal.rewatch-requires
rewatch-requires c =
    let w = c.args.watched.now in
    let n = c.nth-number.result in
    let free = c.in-Some-find_other.ensures.found in
    let same = λ (clause : List Lit). clause_is w.clauses n c.literals.result.now clause c.nth-number.ensures.exists c.literals.ensures.are in
    let paired = c.pair.ensures.indexed.paired in
    record {
      from_within = c.requires.within;
      to_within = within_clause w n c.in-Some-find_other.to c.pair.ensures.indexed c.nth-number.ensures.exists (subst (λ (k : List Lit). Contains k c.in-Some-find_other.to) (same []) free.stands);
      moves = moves_watch w c.args.assignment.now.trail c.literals.result.now n c.args.place c.pair.result c.args.falsified c.in-Some.other c.in-Some-find_other.to (omega (arith, c.nth-number.ensures.exists))
          c.nth-number.ensures.is c.pair.ensures.is c.in-Some.ensures.watched free c.requires.falsified same;
    }

pub returns-in-Some-find_other : goal.returns-in-Some-find_other
returns-in-Some-find_other c =
    let w = c.args.watched.now in
    let n = c.nth-number.result in
    let free = c.in-Some-find_other.ensures.found in
    let number = at_place w c.args.falsified c.args.place n c.nth-number.ensures.is in
    record {
      seen = (
        refl,
        record {
          other = c.in-Some.other;
          to = c.in-Some-find_other.to;
          pair = λ p. subst (λ (k : ℕ). IsOther (get_or w.pairs k p) c.args.falsified c.in-Some.other) number
              (subst (λ (q : Pair). IsOther q c.args.falsified c.in-Some.other) (sym (get_or_from_slice_get w.pairs n c.pair.result p c.pair.ensures.is)) c.in-Some.ensures.watched);
          not_other = free.differs;
          not_false = free.not_false;
          width = c.rewatch.ensures.width;
          clauses = c.rewatch.ensures.clauses;
          pairs = rw (← number) c.rewatch.ensures.pairs;
          list = rw (← number) c.rewatch.ensures.list;
        },
      );
      assignment_width = refl;
    }

pub returns-in-False : goal.returns-in-False
returns-in-False c =
    let w = c.args.watched.now in
    let n = c.nth-number.result in
    let trail = c.args.assignment.now.trail in
    let number = at_place w c.args.falsified c.args.place n c.nth-number.ensures.is in
    let same = λ (clause : List Lit). clause_is w.clauses n c.literals.result.now clause c.nth-number.ensures.exists c.literals.ensures.are in
    let all : All (IsFalse trail) c.literals.result.now = λ k d inside. elim (lit-cases (get_or c.literals.result.now k d) c.in-Some.other) [
      | inl is ↦ subst (IsFalse trail) (c.lit.ensures ∙ sym is) c.in-False.ensures.0
      | inr differs ↦ c.in_default-find_other.ensures.none k d inside differs
    ] in
    record {
      seen = (refl, refl, λ clause. subst (λ (k : ℕ). All (IsFalse trail) (get_or w.clauses k clause)) number (subst (All (IsFalse trail)) (same clause) all));
      assignment_width = refl;
    }

pub set-requires : goal.set-requires
set-requires c =
    let w = c.args.watched.now in
    let n = c.nth-number.result in
    let stands = stands_other w n c.pair.result c.args.falsified c.in-Some.other c.pair.ensures.indexed c.nth-number.ensures.exists c.pair.ensures.is c.in-Some.ensures.watched [] in
    let below = within_clause w n c.in-Some.other c.pair.ensures.indexed c.nth-number.ensures.exists stands in
    let trail = c.args.assignment.now.trail in
    let stands_as = subst (λ (l : Lit). StandsAs trail l c.value-truth.result) c.lit.ensures c.value-truth.ensures in
    let same : c.lit-2.result.var ≡ c.in-Some.other.var = ap (λ (l : Lit). l.var) c.lit-2.ensures in
    record {
      inside = omega (arith, c.requires.width);
      is_open = subst (IsOpen trail) (sym c.lit-2.ensures) (open_from trail c.in-Some.other c.value-truth.result stands_as c.in_default-truth.not-True c.in_default-truth-2.not-False);
    }

pub returns : goal.returns
returns c =
    let w = c.args.watched.now in
    let n = c.nth-number.result in
    let trail = c.args.assignment.now.trail in
    let causes = c.args.assignment.now.causes in
    let other = c.in-Some.other in
    let number = at_place w c.args.falsified c.args.place n c.nth-number.ensures.is in
    let same = λ (clause : List Lit). clause_is w.clauses n c.literals.result.now clause c.nth-number.ensures.exists c.literals.ensures.are in
    let stands = λ (clause : List Lit). stands_other w n c.pair.result c.args.falsified other c.pair.ensures.indexed c.nth-number.ensures.exists c.pair.ensures.is c.in-Some.ensures.watched clause in
    let stands_as = subst (λ (l : Lit). StandsAs trail l c.value-truth.result) c.lit.ensures c.value-truth.ensures in
    let added : c.set.new.self.trail ≡ trail ++ other ∷ [] = c.set.ensures.trail ∙ ap (λ (l : Lit). trail ++ l ∷ []) c.lit-2.ensures in
    let unit : IsUnit trail (get_or w.clauses n []) other = record {
      stands = stands [];
      is_open = open_from trail other c.value-truth.result stands_as c.in_default-truth.not-True c.in_default-truth-2.not-False;
      alone = subst (All (λ k. k ≢ other → IsFalse trail k)) (same []) c.in_default-find_other.ensures.none;
    } in
    let one = implies_one w.clauses trail causes n (get_or w.clauses n []) other (slice_get-get_or w.clauses n [] c.nth-number.ensures.exists) unit in
    let implies : Implies w.clauses trail causes c.set.new.self.trail c.set.new.self.causes =
    subst (λ (t : List Lit). Implies w.clauses trail causes t c.set.new.self.causes) (sym added)
    (subst (λ (cs : List Cause). Implies w.clauses trail causes (trail ++ other ∷ []) cs) (sym c.set.ensures.causes) one) in
    let is : Contains c.set.new.self.trail other = subst (λ (t : List Lit). Contains t other) (sym added) (Contains-push trail other) in
    record {
      seen = (
        refl,
        implies,
        inr (λ clause. subst (λ (k : ℕ). Any (Contains c.set.new.self.trail) (get_or w.clauses k clause)) number
            (true_in c.set.new.self.trail (get_or w.clauses n clause) other (stands clause) is)),
      );
      assignment_width = c.set.ensures.width;
    }
