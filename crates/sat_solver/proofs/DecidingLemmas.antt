-- One literal more that is decided, and the variables that are set then.
use Rattle.std.proofs.Common.{◌≡◌, ℕ, ◌+◌, ◌<◌, ◌≤◌, ◌⊎◌, Bool, true, false, List, [], ◌∷◌, ◌++◌, length, get_or, take, inl, inr, refl, ap, sym, ◌∙◌, subst, arith, length-append}
use Rattle.std.specs.Prelude.{Contains}
use Rattle.std.proofs.lemmas.Bool.{cases_lt}
use Rattle.std.proofs.lemmas.List.{get_or_append_left, get_or_push, take-append-le, take_at}
use Rattle.std.proofs.lemmas.List.Elements.{All-push, Contains-push}
use Rattle.cnf_core.specs.declared.formula.Lit.{Lit}
use Rattle.cnf_core.specs.Literal.{negation}
use Rattle.cnf_core.specs.Propagation.{Conflicts}
use Rattle.unit_propagation.specs.Units.{IsOpen}
use Rattle.unit_propagation.specs.Assigned.{StandsAs}
use Rattle.unit_propagation.specs.declared.assignment.Truth.{Truth}
use Rattle.unit_propagation.specs.declared.assignment.Truth.TheVariants.{True, False}
use Rattle.unit_propagation.specs.Propagation.{Propagation, Continues, IsFull, decisions, with_decision, Extends}
use Rattle.unit_propagation.proofs.ApartLaws.{apart_open}
use Rattle.unit_propagation.proofs.PropagationLaws.{sets_decided}
use Rattle.refutation_checker.specs.Derivation.{IsInput}
use Rattle.refutation_checker.specs.Acceptance.{LeavesOpen}
use Rattle.sat_solver.specs.Deciding.{OpensEach, AreOpenInputs, IsReached, EndsInConflict, literal, IsSetOneWay, AreSetTo, Comes}
use Rattle.unit_propagation.proofs.ExtendsLaws.{full_continues, extends_contains}
use Rattle.refutation_checker.proofs.OpenLaws.{leaves_open}

-- what the decided literals leave open is not among them
pub open_among : (clauses : List (List Lit)) (decided : List Lit) (l : Lit) → LeavesOpen clauses decided l → IsOpen decided l
open_among clauses decided l leaves = ((λ stands. leaves.0 (sets_decided clauses decided l stands)), (λ stands. leaves.1 (sets_decided clauses decided (negation l) stands)))

opens_push : (clauses : List (List Lit)) (decided : List Lit) (l : Lit) → OpensEach clauses decided → LeavesOpen clauses decided l → OpensEach clauses (decided ++ l ∷ [])
opens_push clauses decided l opens leaves i d inside = elim (cases_lt i (length decided)) [
  | inl earlier ↦
      subst (λ (ds : List Lit). LeavesOpen clauses ds (get_or (decided ++ l ∷ []) i d)) (sym (take-append-le i decided (l ∷ []) (omega arith)))
      (subst (LeavesOpen clauses (take i decided)) (sym (get_or_append_left decided (l ∷ []) d i earlier)) (opens i d earlier))
  | inr past ↦
      let there : length decided ≡ i = omega (arith, length-append decided (l ∷ [])) in
      subst (λ (ds : List Lit). LeavesOpen clauses ds (get_or (decided ++ l ∷ []) i d)) (sym (take_at decided (l ∷ []) i there))
      (subst (LeavesOpen clauses decided) (sym (get_or_push decided l d i there)) leaves)
]

pub open_inputs_push : (inputs : ℕ) (clauses : List (List Lit)) (decided : List Lit) (l : Lit) → AreOpenInputs inputs clauses decided → IsInput inputs l.var → LeavesOpen clauses decided l →
    AreOpenInputs inputs clauses (decided ++ l ∷ [])
open_inputs_push inputs clauses decided l h input leaves = record {
  are_inputs = All-push (λ k. IsInput inputs k.var) decided l h.are_inputs input;
  apart = apart_open decided l h.apart (open_among clauses decided l leaves);
  opens = opens_push clauses decided l h.opens leaves;
}

-- a literal more is decided, with what follows, or conflicts
same_clauses : (a b : Propagation) (l : Lit) → b ≡ with_decision a l → b.clauses ≡ a.clauses
same_clauses a b l e = ap (λ (p : Propagation). p.clauses) e

more_inputs : (inputs : ℕ) (p : Propagation) (decided : List Lit) (l : Lit) → IsReached inputs p decided → IsInput inputs l.var → IsOpen p.trail l → AreOpenInputs inputs p.clauses (decided ++ l ∷ [])
more_inputs inputs p decided l h input is_open =
    open_inputs_push inputs p.clauses decided l h.open_inputs input (subst (λ (ds : List Lit). LeavesOpen p.clauses ds l) h.decides (leaves_open p l h.full is_open))

pub reached_conflict : (inputs : ℕ) (p q r : Propagation) (decided : List Lit) (l : Lit) → IsReached inputs p decided → IsInput inputs l.var → IsOpen p.trail l →
    q ≡ with_decision p l → decisions q ≡ decisions p ++ l ∷ [] → Continues q r → Conflicts q.clauses (decisions q) → EndsInConflict inputs r.clauses (decided ++ l ∷ [])
reached_conflict inputs p q r decided l h input is_open with_it decides continues conflicts =
    subst (λ (cs : List (List Lit)). EndsInConflict inputs cs (decided ++ l ∷ [])) (sym (continues.clauses ∙ same_clauses p q l with_it)) (record {
      open_inputs = more_inputs inputs p decided l h input is_open;
      conflict = subst (Conflicts p.clauses) (decides ∙ ap (λ (ds : List Lit). ds ++ l ∷ []) h.decides) (subst (λ (cs : List (List Lit)). Conflicts cs (decisions q)) (same_clauses p q l with_it) conflicts);
      rest = decided;
      last = l;
      parts = refl;
      no_conflict = h.no_conflict;
    })

pub reached_next : (inputs : ℕ) (p q r : Propagation) (decided : List Lit) (l : Lit) → IsReached inputs p decided → IsInput inputs l.var → IsOpen p.trail l →
    q ≡ with_decision p l → decisions q ≡ decisions p ++ l ∷ [] → Continues q r → IsFull q r → (Conflicts q.clauses (decisions q) → ⊥) → IsReached inputs r (decided ++ l ∷ [])
reached_next inputs p q r decided l h input is_open with_it decides continues full none = record {
  decides = continues.decides ∙ whole;
  full = full_continues q r continues full;
  open_inputs = subst (λ (cs : List (List Lit)). AreOpenInputs inputs cs (decided ++ l ∷ [])) (sym clauses) (more_inputs inputs p decided l h input is_open);
  no_conflict = λ conflicts. none (subst (λ (cs : List (List Lit)). Conflicts cs (decisions q)) continues.clauses (subst (Conflicts r.clauses) (sym whole) conflicts));
} where
  whole : decisions q ≡ decided ++ l ∷ []
  whole = decides ∙ ap (λ (ds : List Lit). ds ++ l ∷ []) h.decides

  clauses : r.clauses ≡ p.clauses
  clauses = continues.clauses ∙ same_clauses p q l with_it

-- a literal that conflicts when it is decided
pub decided_conflict : (p q : Propagation) (l : Lit) → q ≡ with_decision p l → decisions q ≡ decisions p ++ l ∷ [] → Conflicts q.clauses (decisions q) → Conflicts p.clauses (decisions p ++ l ∷ [])
decided_conflict p q l with_it decides conflicts =
    subst (Conflicts p.clauses) decides (subst (λ (cs : List (List Lit)). Conflicts cs (decisions q)) (same_clauses p q l with_it) conflicts)

-- a literal or its negation is set
one_way_at : (trail : List Lit) (var : ℕ) (positive : Bool) → Contains trail (literal var positive) ⊎ Contains trail (negation (literal var positive)) → IsSetOneWay trail var
one_way_at trail var true (inl stands) = inl stands
one_way_at trail var true (inr denied) = inr denied
one_way_at trail var false (inl stands) = inr stands
one_way_at trail var false (inr denied) = inl denied

pub one_way : (trail : List Lit) (l : Lit) → Contains trail l ⊎ Contains trail (negation l) → IsSetOneWay trail l.var
one_way trail l is = one_way_at trail l.var l.positive is

pub one_way_stands : (trail : List Lit) (l : Lit) (t : Truth) → StandsAs trail l t → (t ≡ True) ⊎ (t ≡ False) → IsSetOneWay trail l.var
one_way_stands trail l t stands (inl is) = one_way trail l (inl ((subst (StandsAs trail l) is stands).0))
one_way_stands trail l t stands (inr is) = one_way trail l (inr ((subst (StandsAs trail l) is stands).0))

pub one_way_decided : (p q r : Propagation) (l : Lit) → q ≡ with_decision p l → Extends q r → IsSetOneWay r.trail l.var
one_way_decided p q r l with_it extends =
    one_way r.trail l (inl (extends_contains q r l extends (subst (λ (x : Propagation). Contains x.trail l) (sym with_it) (Contains-push p.trail l))))

pub one_way_extends : (p q : Propagation) (var : ℕ) → Extends p q → IsSetOneWay p.trail var → IsSetOneWay q.trail var
one_way_extends p q var extends (inl stands) = inl (extends_contains p q (literal var true) extends stands)
one_way_extends p q var extends (inr stands) = inr (extends_contains p q (literal var false) extends stands)

-- no variable, and one more
pub set_to_none : (trail : List Lit) → AreSetTo 0 trail
set_to_none trail var is = absurd (omega arith)

pub set_to_more : (p q : Propagation) (n : ℕ) → Extends p q → AreSetTo n p.trail → IsSetOneWay q.trail (n + 1) → AreSetTo (n + 1) q.trail
set_to_more p q n extends earlier here var is = elim (cases_lt n var) [
  | inl last ↦ let same : n + 1 ≡ var = omega arith in subst (IsSetOneWay q.trail) same here
  | inr before ↦ one_way_extends p q var extends (earlier var (is.0, before))
]

-- the two ways in which a decision can come out
pub comes_conflict : (inputs : ℕ) (p : Propagation) (decided : List Lit) (conflict : Bool) → conflict ≡ true → Comes inputs p decided conflict → EndsInConflict inputs p.clauses decided
comes_conflict inputs p decided conflict is comes = subst (Comes inputs p decided) is comes

pub comes_reached : (inputs : ℕ) (p : Propagation) (decided : List Lit) (conflict : Bool) → conflict ≡ false → Comes inputs p decided conflict → IsReached inputs p decided
comes_reached inputs p decided conflict is comes = subst (Comes inputs p decided) is comes

pub width_extends : (inputs : ℕ) (p q : Propagation) → Extends p q → inputs < p.width → inputs < q.width
width_extends inputs p q extends below = subst (λ (n : ℕ). inputs < n) (sym extends.width) below

pub set_to_all : (inputs n : ℕ) (trail : List Lit) → inputs ≤ n → AreSetTo n trail → AreSetTo inputs trail
set_to_all inputs n trail few set var is = set var (is.0, omega (arith, is.1))

-- nothing is decided, and what follows is set
pub reached_root : (inputs : ℕ) (p q : Propagation) → Continues p q → decisions p ≡ [] → IsFull p q → (Conflicts p.clauses (decisions p) → ⊥) → IsReached inputs q []
reached_root inputs p q continues none full no_conflict = record {
  decides = continues.decides ∙ none;
  full = full_continues p q continues full;
  open_inputs = record {
    are_inputs = λ k d inside. absurd (omega arith);
    apart = λ i j d below inside. absurd (omega arith);
    opens = λ i d inside. absurd (omega arith);
  };
  no_conflict = λ conflicts. no_conflict (subst (Conflicts p.clauses) (sym none) (subst (λ (cs : List (List Lit)). Conflicts cs []) continues.clauses conflicts));
}
