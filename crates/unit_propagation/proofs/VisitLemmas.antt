-- One step of a visit: what is known of the clauses and the trail since its start.
use Rattle.std.proofs.Common.{◌≡◌, ℕ, ◌+◌, ◌<◌, List, ◌++◌, length, get_or, ap, sym, ◌∙◌, subst, arith, length-append}
use Rattle.std.proofs.lemmas.List.{get_or_append_left}
use Rattle.cnf_core.specs.declared.formula.Lit.{Lit}
use Rattle.cnf_core.specs.Literal.{negation}
use Rattle.unit_propagation.specs.declared.propagation.Seen.TheVariants.{Kept, Moved}
use Rattle.unit_propagation.specs.Assigned.{Assigned}
use Rattle.unit_propagation.specs.Trail.{Implies}
use Rattle.unit_propagation.specs.Watching.{Watched, list_at}
use Rattle.unit_propagation.specs.Ready.{KeepsReady, IsSeen, IsDone, clause_at}
use Rattle.unit_propagation.proofs.TrailLemmas.{implies_then}
use Rattle.unit_propagation.proofs.ReadyLemmas.{Visiting, visiting_kept, visiting_moved, keeps_then, keeps_moved}

-- what a visit that began with `start` and `a` has come to
pub record Visited (start : Watched) (a : Assigned) (head : ℕ) (falsified : Lit) (w : Watched) (b : Assigned) (place : ℕ) : Type 0 where
  pub width : w.width ≡ start.width
  pub assignment_width : b.width ≡ a.width
  pub clauses : w.clauses ≡ start.clauses
  pub implies : Implies start.clauses a.trail a.causes b.trail b.causes
  pub keeps : KeepsReady start.clauses start.pairs w.pairs a.trail
  pub visiting : Visiting start.clauses w.pairs w.lists b.trail head falsified place

longer : (a b : Assigned) (clauses : List (List Lit)) (head : ℕ) → Implies clauses a.trail a.causes b.trail b.causes → head < length a.trail → head < length b.trail
longer a b clauses head implies inside = let size = ap length implies.trail ∙ length-append a.trail implies.more in omega arith

pub head_stays : (a b : Assigned) (clauses : List (List Lit)) (head : ℕ) (l : Lit) → Implies clauses a.trail a.causes b.trail b.causes → head < length a.trail →
    get_or a.trail head l ≡ l → get_or b.trail head l ≡ l
head_stays a b clauses head l implies inside at = ap (λ (t : List Lit). get_or t head l) implies.trail ∙ get_or_append_left a.trail implies.more l head inside ∙ at

pub head_inside : (a b : Assigned) (clauses : List (List Lit)) (head : ℕ) → Implies clauses a.trail a.causes b.trail b.causes → head < length a.trail → head < length b.trail
head_inside = longer

pub visited_kept : (start w new : Watched) (a b next : Assigned) (head : ℕ) (l : Lit) (place : ℕ) → head < length a.trail → get_or a.trail head l ≡ l →
    place < length (list_at w.lists (negation l)) → Visited start a head (negation l) w b place → IsSeen w new b next (negation l) place Kept → next.width ≡ b.width →
    Visited start a head (negation l) new next (place + 1)
visited_kept start w new a b next head l place inside at here v seen width = subst (λ (x : Watched). Visited start a head (negation l) x next (place + 1)) (sym seen.0) (record {
  width = v.width;
  assignment_width = width ∙ v.assignment_width;
  clauses = v.clauses;
  implies = implies_then start.clauses a.trail b.trail next.trail a.causes b.causes next.causes v.implies step;
  keeps = v.keeps;
  visiting = subst (λ (t : List Lit). Visiting start.clauses w.pairs w.lists t head (negation l) (place + 1)) (sym step.trail)
      (subst (λ (cs : List (List Lit)). Visiting cs w.pairs w.lists (b.trail ++ step.more) head (negation l) (place + 1)) v.clauses
      (visiting_kept w b.trail step.more head l place (head_inside a b start.clauses head v.implies inside) (head_stays a b start.clauses head l v.implies inside at) here
      (subst (λ (t : List Lit). IsDone w t (negation l) (clause_at w (negation l) place)) step.trail seen.2)
      (subst (λ (cs : List (List Lit)). Visiting cs w.pairs w.lists b.trail head (negation l) place) (sym v.clauses) v.visiting)));
}) where
  step : Implies start.clauses b.trail b.causes next.trail next.causes
  step = subst (λ (cs : List (List Lit)). Implies cs b.trail b.causes next.trail next.causes) v.clauses seen.1

pub visited_moved : (start w new : Watched) (a b next : Assigned) (head : ℕ) (l : Lit) (place : ℕ) → head < length a.trail → get_or a.trail head l ≡ l →
    place < length (list_at w.lists (negation l)) → clause_at w (negation l) place < length w.clauses → length w.pairs ≡ length w.clauses →
    Visited start a head (negation l) w b place → IsSeen w new b next (negation l) place Moved → Visited start a head (negation l) new next place
visited_moved start w new a b next head l place inside at here exists paired v seen = subst (λ (x : Assigned). Visited start a head (negation l) new x place) (sym seen.0) (record {
  width = seen.1.width ∙ v.width;
  assignment_width = v.assignment_width;
  clauses = seen.1.clauses ∙ v.clauses;
  implies = v.implies;
  keeps = keeps_then start.clauses start.pairs w.pairs new.pairs a.trail v.implies.more v.keeps
      (subst (KeepsReady start.clauses w.pairs new.pairs) v.implies.trail moved);
  visiting = subst (λ (cs : List (List Lit)). Visiting cs new.pairs new.lists b.trail head (negation l) place) v.clauses
      (visiting_moved w new b.trail head l place (head_inside a b start.clauses head v.implies inside) (head_stays a b start.clauses head l v.implies inside at) here below seen.1
      (subst (λ (cs : List (List Lit)). Visiting cs w.pairs w.lists b.trail head (negation l) place) (sym v.clauses) v.visiting));
}) where
  below : clause_at w (negation l) place < length w.pairs
  below = omega arith

  moved : KeepsReady start.clauses w.pairs new.pairs b.trail
  moved = subst (λ (cs : List (List Lit)). KeepsReady cs w.pairs new.pairs b.trail) v.clauses (keeps_moved w new b.trail (negation l) place below seen.1)
