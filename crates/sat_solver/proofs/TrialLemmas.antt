-- Literals that are decided unless they are set: those that are decided stand for all of them.
use Rattle.std.proofs.Common.{arith, ◌≡◌, ℕ, ◌+◌, ◌<◌, ◌≤◌, List, [], ◌∷◌, ◌++◌, length, get_or, take, inl, inr, ap, sym, ◌∙◌, subst, append_assoc}
use Rattle.std.specs.Prelude.{Contains}
use Rattle.std.proofs.lemmas.List.{append-nil, take_more, take_all}
use Rattle.std.proofs.lemmas.List.Elements.{Contains-append_left, Contains-append_right, Contains-push, Contains-push_cases}
use Rattle.cnf_core.specs.declared.formula.Lit.{Lit}
use Rattle.cnf_core.specs.Literal.{negation}
use Rattle.cnf_core.specs.Propagation.{Sets, Conflicts}
use Rattle.unit_propagation.specs.Units.{IsConsistent}
use Rattle.unit_propagation.specs.Propagation.{IsRefuted}
use Rattle.unit_propagation.proofs.PropagationLaws.{sets_decided, sets_cut, conflicts_cut, conflicts_more}
use Rattle.sat_solver.specs.Reducing.{StandsFor}
use Rattle.sat_solver.proofs.ListLemmas.{take_within, append_within}

pub stands_itself : (clauses : List (List Lit)) (decided : List Lit) → StandsFor clauses decided decided
stands_itself clauses decided = record { part = λ l stands. stands; sets = sets_decided clauses decided }

-- a literal that is set needs no decision
pub stands_set : (clauses : List (List Lit)) (decided : List Lit) (l : Lit) → Sets clauses decided l → StandsFor clauses decided (decided ++ l ∷ [])
stands_set clauses decided l sets = record {
  part = Contains-append_left decided (l ∷ []);
  sets = λ k stands. elim (Contains-push_cases decided l k stands) [
    | inl earlier ↦ sets_decided clauses decided k earlier
    | inr same ↦ subst (Sets clauses decided) same sets
  ];
}

abbrev pub front : List Lit → List Lit → ℕ → List Lit
front before lits i = before ++ take i lits

pub stands_none : (clauses : List (List Lit)) (before lits : List Lit) → StandsFor clauses before (front before lits 0)
stands_none clauses before lits = subst (StandsFor clauses before) (sym (append-nil before)) (stands_itself clauses before)

front_more : (before lits : List Lit) (i : ℕ) (d : Lit) → i < length lits → front before lits (i + 1) ≡ front before lits i ++ get_or lits i d ∷ []
front_more before lits i d inside = ap (λ (ls : List Lit). before ++ ls) (take_more lits i d inside) ∙ sym (append_assoc before (take i lits) (get_or lits i d ∷ []))

-- one literal more is decided, or was set
pub stands_more : (clauses : List (List Lit)) (before now new lits : List Lit) (i : ℕ) (l : Lit) → i < length lits → get_or lits i l ≡ l → StandsFor clauses now (front before lits i) →
    StandsFor clauses new (now ++ l ∷ []) → StandsFor clauses new (front before lits (i + 1))
stands_more clauses before now new lits i l inside at first then = subst (StandsFor clauses new) (sym whole) (record {
  part = λ k stands. elim (Contains-push_cases now l k (then.part k stands)) [
    | inl earlier ↦ Contains-append_left (front before lits i) (l ∷ []) k (first.part k earlier)
    | inr same ↦ subst (Contains (front before lits i ++ l ∷ [])) same (Contains-push (front before lits i) l)
  ];
  sets = λ k stands. elim (Contains-push_cases (front before lits i) l k stands) [
    | inl earlier ↦ sets_cut clauses now new k (λ m there. then.sets m (Contains-append_left now (l ∷ []) m there)) (first.sets k earlier)
    | inr same ↦ subst (Sets clauses new) same (then.sets l (Contains-push now l))
  ];
}) where
  whole : front before lits (i + 1) ≡ front before lits i ++ l ∷ []
  whole = front_more before lits i l inside ∙ ap (λ (x : Lit). front before lits i ++ x ∷ []) at

front_within : (before lits : List Lit) (i : ℕ) (k : Lit) → Contains (front before lits i) k → Contains (before ++ lits) k
front_within before lits i k =
    append_within before (take i lits) (before ++ lits) k (Contains-append_left before lits k) (λ stands. Contains-append_right before lits k (take_within i lits k stands))

-- a literal that those before it rule out
pub stands_refuted : (clauses : List (List Lit)) (before now lits : List Lit) (i : ℕ) (l : Lit) → i < length lits → get_or lits i l ≡ l → IsConsistent (before ++ lits) →
    StandsFor clauses now (front before lits i) → IsRefuted clauses now l → Conflicts clauses (before ++ lits)
stands_refuted clauses before now lits i l inside at consistent first refuted = elim refuted.why [
  | inl decided ↦ absurd (consistent l here (front_within before lits i (negation l) (first.part (negation l) decided)))
  | inr conflicts ↦ conflicts_more clauses (now ++ l ∷ []) (before ++ lits)
      (λ k stands. append_within now (l ∷ []) (before ++ lits) k (λ earlier. front_within before lits i k (first.part k earlier)) (only k) stands) conflicts
] where
  here : Contains (before ++ lits) l
  here = Contains-append_right before lits l (i, inside, at)

  only : (k : Lit) → Contains (l ∷ []) k → Contains (before ++ lits) k
  only k stands = elim (Contains-push_cases [] l k stands) [
    | inl none ↦ Contains-append_left before lits k (nothing k none)
    | inr same ↦ subst (Contains (before ++ lits)) same here
  ] where
    nothing : (k : Lit) → Contains [] k → Contains before k
    nothing k (n, below, is) = absurd (omega arith)

pub stands_conflicts : (clauses : List (List Lit)) (few more : List Lit) → StandsFor clauses few more → Conflicts clauses few → Conflicts clauses more
stands_conflicts clauses few more h = conflicts_more clauses few more h.part

pub conflicts_stands : (clauses : List (List Lit)) (few more : List Lit) → StandsFor clauses few more → Conflicts clauses more → Conflicts clauses few
conflicts_stands clauses few more h = conflicts_cut clauses more few h.sets

pub stands_whole : (clauses : List (List Lit)) (before now lits : List Lit) (i : ℕ) → length lits ≤ i → StandsFor clauses now (front before lits i) → StandsFor clauses now (before ++ lits)
stands_whole clauses before now lits i past = subst (λ (ls : List Lit). StandsFor clauses now (before ++ ls)) (take_all i lits past)
