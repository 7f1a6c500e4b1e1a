-- Literals dropped from a conflict and kept of it, and the least conflict that is left.
use Rattle.std.proofs.Common.{◌≡◌, ℕ, ◌+◌, ◌<◌, List, [], ◌∷◌, ◌++◌, length, get_or, take, drop, inl, inr, refl, ap, sym, ◌∙◌, subst, arith, length-append, append_assoc}
use Rattle.std.specs.Prelude.{All, Contains, remove}
use Rattle.std.proofs.lemmas.Bool.{cases_lt}
use Rattle.std.proofs.lemmas.List.{take-append-le, drop_at, take_more, drop_more, get_or_push}
use Rattle.std.proofs.lemmas.List.Edits.{remove-append_left}
use Rattle.std.proofs.lemmas.List.Elements.{All-contains, All-push, All-weaker, Contains-append_left, Contains-append_right, Contains-push, Contains-push_cases, Contains-get_or}
use Rattle.cnf_core.specs.declared.formula.Lit.{Lit}
use Rattle.cnf_core.specs.Literal.{negation, IsApart}
use Rattle.cnf_core.specs.Propagation.{Conflicts}
use Rattle.unit_propagation.specs.Units.{IsOpen, IsConsistent}
use Rattle.unit_propagation.specs.Propagation.{Propagation, IsFull, decisions, Extends}
use Rattle.unit_propagation.proofs.ApartLaws.{apart_open}
use Rattle.unit_propagation.proofs.PropagationLaws.{sets_more, conflicts_more}
use Rattle.refutation_checker.specs.Derivation.{IsInput}
use Rattle.refutation_checker.specs.Acceptance.{LeavesOpen, IsLeastConflict}
use Rattle.sat_solver.specs.Deciding.{IsReached, EndsInConflict}
use Rattle.sat_solver.specs.Reducing.{KeepsConflict, IsReduced}
use Rattle.sat_solver.proofs.ListLemmas.{take_within, take_longer, drop_within, drop_longer, append_within, remove_last, consistent_apart}
use Rattle.sat_solver.proofs.DecidingLemmas.{open_among}

no_literal : (xs : List Lit) (k : Lit) → Contains [] k → Contains xs k
no_literal xs k (n, below, is) = absurd (omega arith)

-- nothing is kept yet
pub keeps_none : (clauses : List (List Lit)) (decided : List Lit) → Conflicts clauses decided → KeepsConflict clauses decided [] 0
keeps_none clauses decided conflict = record {
  part = λ k stands. no_literal (take 0 decided) k stands;
  apart = λ i j d below inside. absurd (omega arith);
  conflict = conflict;
  needed = λ i inside. absurd (omega arith);
}

-- what is kept, and what was not tried yet, are among the decided literals
pub kept_within : (clauses : List (List Lit)) (decided kept : List Lit) (place n : ℕ) (l : Lit) → KeepsConflict clauses decided kept place → Contains (kept ++ drop n decided) l → Contains decided l
kept_within clauses decided kept place n l h =
    append_within kept (drop n decided) decided l (λ stands. take_within place decided l (h.part l stands)) (drop_within n decided l)

pub kept_consistent : (clauses : List (List Lit)) (decided kept : List Lit) (place n : ℕ) → KeepsConflict clauses decided kept place → IsApart decided → IsConsistent (kept ++ drop n decided)
kept_consistent clauses decided kept place n h apart l stands denied =
    consistent_apart decided apart l (kept_within clauses decided kept place n l h stands) (kept_within clauses decided kept place n (negation l) h denied)

-- the literal at the place is dropped
pub keeps_dropped : (clauses : List (List Lit)) (decided kept : List Lit) (place : ℕ) → KeepsConflict clauses decided kept place → Conflicts clauses (kept ++ drop (place + 1) decided) →
    KeepsConflict clauses decided kept (place + 1)
keeps_dropped clauses decided kept place h conflict = record {
  part = λ l stands. take_longer place (place + 1) decided l (omega arith) (h.part l stands);
  apart = h.apart;
  conflict = conflict;
  needed = λ i inside again. h.needed i inside (conflicts_more clauses (remove kept i ++ drop (place + 1) decided) (remove kept i ++ drop place decided) (longer i) again);
} where
  longer : (i : ℕ) (k : Lit) → Contains (remove kept i ++ drop (place + 1) decided) k → Contains (remove kept i ++ drop place decided) k
  longer i k = append_within (remove kept i) (drop (place + 1) decided) (remove kept i ++ drop place decided) k
      (Contains-append_left (remove kept i) (drop place decided) k)
      (λ stands. Contains-append_right (remove kept i) (drop place decided) k (drop_longer place decided k stands))

regroup : (xs decided : List Lit) (place : ℕ) (d : Lit) → place < length decided → get_or decided place d ≡ d → (xs ++ d ∷ []) ++ drop (place + 1) decided ≡ xs ++ drop place decided
regroup xs decided place d inside at =
    append_assoc xs (d ∷ []) (drop (place + 1) decided)
    ∙ ap (λ (x : Lit). xs ++ x ∷ drop (place + 1) decided) (sym at)
    ∙ ap (λ (ys : List Lit). xs ++ ys) (sym (drop_more decided place d inside))

-- the literal at the place is kept
pub keeps_kept : (clauses : List (List Lit)) (decided kept : List Lit) (place : ℕ) (d : Lit) → KeepsConflict clauses decided kept place → place < length decided → get_or decided place d ≡ d →
    LeavesOpen clauses (take place decided) d → (Conflicts clauses (kept ++ drop (place + 1) decided) → ⊥) → KeepsConflict clauses decided (kept ++ d ∷ []) (place + 1)
keeps_kept clauses decided kept place d h inside at leaves none = record {
  part = λ l stands. elim (Contains-push_cases kept d l stands) [
    | inl earlier ↦ take_longer place (place + 1) decided l (omega arith) (h.part l earlier)
    | inr same ↦ subst (λ (ys : List Lit). Contains ys l) (sym whole) (subst (Contains (take place decided ++ d ∷ [])) same (Contains-push (take place decided) d))
  ];
  apart = apart_open kept d h.apart ((λ stands. is_open.0 (h.part d stands)), (λ stands. is_open.1 (h.part (negation d) stands)));
  conflict = subst (Conflicts clauses) (sym (regroup kept decided place d inside at)) h.conflict;
  needed = λ i within again. elim (cases_lt i (length kept)) [
    | inl earlier ↦ h.needed i earlier (subst (Conflicts clauses)
        (ap (λ (ys : List Lit). ys ++ drop (place + 1) decided) (remove-append_left kept (d ∷ []) i earlier) ∙ regroup (remove kept i) decided place d inside at) again)
    | inr past ↦
        let last : i ≡ length kept = omega (arith, length-append kept (d ∷ [])) in
        none (subst (Conflicts clauses) (ap (λ (n : ℕ). remove (kept ++ d ∷ []) n ++ drop (place + 1) decided) last ∙ ap (λ (ys : List Lit). ys ++ drop (place + 1) decided) (remove_last kept d)) again)
  ];
} where
  is_open : IsOpen (take place decided) d
  is_open = open_among clauses (take place decided) d leaves

  whole : take (place + 1) decided ≡ take place decided ++ d ∷ []
  whole = take_more decided place d inside ∙ ap (λ (x : Lit). take place decided ++ x ∷ []) at

-- before the last of the decided literals there is no conflict
pub front_free : (inputs : ℕ) (clauses : List (List Lit)) (decided few : List Lit) (n : ℕ) → EndsInConflict inputs clauses decided → n < length decided →
    ((k : Lit) → Contains few k → Contains (take n decided) k) → Conflicts clauses few → ⊥
front_free inputs clauses decided few n h short within conflicts = h.no_conflict (conflicts_more clauses few h.rest (λ k stands. there k (within k stands)) conflicts) where
  there : (k : Lit) → Contains (take n decided) k → Contains h.rest k
  there k stands = take_within n h.rest k (subst (λ (ys : List Lit). Contains ys k)
      (ap (take n) h.parts ∙ take-append-le n h.rest (h.last ∷ []) (omega (arith, ap length h.parts, length-append h.rest (h.last ∷ [])))) stands)

-- what is kept leaves the next literal open
pub kept_leaves_open : (clauses : List (List Lit)) (decided kept : List Lit) (place : ℕ) (d : Lit) → KeepsConflict clauses decided kept place → LeavesOpen clauses (take place decided) d →
    LeavesOpen clauses kept d
kept_leaves_open clauses decided kept place d h leaves =
    ((λ sets. leaves.0 (sets_more clauses kept (take place decided) d h.part sets)), (λ sets. leaves.1 (sets_more clauses kept (take place decided) (negation d) h.part sets)))

-- and does not conflict with it, before the last
pub kept_free : (inputs : ℕ) (clauses : List (List Lit)) (decided kept : List Lit) (place : ℕ) (d : Lit) → EndsInConflict inputs clauses decided → KeepsConflict clauses decided kept place →
    place + 1 < length decided → get_or decided place d ≡ d → Conflicts clauses (kept ++ d ∷ []) → ⊥
kept_free inputs clauses decided kept place d ends h short at = front_free inputs clauses decided (kept ++ d ∷ []) (place + 1) ends short within where
  whole : take (place + 1) decided ≡ take place decided ++ d ∷ []
  whole = take_more decided place d (omega arith) ∙ ap (λ (x : Lit). take place decided ++ x ∷ []) at

  within : (k : Lit) → Contains (kept ++ d ∷ []) k → Contains (take (place + 1) decided) k
  within k stands = subst (λ (ys : List Lit). Contains ys k) (sym whole) (elim (Contains-push_cases kept d k stands) [
    | inl earlier ↦ Contains-append_left (take place decided) (d ∷ []) k (h.part k earlier)
    | inr same ↦ subst (Contains (take place decided ++ d ∷ [])) same (Contains-push (take place decided) d)
  ])

-- all but the last literal were tried
pub least_left : (inputs : ℕ) (clauses : List (List Lit)) (decided kept rest : List Lit) (l : Lit) (place : ℕ) → EndsInConflict inputs clauses decided → KeepsConflict clauses decided kept place →
    decided ≡ rest ++ l ∷ [] → place ≡ length rest → IsLeastConflict inputs clauses (kept ++ l ∷ [])
least_left inputs clauses decided kept rest l place ends h parts at = record {
  decides_inputs = All-push (λ k. IsInput inputs k.var) kept l
      (λ k d inside. input (get_or kept k d) (take_within place decided (get_or kept k d) (h.part (get_or kept k d) (Contains-get_or kept k d inside))))
      (input l (subst (λ (ds : List Lit). Contains ds l) (sym parts) (Contains-push rest l)));
  apart = apart_open kept l h.apart (open_among clauses kept l leaves);
  conflict = subst (λ (ls : List Lit). Conflicts clauses (kept ++ ls)) behind h.conflict;
  needed = λ i within again. elim (cases_lt i (length kept)) [
    | inl earlier ↦ h.needed i earlier (subst (Conflicts clauses) (remove-append_left kept (l ∷ []) i earlier ∙ ap (λ (ls : List Lit). remove kept i ++ ls) (sym behind)) again)
    | inr past ↦
        let last : i ≡ length kept = omega (arith, length-append kept (l ∷ [])) in
        front_free inputs clauses decided kept place ends inside h.part (subst (Conflicts clauses) (ap (λ (n : ℕ). remove (kept ++ l ∷ []) n) last ∙ remove_last kept l) again)
  ];
  last = (kept, l, refl, leaves);
} where
  inside : place < length decided
  inside = omega (arith, ap length parts, length-append rest (l ∷ []))

  behind : drop place decided ≡ l ∷ []
  behind = ap (drop place) parts ∙ drop_at rest (l ∷ []) place (sym at)

  there : get_or decided place l ≡ l
  there = ap (λ (ds : List Lit). get_or ds place l) parts ∙ get_or_push rest l l place (sym at)

  leaves : LeavesOpen clauses kept l
  leaves = kept_leaves_open clauses decided kept place l h (subst (LeavesOpen clauses (take place decided)) there (ends.open_inputs.opens place l inside))

  input : (k : Lit) → Contains decided k → IsInput inputs k.var
  input k stands = All-contains (λ m. IsInput inputs m.var) decided k ends.open_inputs.are_inputs stands

-- the conflict is not empty
pub conflict_has_last : (inputs : ℕ) (clauses : List (List Lit)) (decided : List Lit) → EndsInConflict inputs clauses decided → length decided ≡ 0 → ⊥
conflict_has_last inputs clauses decided h none = absurd (omega (arith, none, ap length h.parts, length-append h.rest (h.last ∷ [])))

-- nothing is kept yet, and nothing decided
pub reduced_none : (inputs : ℕ) (p : Propagation) (decided : List Lit) → IsReached inputs p [] → EndsInConflict inputs p.clauses decided → IsReduced p decided [] 0
reduced_none inputs p decided reached ends = record { decides = reached.decides; full = reached.full; keeps = keeps_none p.clauses decided ends.conflict }

-- the literal at the place is dropped, or decided
pub reduced_dropped : (p q : Propagation) (decided kept behind : List Lit) (place : ℕ) → q ≡ p → behind ≡ drop (place + 1) decided → IsReduced p decided kept place →
    Conflicts p.clauses (decisions p ++ behind) → IsReduced q decided kept (place + 1)
reduced_dropped p q decided kept behind place same is h conflicts = subst (λ (x : Propagation). IsReduced x decided kept (place + 1)) (sym same) (record {
  decides = h.decides;
  full = h.full;
  keeps = keeps_dropped p.clauses decided kept place h.keeps
      (subst (λ (ls : List Lit). Conflicts p.clauses (kept ++ ls)) is (subst (λ (ds : List Lit). Conflicts p.clauses (ds ++ behind)) h.decides conflicts));
})

opens_at : (inputs : ℕ) (p : Propagation) (decided : List Lit) (place : ℕ) (d : Lit) → EndsInConflict inputs p.clauses decided → place < length decided → get_or decided place d ≡ d →
    LeavesOpen p.clauses (take place decided) d
opens_at inputs p decided place d ends inside at = subst (LeavesOpen p.clauses (take place decided)) at (ends.open_inputs.opens place d inside)

pub reduced_kept : (inputs : ℕ) (p r : Propagation) (decided kept behind : List Lit) (place : ℕ) (d : Lit) → Extends p r → decisions r ≡ decisions p ++ d ∷ [] → IsFull r r →
    behind ≡ drop (place + 1) decided → EndsInConflict inputs p.clauses decided → place < length decided → get_or decided place d ≡ d → IsReduced p decided kept place →
    (Conflicts p.clauses (decisions p ++ behind) → ⊥) → IsReduced r decided (kept ++ d ∷ []) (place + 1)
reduced_kept inputs p r decided kept behind place d extends decides full is ends inside at h none = record {
  decides = decides ∙ ap (λ (ds : List Lit). ds ++ d ∷ []) h.decides;
  full = full;
  keeps = subst (λ (cs : List (List Lit)). KeepsConflict cs decided (kept ++ d ∷ []) (place + 1)) (sym extends.clauses)
      (keeps_kept p.clauses decided kept place d h.keeps inside at (opens_at inputs p decided place d ends inside at)
      (λ conflicts. none (subst (λ (ds : List Lit). Conflicts p.clauses (ds ++ behind)) (sym h.decides) (subst (λ (ls : List Lit). Conflicts p.clauses (kept ++ ls)) (sym is) conflicts))));
}

pub reduced_leaves : (inputs : ℕ) (p : Propagation) (decided kept : List Lit) (place : ℕ) (d : Lit) → EndsInConflict inputs p.clauses decided → place < length decided → get_or decided place d ≡ d →
    IsReduced p decided kept place → LeavesOpen p.clauses (decisions p) d
reduced_leaves inputs p decided kept place d ends inside at h = subst (λ (ds : List Lit). LeavesOpen p.clauses ds d) (sym h.decides)
    (kept_leaves_open p.clauses decided kept place d h.keeps (opens_at inputs p decided place d ends inside at))

pub reduced_free : (inputs : ℕ) (p : Propagation) (decided kept : List Lit) (place : ℕ) (d : Lit) → EndsInConflict inputs p.clauses decided → place + 1 < length decided → get_or decided place d ≡ d →
    IsReduced p decided kept place → Conflicts p.clauses (decisions p ++ d ∷ []) → ⊥
reduced_free inputs p decided kept place d ends inside at h conflicts =
    kept_free inputs p.clauses decided kept place d ends h.keeps inside at (subst (λ (ds : List Lit). Conflicts p.clauses (ds ++ d ∷ [])) h.decides conflicts)

-- what is tried is without a literal and its negation
pub reduced_consistent : (inputs : ℕ) (p : Propagation) (decided kept behind : List Lit) (place : ℕ) → EndsInConflict inputs p.clauses decided → behind ≡ drop (place + 1) decided →
    IsReduced p decided kept place → IsConsistent (decisions p ++ behind)
reduced_consistent inputs p decided kept behind place ends is h = subst (λ (ds : List Lit). IsConsistent (ds ++ behind)) (sym h.decides)
    (subst (λ (ls : List Lit). IsConsistent (kept ++ ls)) (sym is) (kept_consistent p.clauses decided kept place (place + 1) h.keeps ends.open_inputs.apart))

pub inputs_within : (inputs width : ℕ) (lits : List Lit) → inputs < width → All (λ l. IsInput inputs l.var) lits → All (λ l. l.var < width) lits
inputs_within inputs width lits below are = All-weaker (λ l. IsInput inputs l.var) (λ l. l.var < width) (λ l is. omega arith) lits are
