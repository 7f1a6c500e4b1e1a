-- Visiting the clauses that watch a falsified literal: at the start, past a clause, when a watch moves, and at the end.
use Rattle.std.proofs.Common.{◌≡◌, ◌⊎◌, ℕ, ◌+◌, ◌<◌, ◌≤◌, false, List, [], ◌∷◌, ◌++◌, length, get_or, take, drop, zero, suc, inl, inr, refl, ap, sym, ◌∙◌, subst, arith, add-one, drop-cons, length-append}
use Rattle.std.specs.Prelude.{Any, Contains}
use Rattle.std.proofs.Math.ListN.{set}
use Rattle.std.proofs.lemmas.Bool.{cases_eq, cases_Bool, both_ways}
use Rattle.std.proofs.lemmas.List.{get_or-set_same, get_or-set_other, get_or_default, get_or_append_left, length-set, take-append-le, take_more, take-take, drop_all, take-append-drop}
use Rattle.std.proofs.lemmas.List.Elements.{Contains-append_left, Contains-push_cases, Contains-push, All-contains}
use Rattle.cnf_core.specs.declared.formula.Lit.{Lit}
use Rattle.cnf_core.specs.Literal.{negation}
use Rattle.cnf_core.proofs.Literals.{negation_negation}
use Rattle.unit_propagation.specs.Units.{IsFalse}
use Rattle.unit_propagation.specs.declared.pair.Pair.{Pair}
use Rattle.unit_propagation.specs.Watching.{Watched, IsIndexed, IsOther, watches, pair_of, list_at}
use Rattle.unit_propagation.specs.Ready.{Ready, IsWatched, AllReady, KeepsReady, WatchMoved, IsDone, clause_at}
use Rattle.unit_propagation.proofs.PairLemmas.{watches_first, watches_second, other_differ}
use Rattle.unit_propagation.proofs.ListLemmas.{drop_swap_remove}

-- each clause is ready past the head, or ready before it and still ahead in the list
abbrev pub Visiting : List (List Lit) → List Pair → List (List ℕ) → List Lit → ℕ → Lit → ℕ → Type 0
Visiting clauses pairs lists trail head falsified place =
    (c : ℕ) (p : Pair) (clause : List Lit) → c < length pairs → IsWatched (get_or pairs c p) →
    Ready trail (take (head + 1) trail) (get_or pairs c p) (get_or clauses c clause) ⊎
    (Ready trail (take head trail) (get_or pairs c p) (get_or clauses c clause) × Contains (drop place (list_at lists falsified)) c)

pub any_grows : (trail more clause : List Lit) → Any (Contains trail) clause → Any (Contains (trail ++ more)) clause
any_grows trail more clause (k, x, inside, at, is) = (k, x, inside, at, Contains-append_left trail more x is)

pub ready_grows : (trail more past : List Lit) (p : Pair) (clause : List Lit) → Ready trail past p clause → Ready (trail ++ more) past p clause
ready_grows trail more past p clause (inl is) = inl (any_grows trail more clause is)
ready_grows trail more past p clause (inr free) = inr free

pub ready_fewer : (trail past fewer : List Lit) (p : Pair) (clause : List Lit) → ((x : Lit) → Contains fewer x → Contains past x) → Ready trail past p clause → Ready trail fewer p clause
ready_fewer trail past fewer p clause within (inl is) = inl is
ready_fewer trail past fewer p clause within (inr (a, b)) = inr ((λ h. a (within (negation p.first) h)), (λ h. b (within (negation p.second) h)))

pub take_within : (trail : List Lit) (n : ℕ) (x : Lit) → Contains (take n trail) x → Contains trail x
take_within trail n x h = subst (λ (t : List Lit). Contains t x) (take-append-drop n trail) (Contains-append_left (take n trail) (drop n trail) x h)

pub take_less : (trail : List Lit) (n m : ℕ) (x : Lit) → n ≤ m → Contains (take n trail) x → Contains (take m trail) x
take_less trail n m x few h = take_within (take m trail) n x (subst (λ (t : List Lit). Contains t x) (sym (take-take n m trail few)) h)

-- a literal that is falsified past the head was falsified before, or by the literal at the head
false_next : (trail : List Lit) (head : ℕ) (l x : Lit) → head < length trail → get_or trail head l ≡ l → IsFalse (take (head + 1) trail) x →
    IsFalse (take head trail) x ⊎ (x ≡ negation l)
false_next trail head l x inside at h = elim (Contains-push_cases (take head trail) (get_or trail head l) (negation x) (subst (λ (t : List Lit). Contains t (negation x)) (take_more trail head l inside) h)) [
  | inl before ↦ inl before
  | inr is ↦ inr (sym (negation_negation x) ∙ ap negation (sym is ∙ at))
]

falsified_next : (trail : List Lit) (head : ℕ) (l : Lit) → head < length trail → get_or trail head l ≡ l → IsFalse (take (head + 1) trail) (negation l)
falsified_next trail head l inside at = subst (λ (t : List Lit). Contains t (negation (negation l))) (sym (take_more trail head l inside))
    (subst (Contains (take head trail ++ get_or trail head l ∷ [])) (at ∙ sym (negation_negation l)) (Contains-push (take head trail) (get_or trail head l)))

-- a clause that does not watch the falsified literal is ready past the head
ready_next : (trail : List Lit) (head : ℕ) (l : Lit) (p : Pair) (clause : List Lit) → head < length trail → get_or trail head l ≡ l →
    watches p (negation l) ≡ false → IsWatched p → Ready trail (take head trail) p clause → Ready trail (take (head + 1) trail) p clause
ready_next trail head l p clause inside at apart differ (inl is) = inl is
ready_next trail head l p clause inside at apart differ (inr (a, b)) = inr (
  (λ h. elim (false_next trail head l p.first inside at h) [ inl before ↦ a before | inr is ↦ both_ways (watches p (negation l)) apart (watches_first p (negation l) differ is) ]),
  (λ h. elim (false_next trail head l p.second inside at h) [ inl before ↦ b before | inr is ↦ both_ways (watches p (negation l)) apart (watches_second p (negation l) differ is) ]),
)

pub visiting_start : (w : Watched) (trail : List Lit) (head : ℕ) (l : Lit) → IsIndexed w.width w.clauses w.pairs w.lists → head < length trail → get_or trail head l ≡ l →
    AllReady w.clauses w.pairs trail (take head trail) → Visiting w.clauses w.pairs w.lists trail head (negation l) 0
visiting_start w trail head l h inside at ready c p clause within differ = elim (cases_Bool (watches (get_or w.pairs c p) (negation l))) [
  | inl is ↦ inr (ready c p clause within differ, h.listed c p within (negation l) is)
  | inr apart ↦ inl (ready_next trail head l (get_or w.pairs c p) (get_or w.clauses c clause) inside at apart differ (ready c p clause within differ))
]

-- all clauses are ready past the head where no list is needed
pub visiting_none : (w : Watched) (trail : List Lit) (head : ℕ) (l : Lit) → IsIndexed w.width w.clauses w.pairs w.lists → head < length trail → get_or trail head l ≡ l →
    w.width ≤ l.var → AllReady w.clauses w.pairs trail (take head trail) → AllReady w.clauses w.pairs trail (take (head + 1) trail)
visiting_none w trail head l h inside at past ready c p clause within differ = elim (cases_Bool (watches (get_or w.pairs c p) (negation l))) [
  | inl is ↦
      let size = h.paired in
      let stands : Contains (get_or w.clauses c clause) (negation l) = h.stands c p clause within (negation l) is in
      let below : (negation l).var < w.width = All-contains (λ k. k.var < w.width) (get_or w.clauses c clause) (negation l) (h.within c clause (omega arith)) stands in
      absurd (omega arith)
  | inr apart ↦ ready_next trail head l (get_or w.pairs c p) (get_or w.clauses c clause) inside at apart differ (ready c p clause within differ)
]

take_same : (trail more : List Lit) (n : ℕ) → n ≤ length trail → take n (trail ++ more) ≡ take n trail
take_same trail more n inside = take-append-le n trail more inside

-- a clause is passed that does not watch the literal, or has a true literal
pub visiting_kept : (w : Watched) (trail more : List Lit) (head : ℕ) (l : Lit) (place : ℕ) → head < length trail → get_or trail head l ≡ l →
    place < length (list_at w.lists (negation l)) →
    IsDone w (trail ++ more) (negation l) (clause_at w (negation l) place) →
    Visiting w.clauses w.pairs w.lists trail head (negation l) place → Visiting w.clauses w.pairs w.lists (trail ++ more) head (negation l) (place + 1)
visiting_kept w trail more head l place inside at here done visiting c p clause within differ = elim (visiting c p clause within differ) [
  | inl ready ↦ inl (subst (λ (past : List Lit). Ready (trail ++ more) past (get_or w.pairs c p) (get_or w.clauses c clause)) (sym (take_same trail more (head + 1) (omega arith)))
      (ready_grows trail more (take (head + 1) trail) (get_or w.pairs c p) (get_or w.clauses c clause) ready))
  | inr (ready, ahead) ↦ step (grown ready) (first ahead)
] where
  list : List ℕ
  list = list_at w.lists (negation l)

  grown : Ready trail (take head trail) (get_or w.pairs c p) (get_or w.clauses c clause) → Ready (trail ++ more) (take head (trail ++ more)) (get_or w.pairs c p) (get_or w.clauses c clause)
  grown ready = subst (λ (past : List Lit). Ready (trail ++ more) past (get_or w.pairs c p) (get_or w.clauses c clause)) (sym (take_same trail more head (omega arith)))
      (ready_grows trail more (take head trail) (get_or w.pairs c p) (get_or w.clauses c clause) ready)

  first : Contains (drop place list) c → (clause_at w (negation l) place ≡ c) ⊎ Contains (drop (place + 1) list) c
  first ahead = split (drop (place + 1) list) (subst (λ (cs : List ℕ). Contains cs c) opened ahead) where
    opened : drop place list ≡ get_or list place 0 ∷ drop (place + 1) list
    opened = rw add-one (drop-cons list place 0 here)

    split : (ys : List ℕ) → Contains (get_or list place 0 ∷ ys) c → (get_or list place 0 ≡ c) ⊎ Contains ys c
    split ys (zero, below, is) = inl is
    split ys (suc i, below, is) = inr (i, omega arith, is)

  at_more : get_or (trail ++ more) head l ≡ l
  at_more = get_or_append_left trail more l head inside ∙ at

  step : Ready (trail ++ more) (take head (trail ++ more)) (get_or w.pairs c p) (get_or w.clauses c clause) → (clause_at w (negation l) place ≡ c) ⊎ Contains (drop (place + 1) list) c →
      Ready (trail ++ more) (take (head + 1) (trail ++ more)) (get_or w.pairs c p) (get_or w.clauses c clause) ⊎
      (Ready (trail ++ more) (take head (trail ++ more)) (get_or w.pairs c p) (get_or w.clauses c clause) × Contains (drop (place + 1) list) c)
  step ready (inr later) = inr (ready, later)
  step ready (inl same) = elim done [
    | inl apart ↦ inl (ready_next (trail ++ more) head l (get_or w.pairs c p) (get_or w.clauses c clause) (omega (arith, length-append trail more)) at_more
        (subst (λ (k : ℕ). watches (get_or w.pairs k p) (negation l) ≡ false) same (apart p)) differ ready)
    | inr is ↦ inl (inl (subst (λ (k : ℕ). Any (Contains (trail ++ more)) (get_or w.clauses k clause)) same (is clause)))
  ]

-- a watch moves to a literal that is not false
pub visiting_moved : (w new : Watched) (trail : List Lit) (head : ℕ) (l : Lit) (place : ℕ) → head < length trail → get_or trail head l ≡ l →
    place < length (list_at w.lists (negation l)) → clause_at w (negation l) place < length w.pairs → WatchMoved w new trail (negation l) place →
    Visiting w.clauses w.pairs w.lists trail head (negation l) place → Visiting w.clauses new.pairs new.lists trail head (negation l) place
visiting_moved w new trail head l place inside at here exists moved visiting = subst (λ (ps : List Pair). Visiting w.clauses ps new.lists trail head (negation l) place) (sym moved.pairs) all where
  c : ℕ
  c = clause_at w (negation l) place

  q : Pair
  q = pair_of moved.other moved.to

  free : (clause : List Lit) → Ready trail (take (head + 1) trail) q (get_or w.clauses c clause)
  free clause = elim (visiting c q clause exists (other_differ (get_or w.pairs c q) (negation l) moved.other (moved.pair q))) [
    | inl (inl is) ↦ inl is
    | inl (inr (a, b)) ↦ absurd (elim (moved.pair q).1 [
      | inl (first, second) ↦ a (subst (λ (x : Lit). IsFalse (take (head + 1) trail) x) (sym first) (falsified_next trail head l inside at))
      | inr (first, second) ↦ b (subst (λ (x : Lit). IsFalse (take (head + 1) trail) x) (sym second) (falsified_next trail head l inside at))
    ])
    | inr (inl is, ahead) ↦ inl is
    | inr (inr (a, b), ahead) ↦ inr (
      (λ h. elim (false_next trail head l moved.other inside at h) [
        | inl before ↦ elim (moved.pair q).1 [
          | inl (first, second) ↦ b (subst (λ (x : Lit). IsFalse (take head trail) x) (sym second) before)
          | inr (first, second) ↦ a (subst (λ (x : Lit). IsFalse (take head trail) x) (sym first) before)
        ]
        | inr is ↦ (moved.pair q).0 is
      ]),
      (λ h. moved.not_false (take_within trail (head + 1) (negation moved.to) h)),
    )
  ]

  all : Visiting w.clauses (set w.pairs c q) new.lists trail head (negation l) place
  all k p clause within differ = elim (cases_eq k c) [
    | inl same ↦ inl (subst (λ (pair : Pair). Ready trail (take (head + 1) trail) pair (get_or w.clauses k clause)) (sym (ap (λ (i : ℕ). get_or (set w.pairs c q) i p) same ∙ get_or-set_same w.pairs c q p exists))
        (subst (λ (i : ℕ). Ready trail (take (head + 1) trail) q (get_or w.clauses i clause)) (sym same) (free clause)))
    | inr differs ↦
        let size = length-set w.pairs c q in
        let pair_is = get_or-set_other w.pairs c k q p differs in
        elim (visiting k p clause (omega arith) (subst IsWatched pair_is differ)) [
          | inl ready ↦ inl (subst (λ (pair : Pair). Ready trail (take (head + 1) trail) pair (get_or w.clauses k clause)) (sym pair_is) ready)
          | inr (ready, ahead) ↦ inr (
            subst (λ (pair : Pair). Ready trail (take head trail) pair (get_or w.clauses k clause)) (sym pair_is) ready,
            subst (λ (cs : List ℕ). Contains (drop place cs) k) (sym moved.list)
                (drop_swap_remove (list_at w.lists (negation l)) place c k here (get_or_default (list_at w.lists (negation l)) place c 0 here) ahead differs),
          )
        ]
  ]

pub visiting_end : (clauses : List (List Lit)) (pairs : List Pair) (lists : List (List ℕ)) (trail : List Lit) (head : ℕ) (falsified : Lit) (place : ℕ) →
    length (list_at lists falsified) ≤ place → Visiting clauses pairs lists trail head falsified place → AllReady clauses pairs trail (take (head + 1) trail)
visiting_end clauses pairs lists trail head falsified place past visiting c p clause within differ = elim (visiting c p clause within differ) [
  | inl ready ↦ ready
  | inr (ready, ahead) ↦ absurd (none (subst (λ (cs : List ℕ). Contains cs c) (drop_all place (list_at lists falsified) past) ahead))
] where
  none : Contains [] c → ⊥
  none (k, inside, at) = absurd (omega arith)

pub visiting_stop : (clauses : List (List Lit)) (pairs : List Pair) (lists : List (List ℕ)) (trail : List Lit) (head : ℕ) (falsified : Lit) (place : ℕ) →
    head < length trail → Visiting clauses pairs lists trail head falsified place → AllReady clauses pairs trail (take head trail)
visiting_stop clauses pairs lists trail head falsified place inside visiting c p clause within differ = elim (visiting c p clause within differ) [
  | inl ready ↦ ready_fewer trail (take (head + 1) trail) (take head trail) (get_or pairs c p) (get_or clauses c clause) (λ x h. more x h) ready
  | inr (ready, ahead) ↦ ready
] where
  more : (x : Lit) → Contains (take head trail) x → Contains (take (head + 1) trail) x
  more x h = subst (λ (t : List Lit). Contains t x) (sym (take_more trail head x inside)) (Contains-append_left (take head trail) (get_or trail head x ∷ []) x h)

pub keeps_none : (clauses : List (List Lit)) (pairs : List Pair) (trail : List Lit) → KeepsReady clauses pairs pairs trail
keeps_none clauses pairs trail = record { size = refl; ready = λ part within h. h; pairs = λ c p inside same. same }

pub keeps_then : (clauses : List (List Lit)) (old mid new : List Pair) (trail more : List Lit) → KeepsReady clauses old mid trail → KeepsReady clauses mid new (trail ++ more) → KeepsReady clauses old new trail
keeps_then clauses old mid new trail more first then = record {
  size = then.size ∙ first.size;
  ready = λ part within h. then.ready part (λ x stands. Contains-append_left trail more x (within x stands)) (first.ready part within h);
  pairs = λ c p inside same. first.pairs c p (let size = then.size in omega arith) (then.pairs c p inside same);
}

pub keeps_moved : (w new : Watched) (trail : List Lit) (from : Lit) (place : ℕ) → clause_at w from place < length w.pairs → WatchMoved w new trail from place → KeepsReady w.clauses w.pairs new.pairs trail
keeps_moved w new trail from place exists moved = subst (λ (ps : List Pair). KeepsReady w.clauses w.pairs ps trail) (sym moved.pairs) (record { size = longer; ready = ready; pairs = pairs }) where
  c : ℕ
  c = clause_at w from place

  q : Pair
  q = pair_of moved.other moved.to

  longer : length (set w.pairs c q) ≡ length w.pairs
  longer = length-set w.pairs c q

  here : (k : ℕ) (p : Pair) → k ≡ c → get_or (set w.pairs c q) k p ≡ q
  here k p same = ap (λ (i : ℕ). get_or (set w.pairs c q) i p) same ∙ get_or-set_same w.pairs c q p exists

  ready : (part : List Lit) → ((x : Lit) → Contains part x → Contains trail x) → AllReady w.clauses w.pairs part part → AllReady w.clauses (set w.pairs c q) part part
  ready part within h k p clause inside differ = elim (cases_eq k c) [
    | inl same ↦ subst (λ (pair : Pair). Ready part part pair (get_or w.clauses k clause)) (sym (here k p same)) (free same (h k q clause (omega (arith, longer)) (watched same)))
    | inr differs ↦ subst (λ (pair : Pair). Ready part part pair (get_or w.clauses k clause)) (sym (get_or-set_other w.pairs c k q p differs))
        (h k p clause (omega (arith, longer)) (subst IsWatched (get_or-set_other w.pairs c k q p differs) differ))
  ] where
    watched : k ≡ c → IsWatched (get_or w.pairs k q)
    watched same = subst (λ (i : ℕ). IsWatched (get_or w.pairs i q)) (sym same) (other_differ (get_or w.pairs c q) from moved.other (moved.pair q))

    free : k ≡ c → Ready part part (get_or w.pairs k q) (get_or w.clauses k clause) → Ready part part q (get_or w.clauses k clause)
    free same (inl is) = inl is
    free same (inr (a, b)) = inr (
      (λ h. elim (subst (λ (i : ℕ). IsOther (get_or w.pairs i q) from moved.other) (sym same) (moved.pair q)).1 [
        | inl (first, second) ↦ b (subst (IsFalse part) (sym second) h)
        | inr (first, second) ↦ a (subst (IsFalse part) (sym first) h)
      ]),
      (λ h. moved.not_false (within (negation moved.to) h)),
    )

  pairs : (k : ℕ) (p : Pair) → k < length (set w.pairs c q) → (get_or (set w.pairs c q) k p).first ≡ (get_or (set w.pairs c q) k p).second → (get_or w.pairs k p).first ≡ (get_or w.pairs k p).second
  pairs k p inside same_pair = elim (cases_eq k c) [
    | inl same ↦ absurd (moved.not_other (sym (subst (λ (pair : Pair). pair.first ≡ pair.second) (here k p same) same_pair)))
    | inr differs ↦ subst (λ (pair : Pair). pair.first ≡ pair.second) (get_or-set_other w.pairs c k q p differs) same_pair
  ]
