-- The state of a propagator: when propagation goes on, when a literal is decided or undone, and with one clause more.
use Rattle.std.proofs.Common.{◌≡◌, ℕ, ◌+◌, ◌-◌, ◌<◌, ◌≤◌, true, false, Option, Some, None, List, [], ◌∷◌, ◌++◌, length, get_or, take, min, inl, inr, refl, ap, sym, ◌∙◌, subst, arith, length-append}
use Rattle.std.specs.Prelude.{Any, Contains}
use Rattle.std.proofs.lemmas.Bool.{cases_lt, both_ways}
use Rattle.std.proofs.lemmas.List.{get_or_append_left, get_or-append_right, get_or_push, get_or-take, length-map, length_push, length-take-le, map-append, take-map, take-append-le, take-take, take_all}
use Rattle.std.proofs.lemmas.List.Elements.{All-push, All-contains, All-weaker, Contains-append_left, Contains-push}
use Rattle.std.proofs.lemmas.Option.{slice_get-get_or, get_or_from_slice_get, slice_get_within}
use Rattle.cnf_core.specs.declared.formula.Lit.{Lit}
use Rattle.cnf_core.specs.Literal.{negation}
use Rattle.unit_propagation.specs.Units.{IsUnit}
use Rattle.unit_propagation.specs.declared.pair.Pair.{Pair}
use Rattle.unit_propagation.specs.declared.assignment.Cause.{Cause}
use Rattle.unit_propagation.specs.Trail.{IsJustified, Implies, Explains, EndsUpTo, reasons_of}
use Rattle.unit_propagation.specs.Ready.{Ready, IsWatched, AreFree, AllReady, LooseAreTrue, KeepsReady, EndsReady}
use Rattle.unit_propagation.specs.Loose.{AreTrue, IsLoose, IsOne, ListsLoose, AreLoose, NotesLoose}
use Rattle.unit_propagation.specs.Propagation.{Propagation, Continues, IsEnd}
use Rattle.unit_propagation.specs.PropagatorFields.{IsState}
use Rattle.unit_propagation.proofs.TrailLemmas.{justified_push}
use Rattle.unit_propagation.proofs.ReadyLemmas.{ready_grows, ready_fewer, take_within, take_less, keeps_none}

pub all_ready_grows : (clauses : List (List Lit)) (pairs : List Pair) (trail more past : List Lit) → AllReady clauses pairs trail past → AllReady clauses pairs (trail ++ more) past
all_ready_grows clauses pairs trail more past h c p clause inside differ = ready_grows trail more past (get_or pairs c p) (get_or clauses c clause) (h c p clause inside differ)

pub all_ready_fewer : (clauses : List (List Lit)) (pairs : List Pair) (trail past fewer : List Lit) → ((x : Lit) → Contains fewer x → Contains past x) → AllReady clauses pairs trail past → AllReady clauses pairs trail fewer
all_ready_fewer clauses pairs trail past fewer within h c p clause inside differ = ready_fewer trail past fewer (get_or pairs c p) (get_or clauses c clause) within (h c p clause inside differ)

-- literals that follow are set, and watches moved
pub state_continues : (clauses : List (List Lit)) (pairs new_pairs : List Pair) (trail new : List Lit) (causes new_causes : List Cause) (head new_head : ℕ) (loose : List ℕ) →
    IsState clauses pairs trail causes head loose → Implies clauses trail causes new new_causes → KeepsReady clauses pairs new_pairs trail →
    ListsLoose new_pairs loose → AllReady clauses new_pairs new (take new_head new) → new_head ≤ length new → IsState clauses new_pairs new new_causes new_head loose
state_continues clauses pairs new_pairs trail new causes new_causes head new_head loose s implies keeps listed ready inside = record {
  head_within = inside;
  sized = implies.sized s.sized;
  paired = keeps.size ∙ s.paired;
  ready = ready;
  ends = ends;
  justified = implies.justified s.sized s.justified;
  listed = listed;
  are_loose = s.are_loose;
} where
  ends : EndsReady clauses new_pairs new new_causes
  ends n c below is = elim (cases_lt n (length causes)) [
    | inl before ↦
        let size = s.sized in
        let same : get_or new_causes n c ≡ get_or causes n c = ap (λ (cs : List Cause). get_or cs n c) implies.causes ∙ get_or_append_left causes implies.more_causes c n before in
        let part : take n new ≡ take n trail = ap (take n) implies.trail ∙ take-append-le n trail implies.more (omega arith) in
        subst (λ (t : List Lit). AllReady clauses new_pairs t t) (sym part)
        (keeps.ready (take n trail) (take_within trail n) (s.ends n c before (ap (λ (k : Cause). k.ended) (sym same) ∙ is)))
    | inr past ↦
        let size = ap length implies.causes ∙ length-append causes implies.more_causes in
        let at : get_or new_causes n c ≡ get_or implies.more_causes (n - length causes) c =
        ap (λ (cs : List Cause). get_or cs n c) implies.causes ∙ get_or-append_right causes implies.more_causes (length causes) n c refl past in
        absurd (both_ways (get_or new_causes n c).ended (ap (λ (k : Cause). k.ended) at ∙ implies.not_ended (n - length causes) c (omega arith)) is)
  ]

-- one more literal is decided
pub state_decides : (clauses : List (List Lit)) (pairs : List Pair) (trail : List Lit) (causes : List Cause) (head : ℕ) (loose : List ℕ) (l : Lit) (cause : Cause) →
    IsState clauses pairs trail causes head loose → cause.reason ≡ None → (cause.ended ≡ true → head ≡ length trail) →
    IsState clauses pairs (trail ++ l ∷ []) (causes ++ cause ∷ []) head loose
state_decides clauses pairs trail causes head loose l cause s no_reason at_end = record {
  head_within = let inside = s.head_within in omega (arith, length-append trail (l ∷ []));
  sized = length_push causes cause ∙ ap (λ (n : ℕ). n + 1) s.sized ∙ sym (length_push trail l);
  paired = s.paired;
  ready = subst (AllReady clauses pairs (trail ++ l ∷ [])) (sym (take-append-le head trail (l ∷ []) s.head_within))
      (all_ready_grows clauses pairs trail (l ∷ []) (take head trail) s.ready);
  ends = ends;
  justified = subst (IsJustified clauses (trail ++ l ∷ [])) (sym (map-append (λ (k : Cause). k.reason) causes (cause ∷ [])))
      (justified_push clauses trail (reasons_of causes) l cause.reason (length-map causes (λ (k : Cause). k.reason) ∙ s.sized) s.justified
      (λ c is. absurd (not_some c (sym no_reason ∙ is))));
  listed = s.listed;
  are_loose = s.are_loose;
} where
  not_some : (c : ℕ) → None ≡ Some c → ⊥
  not_some c e = cc

  ends : EndsReady clauses pairs (trail ++ l ∷ []) (causes ++ cause ∷ [])
  ends n c below is = elim (cases_lt n (length causes)) [
    | inl before ↦
        let size = s.sized in
        subst (λ (t : List Lit). AllReady clauses pairs t t) (sym (take-append-le n trail (l ∷ []) (omega arith)))
        (s.ends n c before (ap (λ (k : Cause). k.ended) (sym (get_or_append_left causes (cause ∷ []) c n before)) ∙ is))
    | inr past ↦
        let size = s.sized in
        let at : n ≡ length causes = omega (arith, length-append causes (cause ∷ [])) in
        let head_is = at_end (ap (λ (k : Cause). k.ended) (sym (get_or_push causes cause c n (sym at))) ∙ is) in
        let part : take n (trail ++ l ∷ []) ≡ trail = take-append-le n trail (l ∷ []) (omega arith) ∙ take_all n trail (omega arith) in
        let whole : take head trail ≡ trail = take_all head trail (omega arith) in
        subst (λ (t : List Lit). AllReady clauses pairs t t) (sym part) (subst (AllReady clauses pairs trail) whole s.ready)
  ]

-- what was set from a place on is taken back
pub state_undone : (clauses : List (List Lit)) (pairs : List Pair) (trail : List Lit) (causes : List Cause) (head place end : ℕ) (loose : List ℕ) →
    IsState clauses pairs trail causes head loose → place < length trail → IsEnd causes place end →
    IsState clauses pairs (take place trail) (take place causes) end loose
state_undone clauses pairs trail causes head place end loose s inside is_end = record {
  head_within = let size = length-take-le place trail (omega arith) in let below = is_end.0 in omega arith;
  sized = length-take-le place causes (let size = s.sized in omega arith) ∙ sym (length-take-le place trail (omega arith));
  paired = s.paired;
  ready = ready;
  ends = ends;
  justified = justified;
  listed = s.listed;
  are_loose = s.are_loose;
} where
  ready_at : AllReady clauses pairs (take end trail) (take end trail) → AllReady clauses pairs (take place trail) (take end (take place trail))
  ready_at h c p clause within differ = subst (λ (past : List Lit). Ready (take place trail) past (get_or pairs c p) (get_or clauses c clause)) (sym (take-take end place trail is_end.0)) (widen (h c p clause within differ)) where
    widen : Ready (take end trail) (take end trail) (get_or pairs c p) (get_or clauses c clause) → Ready (take place trail) (take end trail) (get_or pairs c p) (get_or clauses c clause)
    widen (inr free) = inr free
    widen (inl (k, x, below, at, is)) = inl (k, x, below, at, take_within (take place trail) end x (subst (λ (t : List Lit). Contains t x) (sym (take-take end place trail is_end.0)) is))

  none_falsified : end ≡ 0 → AllReady clauses pairs (take place trail) (take end (take place trail))
  none_falsified zero_end c p clause within differ = inr (
    (λ h. nothing (negation (get_or pairs c p).first) (subst (λ (n : ℕ). Contains (take n (take place trail)) (negation (get_or pairs c p).first)) zero_end h)),
    (λ h. nothing (negation (get_or pairs c p).second) (subst (λ (n : ℕ). Contains (take n (take place trail)) (negation (get_or pairs c p).second)) zero_end h)),
  ) where
    nothing : (l : Lit) → Contains [] l → ⊥
    nothing l (k, below, at) = absurd (omega arith)

  ready : AllReady clauses pairs (take place trail) (take end (take place trail))
  ready = elim is_end.1 [
    | inl zero_end ↦ none_falsified zero_end
    | inr ended ↦ ready_at (let size = s.sized in let below = is_end.0 in s.ends end no_cause (omega arith) (ended no_cause))
  ] where
    no_cause : Cause
    no_cause = record { reason = None; ended = false }

  ends : EndsReady clauses pairs (take place trail) (take place causes)
  ends n c below is =
      let size = s.sized in
      let few = length-take-le place causes (omega arith) in
      subst (λ (t : List Lit). AllReady clauses pairs t t) (sym (take-take n place trail (omega arith)))
      (s.ends n c (omega arith) (ap (λ (k : Cause). k.ended) (sym (get_or-take place causes n c (omega arith))) ∙ is))

  justified : IsJustified clauses (take place trail) (reasons_of (take place causes))
  justified k c d below is =
      let few = length-take-le place trail (omega arith) in
      let reasons : reasons_of (take place causes) ≡ take place (reasons_of causes) = sym (take-map (λ (x : Cause). x.reason) place causes) in
      let there = s.justified k c d (omega arith) (sym (ap (λ (rs : List (Option ℕ)). get_or rs k None) reasons ∙ get_or-take place (reasons_of causes) k None (omega arith)) ∙ is) in
      subst (λ (x : Lit). Explains clauses (take place trail) k c x) (sym (get_or-take place trail k d (omega arith)))
      (widen there (omega arith)) where
        widen : Explains clauses trail k c (get_or trail k d) → k ≤ place → Explains clauses (take place trail) k c (get_or trail k d)
        widen (clause, at, unit) less = (clause, at, subst (λ (t : List Lit). IsUnit t clause (get_or trail k d)) (sym (take-take k place trail less)) unit)

-- one clause more, whose watched literals are ready for the literals before the head
pub state_more : (clauses : List (List Lit)) (clause : List Lit) (pairs : List Pair) (p : Pair) (trail : List Lit) (causes new_causes : List Cause) (head new_head : ℕ) (loose new_loose : List ℕ) →
    IsState clauses pairs trail causes head loose → (p.first ≡ p.second → IsOne clause) → NotesLoose p (length clauses) loose new_loose →
    reasons_of new_causes ≡ reasons_of causes → new_head ≤ head → AllReady clauses pairs trail (take new_head trail) → (IsWatched p → Ready trail (take new_head trail) p clause) →
    ((n : ℕ) (c : Cause) → n < length new_causes → (get_or new_causes n c).ended ≡ true → AllReady clauses pairs (take n trail) (take n trail) × (IsWatched p → Ready (take n trail) (take n trail) p clause)) →
    IsState (clauses ++ clause ∷ []) (pairs ++ p ∷ []) trail new_causes new_head new_loose
state_more clauses clause pairs p trail causes new_causes head new_head loose new_loose s one notes reasons fewer ready new_ready ends = record {
  head_within = let inside = s.head_within in omega arith;
  sized = sym (length-map new_causes (λ (k : Cause). k.reason)) ∙ ap length reasons ∙ length-map causes (λ (k : Cause). k.reason) ∙ s.sized;
  paired = length_push pairs p ∙ ap (λ (n : ℕ). n + 1) s.paired ∙ sym (length_push clauses clause);
  ready = add trail (take new_head trail) ready new_ready;
  ends = λ n c below is. let both = ends n c below is in add (take n trail) (take n trail) both.0 both.1;
  justified = justified;
  listed = listed;
  are_loose = are_loose;
} where
  add : (t past : List Lit) → AllReady clauses pairs t past → (IsWatched p → Ready t past p clause) → AllReady (clauses ++ clause ∷ []) (pairs ++ p ∷ []) t past
  add t past h here c d e inside differ = elim (cases_lt c (length pairs)) [
    | inl before ↦
        let same = s.paired in
        subst (λ (q : Pair). Ready t past q (get_or (clauses ++ clause ∷ []) c e)) (sym (get_or_append_left pairs (p ∷ []) d c before))
        (subst (Ready t past (get_or pairs c d)) (sym (get_or_append_left clauses (clause ∷ []) e c (omega arith)))
        (h c d e before (subst IsWatched (get_or_append_left pairs (p ∷ []) d c before) differ)))
    | inr past_end ↦
        let at : c ≡ length pairs = omega (arith, length-append pairs (p ∷ [])) in
        subst (λ (q : Pair). Ready t past q (get_or (clauses ++ clause ∷ []) c e)) (sym (get_or_push pairs p d c (sym at)))
        (subst (Ready t past p) (sym (get_or_push clauses clause e c (sym (at ∙ s.paired)))) (here (subst IsWatched (get_or_push pairs p d c (sym at)) differ)))
  ]

  justified : IsJustified (clauses ++ clause ∷ []) trail (reasons_of new_causes)
  justified k c d below is = widen (s.justified k c d below (ap (λ (rs : List (Option ℕ)). get_or rs k None) (sym reasons) ∙ is)) where
    widen : Explains clauses trail k c (get_or trail k d) → Explains (clauses ++ clause ∷ []) trail k c (get_or trail k d)
    widen (e, at, unit) =
        let inside = slice_get_within clauses c e at in (
          e,
          slice_get-get_or (clauses ++ clause ∷ []) c e (omega (arith, length-append clauses (clause ∷ [])))
              ∙ ap (λ (x : List Lit). Some x) (get_or_append_left clauses (clause ∷ []) e c inside ∙ get_or_from_slice_get clauses c e e at),
          unit,
        )

  listed : ListsLoose (pairs ++ p ∷ []) new_loose
  listed c d inside same = elim (cases_lt c (length pairs)) [
    | inl before ↦ keeps (s.listed c d before (subst (λ (q : Pair). q.first ≡ q.second) (get_or_append_left pairs (p ∷ []) d c before) same))
    | inr past ↦
        let at : c ≡ length pairs = omega (arith, length-append pairs (p ∷ [])) in
        new_one (at ∙ s.paired) (subst (λ (q : Pair). q.first ≡ q.second) (get_or_push pairs p d c (sym at)) same)
  ] where
    keeps : Contains loose c → Contains new_loose c
    keeps h = elim notes [
      | inl (_, is) ↦ subst (λ (cs : List ℕ). Contains cs c) (sym is) (Contains-append_left loose (length clauses ∷ []) c h)
      | inr (_, is) ↦ subst (λ (cs : List ℕ). Contains cs c) (sym is) h
    ]

    new_one : c ≡ length clauses → p.first ≡ p.second → Contains new_loose c
    new_one at loose_pair = elim notes [
      | inl (_, is) ↦ subst (λ (cs : List ℕ). Contains cs c) (sym is) (subst (Contains (loose ++ length clauses ∷ [])) (sym at) (Contains-push loose (length clauses)))
      | inr (differ, _) ↦ absurd (differ loose_pair)
    ]

  before_loose : (c : ℕ) → IsLoose clauses c → IsLoose (clauses ++ clause ∷ []) c
  before_loose c (inside, is) = (
    omega (arith, length-append clauses (clause ∷ [])),
    λ e. subst IsOne (sym (get_or_append_left clauses (clause ∷ []) e c inside)) (is e),
  )

  are_loose : AreLoose (clauses ++ clause ∷ []) new_loose
  are_loose =
      let old = All-weaker (IsLoose clauses) (IsLoose (clauses ++ clause ∷ [])) before_loose loose s.are_loose in
      elim notes [
        | inl (same, is) ↦ subst (AreLoose (clauses ++ clause ∷ [])) (sym is)
            (All-push (IsLoose (clauses ++ clause ∷ [])) loose (length clauses) old (
              omega (arith, length-append clauses (clause ∷ [])),
              λ e. subst IsOne (sym (get_or_push clauses clause e (length clauses) refl)) (one same),
            ))
        | inr (_, is) ↦ subst (AreLoose (clauses ++ clause ∷ [])) (sym is) old
      ]

-- the same trail under another name
pub state_is : (clauses : List (List Lit)) (pairs : List Pair) (trail new : List Lit) (causes new_causes : List Cause) (head : ℕ) (loose : List ℕ) →
    trail ≡ new → causes ≡ new_causes → IsState clauses pairs trail causes head loose → IsState clauses pairs new new_causes head loose
state_is clauses pairs trail new causes new_causes head loose same same_causes s =
    subst (λ (t : List Lit). IsState clauses pairs t new_causes head loose) same (subst (λ (cs : List Cause). IsState clauses pairs trail cs head loose) same_causes s)

-- the same clauses under another name
pub state_grows : (clauses new : List (List Lit)) (pairs new_pairs : List Pair) (trail : List Lit) (causes : List Cause) (head : ℕ) (loose : List ℕ) →
    clauses ≡ new → pairs ≡ new_pairs → IsState clauses pairs trail causes head loose → IsState new new_pairs trail causes head loose
state_grows clauses new pairs new_pairs trail causes head loose same same_pairs s =
    subst (λ (cs : List (List Lit)). IsState cs new_pairs trail causes head loose) same (subst (λ (ps : List Pair). IsState clauses ps trail causes head loose) same_pairs s)

-- literals that follow are set, and no watch moves
pub state_set : (clauses : List (List Lit)) (pairs : List Pair) (trail new : List Lit) (causes new_causes : List Cause) (head : ℕ) (loose : List ℕ) →
    IsState clauses pairs trail causes head loose → Implies clauses trail causes new new_causes → IsState clauses pairs new new_causes head loose
state_set clauses pairs trail new causes new_causes head loose s implies =
    state_continues clauses pairs pairs trail new causes new_causes head head loose s implies (keeps_none clauses pairs trail) s.listed ready inside where
      inside : head ≤ length new
      inside = let size = ap length implies.trail ∙ length-append trail implies.more in let before = s.head_within in omega arith

      ready : AllReady clauses pairs new (take head new)
      ready = subst (λ (t : List Lit). AllReady clauses pairs t (take head t)) (sym implies.trail)
          (subst (AllReady clauses pairs (trail ++ implies.more)) (sym (take-append-le head trail implies.more s.head_within))
          (all_ready_grows clauses pairs trail implies.more (take head trail) s.ready))

-- the loose clauses are those of which no two literals are watched
pub loose_true : (clauses : List (List Lit)) (pairs : List Pair) (loose : List ℕ) (trail : List Lit) → ListsLoose pairs loose → AreTrue clauses loose trail → LooseAreTrue clauses pairs trail
loose_true clauses pairs loose trail listed are c p clause inside same =
    All-contains (λ n. (k : List Lit) → Any (Contains trail) (get_or clauses n k)) loose c are (listed c p inside same) clause

pub lists_kept : (old new : List Pair) (loose : List ℕ) → length new ≡ length old → ((c : ℕ) (p : Pair) → c < length new → (get_or new c p).first ≡ (get_or new c p).second → (get_or old c p).first ≡ (get_or old c p).second) →
    ListsLoose old loose → ListsLoose new loose
lists_kept old new loose size back listed c p inside same = listed c p (omega arith) (back c p inside same)

-- what a caller sees, field by field
abbrev pub seen : ℕ → List (List Lit) → List Lit → List (Option ℕ) → Propagation
seen width clauses trail reasons = record { width = width; clauses = clauses; trail = trail; reasons = reasons }

pub same_seen : (width : ℕ) (clauses : List (List Lit)) (trail new : List Lit) (reasons new_reasons : List (Option ℕ)) → trail ≡ new → reasons ≡ new_reasons →
    seen width clauses trail reasons ≡ seen width clauses new new_reasons
same_seen width clauses trail new reasons new_reasons same same_reasons =
    ap (λ (t : List Lit). seen width clauses t reasons) same ∙ ap (λ (rs : List (Option ℕ)). seen width clauses new rs) same_reasons

-- what a caller sees of literals that were set
pub continues_is : (old : Propagation) (width : ℕ) (clauses : List (List Lit)) (trail new : List Lit) (causes new_causes : List Cause) (new_width : ℕ) (new_clauses : List (List Lit)) →
    seen width clauses trail (reasons_of causes) ≡ old → new_width ≡ width → new_clauses ≡ clauses → length causes ≡ length trail → Implies clauses trail causes new new_causes →
    Continues old (seen new_width new_clauses new (reasons_of new_causes))
continues_is old width clauses trail new causes new_causes new_width new_clauses is same_width same_clauses sized implies =
    subst (λ (p : Propagation). Continues p (seen new_width new_clauses new (reasons_of new_causes))) is (record {
      width = same_width;
      clauses = same_clauses;
      more = implies.more;
      trail = implies.trail;
      more_reasons = reasons_of implies.more_causes;
      reasons = ap reasons_of implies.causes ∙ map-append (λ (c : Cause). c.reason) causes implies.more_causes;
      decides = implies.decides sized;
    })

-- with one clause more, whose watched literals are not falsified before a place
pub state_more_chosen : (clauses : List (List Lit)) (clause : List Lit) (pairs : List Pair) (p : Pair) (trail : List Lit) (causes new_causes : List Cause) (head place : ℕ) (loose new_loose : List ℕ) →
    IsState clauses pairs trail causes head loose → (p.first ≡ p.second → IsOne clause) → NotesLoose p (length clauses) loose new_loose →
    reasons_of new_causes ≡ reasons_of causes → EndsUpTo place causes new_causes → (IsWatched p → AreFree (take place trail) p) →
    IsState (clauses ++ clause ∷ []) (pairs ++ p ∷ []) trail new_causes (min head place) new_loose
state_more_chosen clauses clause pairs p trail causes new_causes head place loose new_loose s one notes reasons ends free =
    state_more clauses clause pairs p trail causes new_causes head (min head place) loose new_loose s one notes reasons (omega arith)
    (all_ready_fewer clauses pairs trail (take head trail) (take (min head place) trail) (λ x. take_less trail (min head place) head x (omega arith)) s.ready)
    (λ differ. inr (free_before differ (min head place) (omega arith)))
    (λ n c below is. let kept = ends n c below is in (s.ends n c (omega (arith, same)) kept.1, λ differ. inr (free_before differ n kept.0))) where
      same : length new_causes ≡ length causes
      same = sym (length-map new_causes (λ (k : Cause). k.reason)) ∙ ap length reasons ∙ length-map causes (λ (k : Cause). k.reason)

      free_before : IsWatched p → (n : ℕ) → n ≤ place → AreFree (take n trail) p
      free_before differ n few = (
        (λ h. (free differ).0 (take_less trail n place (negation p.first) few h)),
        (λ h. (free differ).1 (take_less trail n place (negation p.second) few h)),
      )
