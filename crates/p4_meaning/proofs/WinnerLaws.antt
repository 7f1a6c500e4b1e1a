-- The entry that a table picks: there is one that wins, or none that matches.
use Rattle.std.proofs.Common.{◌≡◌, ℕ, ◌⊎◌, Bool, true, false, not, ◌&&◌, List, [], ◌∷◌, Option, Some, None, inl, inr, ⊎_elim, refl, sym, ap, ◌∙◌, subst, lt_trans, arith}
use Rattle.std.specs.Prelude.{cond, Contains, find}
use Rattle.std.specs.List.{list_all}
use Rattle.std.proofs.lemmas.Bool.{ltb-true, lt-ltb, le-ltb, false≢true}
use Rattle.std.proofs.lemmas.Option.{none-some, same_Some}
use Rattle.p4_program.specs.Winners.{Candidate, all_match, beats, prefix_length, Wins, Winner, wins, winner}
use Rattle.p4_meaning.proofs.ListLaws.{decided, both_hold, hold_both, first_in, later_in, first_or_later, none_in}

-- ---- Booleans and lists

never_both : {C : Type 0} → (b : Bool) → b ≡ true → b ≡ false → C
never_both b t f = absurd (false≢true (sym f ∙ t))

-- where a test is not both, and the first part holds, the second does not
second_fails : (a b : Bool) → not (a && b) ≡ true → a ≡ true → b ≡ false
second_fails true true e h = absurd (false≢true e)
second_fails true false e h = refl
second_fails false b e h = absurd (false≢true h)

not_both : (a b : Bool) → (a ≡ true → b ≡ false) → not (a && b) ≡ true
not_both true true h = absurd (false≢true (sym (h refl)))
not_both true false h = refl
not_both false b h = refl

all_hold : {A : Type 0} (test : A → Bool) (xs : List A) → list_all test xs ≡ true → (y : A) → Contains xs y → test y ≡ true
all_hold test [] h y c = none_in y c
all_hold test (x ∷ xs) h y c =
    let parts = both_hold (test x) (list_all test xs) h in
    ⊎_elim (λ (e : x ≡ y). subst (λ z. test z ≡ true) e parts.0) (λ later. all_hold test xs parts.1 y later) (first_or_later x xs y c)

hold_all : {A : Type 0} (test : A → Bool) (xs : List A) → ((y : A) → Contains xs y → test y ≡ true) → list_all test xs ≡ true
hold_all test [] h = refl
hold_all test (x ∷ xs) h =
    hold_both (test x) (list_all test xs) (h x (first_in x xs)) (hold_all test xs (λ y c. h y (later_in x y xs c)))

-- what is found stands in the list and passes, and where nothing is found nothing passes
found : {A : Type 0} (test : A → Bool) (xs : List A) (w : A) → find test xs ≡ Some w → Contains xs w × (test w ≡ true)
found test [] w e = absurd (none-some w e)
found test (x ∷ xs) w e = case (test x) refl (λ k. found test xs w k)
  where
    case : (b : Bool) → test x ≡ b → (find test xs ≡ Some w → Contains xs w × (test w ≡ true)) → Contains (x ∷ xs) w × (test w ≡ true)
    case true t rest =
        let same : x ≡ w = same_Some x w (ap (λ b. cond b (Some x) (find test xs)) (sym t) ∙ e) in
        (subst (λ y. Contains (x ∷ xs) y) same (first_in x xs), subst (λ y. test y ≡ true) same t)
    case false t rest =
        let later = rest (ap (λ b. cond b (Some x) (find test xs)) (sym t) ∙ e) in
        (later_in x w xs later.0, later.1)

not_found : {A : Type 0} (test : A → Bool) (xs : List A) → find test xs ≡ None → (y : A) → Contains xs y → test y ≡ false
not_found test [] e y c = none_in y c
not_found test (x ∷ xs) e y c = case (test x) refl (λ k later. not_found test xs k y later)
  where
    case : (b : Bool) → test x ≡ b → (find test xs ≡ None → Contains xs y → test y ≡ false) → test y ≡ false
    case true t rest = absurd (none-some x (sym (ap (λ b. cond b (Some x) (find test xs)) (sym t) ∙ e)))
    case false t rest =
        ⊎_elim (λ (same : x ≡ y). subst (λ z. test z ≡ false) same t)
        (λ later. rest (ap (λ b. cond b (Some x) (find test xs)) (sym t) ∙ e) later) (first_or_later x xs y c)

-- ---- which entry beats which

beats_itself : (ordered : Bool) (e : Candidate) → beats ordered e e ≡ false
beats_itself true e = le-ltb e.rank e.rank (omega arith)
beats_itself false e = le-ltb (prefix_length e.keys) (prefix_length e.keys) (omega arith)

beats_on : (ordered : Bool) (d e f : Candidate) → beats ordered d e ≡ true → beats ordered e f ≡ true → beats ordered d f ≡ true
beats_on true d e f h k = lt-ltb d.rank f.rank (lt_trans (ltb-true d.rank e.rank h) (ltb-true e.rank f.rank k))
beats_on false d e f h k =
    lt-ltb (prefix_length f.keys) (prefix_length d.keys)
    (lt_trans (ltb-true (prefix_length f.keys) (prefix_length e.keys) k) (ltb-true (prefix_length e.keys) (prefix_length d.keys) h))

-- ---- some entry wins, or none matches

module _ (ordered : Bool) (key : List ℕ) where
  abbrev NoneMatches : List Candidate → Type 0
  NoneMatches es = (d : Candidate) → Contains es d → all_match d.keys key ≡ false

  abbrev SomeWins : List Candidate → Type 0
  SomeWins es = (w : Candidate) × Wins ordered es key w

  -- the first, where it matches and none behind it does
  first_wins : (e : Candidate) (es : List Candidate) → all_match e.keys key ≡ true → NoneMatches es → SomeWins (e ∷ es)
  first_wins e es m none = (
    e,
    record {
      stands = first_in e es;
      match = m;
      unbeaten = λ d c h. ⊎_elim (λ (same : e ≡ d). subst (λ f. beats ordered f e ≡ false) same (beats_itself ordered e))
          (λ later. never_both (all_match d.keys key) h (none d later)) (first_or_later e es d c);
    },
  )

  -- the first, where it beats the one that wins behind it
  first_beats : (e : Candidate) (es : List Candidate) → all_match e.keys key ≡ true → (v : SomeWins es) → beats ordered e v.0 ≡ true → SomeWins (e ∷ es)
  first_beats e es m v b = (
    e,
    record {
      stands = first_in e es;
      match = m;
      unbeaten = λ d c h. ⊎_elim (λ (same : e ≡ d). subst (λ f. beats ordered f e ≡ false) same (beats_itself ordered e))
          (λ later. ⊎_elim (λ (over : beats ordered d e ≡ true). never_both (beats ordered d v.0) (beats_on ordered d e v.0 over b) (v.1.unbeaten d later h))
          (λ under. under) (decided (beats ordered d e))) (first_or_later e es d c);
    },
  )

  -- the one that wins behind the first, where the first does not match or does not beat it
  later_wins : (e : Candidate) (es : List Candidate) (v : SomeWins es) → (all_match e.keys key ≡ true → beats ordered e v.0 ≡ false) → SomeWins (e ∷ es)
  later_wins e es v b = (
    v.0,
    record {
      stands = later_in e v.0 es v.1.stands;
      match = v.1.match;
      unbeaten = λ d c h. ⊎_elim (λ (same : e ≡ d). subst (λ f. all_match f.keys key ≡ true → beats ordered f v.0 ≡ false) same b h)
          (λ later. v.1.unbeaten d later h) (first_or_later e es d c);
    },
  )

  abbrev Settled : List Candidate → Type 0
  Settled es = NoneMatches es ⊎ SomeWins es

  with_first : (e : Candidate) (es : List Candidate) → Settled es → Settled (e ∷ es)
  with_first e es (inl none) =
      ⊎_elim (λ m. inr (first_wins e es m none))
      (λ f. inl (λ d c. ⊎_elim (λ (same : e ≡ d). subst (λ x. all_match x.keys key ≡ false) same f) (λ later. none d later) (first_or_later e es d c)))
      (decided (all_match e.keys key))
  with_first e es (inr v) =
      ⊎_elim (λ m. ⊎_elim (λ b. inr (first_beats e es m v b)) (λ b. inr (later_wins e es v (λ h. b))) (decided (beats ordered e v.0)))
      (λ f. inr (later_wins e es v (λ h. never_both (all_match e.keys key) h f))) (decided (all_match e.keys key))

  pub settled : (es : List Candidate) → Settled es
  settled [] = inl (λ d c. none_in d c)
  settled (e ∷ es) = with_first e es (settled es)

  -- ---- the winner that is found by trying each

  wins_true : (es : List Candidate) (w : Candidate) → Wins ordered es key w → wins ordered es key w ≡ true
  wins_true es w h =
      hold_both (all_match w.keys key) (list_all (λ d. not (all_match d.keys key && beats ordered d w)) es) h.match
      (hold_all (λ d. not (all_match d.keys key && beats ordered d w)) es
      (λ d c. not_both (all_match d.keys key) (beats ordered d w) (λ m. h.unbeaten d c m)))

  true_wins : (es : List Candidate) (w : Candidate) → Contains es w → wins ordered es key w ≡ true → Wins ordered es key w
  true_wins es w c t =
      let parts = both_hold (all_match w.keys key) (list_all (λ d. not (all_match d.keys key && beats ordered d w)) es) t in
      record {
        stands = c;
        match = parts.0;
        unbeaten = λ d k m. second_fails (all_match d.keys key) (beats ordered d w)
            (all_hold (λ d. not (all_match d.keys key && beats ordered d w)) es parts.1 d k) m;
      }

  winner_case : (es : List Candidate) (o : Option Candidate) → winner ordered es key ≡ o → Winner ordered es key o
  winner_case es (Some w) e = let f = found (wins ordered es key) es w e in true_wins es w f.0 f.1
  winner_case es None e =
      ⊎_elim (λ none. none)
      (λ (v : SomeWins es). never_both (wins ordered es key v.0) (wins_true es v.0 v.1) (not_found (wins ordered es key) es e v.0 v.1.stands)) (settled es)

-- the entry that is found wins, and where none is found none matches
pub winner_wins : (ordered : Bool) (es : List Candidate) (key : List ℕ) → Winner ordered es key (winner ordered es key)
winner_wins ordered es key = winner_case ordered key es (winner ordered es key) refl
