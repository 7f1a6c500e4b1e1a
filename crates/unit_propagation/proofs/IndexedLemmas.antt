-- Clauses are found by their watched literals: when one more is added, and when a watch moves to another literal.
use Rattle.std.proofs.Common.{◌≡◌, ◌≢◌, ◌⊎◌, ℕ, ◌+◌, ◌-◌, ◌*◌, ◌<◌, ◌≤◌, Bool, true, false, List, [], ◌∷◌, ◌++◌, length, get_or, inl, inr, refl, ap, sym, ◌∙◌, subst, arith}
use Rattle.std.specs.Prelude.{IsTrue, All, Contains, count_by, swap_remove}
use Rattle.std.proofs.Math.ListN.{set}
use Rattle.std.proofs.lemmas.Bool.{cases_eq, cases_lt, cases_Bool, both_ways}
use Rattle.std.proofs.lemmas.List.{get_or-set_same, get_or-set_other, get_or_append_left, get_or_push, length-set, length_push}
use Rattle.std.proofs.lemmas.List.Elements.{All-push, All-weaker, Contains-push, Contains-append_left}
use Rattle.std.proofs.lemmas.List.Sums.{sum_by-set, sum_by_push}
use Rattle.std.proofs.lemmas.Option.{get_or_from_slice_get, slice_get_within}
use Rattle.cnf_core.specs.declared.formula.Lit.{Lit}
use Rattle.cnf_core.proofs.Literals.{lit-cases}
use Rattle.unit_propagation.specs.Units.{IsWithin}
use Rattle.unit_propagation.specs.declared.pair.Pair.{Pair}
use Rattle.unit_propagation.specs.LitCodes.{code_of}
use Rattle.unit_propagation.specs.Watching.{Watched, IsIndexed, IsHeld, MovesWatch, ListsClause, IsOther, watches, pair_of, list_at, has}
use Rattle.unit_propagation.proofs.PairLemmas.{watches_cases, has_contains, watches_first, watches_second, watches_not, other_other, other_only, contains_has, code_same}
use Rattle.unit_propagation.proofs.CountLemmas.{weight, count_le, count_lt}
use Rattle.unit_propagation.proofs.ListLemmas.{contains_swap_remove, all_swap_remove, length_swap_remove}

-- the clauses that watch a literal are no more than those that have it
pub watch_count : (width : ℕ) (clauses : List (List Lit)) (pairs : List Pair) (lists : List (List ℕ)) (held : List ℕ) (l : Lit) →
    IsIndexed width clauses pairs lists → IsHeld clauses held → length (list_at lists l) ≤ get_or held (code_of l) 0
watch_count width clauses pairs lists held l h counts =
    let most : count_by (λ p. watches p l) pairs ≤ count_by (has l) clauses =
    count_le (λ p. watches p l) (has l) pairs clauses h.paired (λ i p clause inside is. contains_has l (get_or clauses i clause) (h.stands i p clause inside l is)) in
    let few = h.counted l in
    let enough = counts l in
    omega arith

-- and fewer where a clause has the literal and does not watch it
pub watch_count_less : (width : ℕ) (clauses : List (List Lit)) (pairs : List Pair) (lists : List (List ℕ)) (held : List ℕ) (l : Lit) (c : ℕ) (p : Pair) (clause : List Lit) →
    IsIndexed width clauses pairs lists → IsHeld clauses held → c < length pairs → watches (get_or pairs c p) l ≡ false → Contains (get_or clauses c clause) l →
    length (list_at lists l) < get_or held (code_of l) 0
watch_count_less width clauses pairs lists held l c p clause h counts inside is_not stands =
    let most : count_by (λ p. watches p l) pairs < count_by (has l) clauses =
    count_lt (λ q. watches q l) (has l) pairs clauses c p clause h.paired
    (λ i q k within is. contains_has l (get_or clauses i k) (h.stands i q k within l is)) inside is_not (contains_has l (get_or clauses c clause) stands) in
    let few = h.counted l in
    let enough = counts l in
    omega arith

-- one clause more
pub indexed_more : (width : ℕ) (clauses : List (List Lit)) (pairs : List Pair) (old new : List (List ℕ)) (clause : List Lit) (p : Pair) →
    IsIndexed width clauses pairs old → IsWithin width clause → ((l : Lit) → IsTrue (watches p l) → Contains clause l) →
    length new ≡ length old → ListsClause p (length clauses) old new → IsIndexed width (clauses ++ clause ∷ []) (pairs ++ p ∷ []) new
indexed_more width clauses pairs old new clause p h within stands size lists = record {
  within = All-push (IsWithin width) clauses clause h.within within;
  paired = let a = length_push pairs p in let b = length_push clauses clause in let same = h.paired in omega arith;
  size = let enough = h.size in omega arith;
  stands = stands_all;
  listed = listed_all;
  entries = entries_all;
  counted = counted_all;
} where
  longer : length (pairs ++ p ∷ []) ≡ length pairs + 1
  longer = length_push pairs p

  stands_all : (c : ℕ) (d : Pair) (e : List Lit) → c < length (pairs ++ p ∷ []) → (l : Lit) → IsTrue (watches (get_or (pairs ++ p ∷ []) c d) l) →
      Contains (get_or (clauses ++ clause ∷ []) c e) l
  stands_all c d e inside l is = elim (cases_lt c (length pairs)) [
    | inl before ↦
        let same = h.paired in
        subst (λ (k : List Lit). Contains k l) (sym (get_or_append_left clauses (clause ∷ []) e c (omega arith)))
        (h.stands c d e before l (subst (λ (q : Pair). IsTrue (watches q l)) (get_or_append_left pairs (p ∷ []) d c before) is))
    | inr past ↦
        let at : c ≡ length pairs = omega (arith, longer) in
        subst (λ (k : List Lit). Contains k l) (sym (get_or_push clauses clause e c (sym (at ∙ h.paired))))
        (stands l (subst (λ (q : Pair). IsTrue (watches q l)) (get_or_push pairs p d c (sym at)) is))
  ]

  listed_all : (c : ℕ) (d : Pair) → c < length (pairs ++ p ∷ []) → (l : Lit) → IsTrue (watches (get_or (pairs ++ p ∷ []) c d) l) → Contains (list_at new l) c
  listed_all c d inside l is = elim (cases_lt c (length pairs)) [
    | inl before ↦
        let there = h.listed c d before l (subst (λ (q : Pair). IsTrue (watches q l)) (get_or_append_left pairs (p ∷ []) d c before) is) in
        elim (lists l) [
          | inl (_, same) ↦ subst (λ (cs : List ℕ). Contains cs c) (sym same) (Contains-append_left (list_at old l) (length clauses ∷ []) c there)
          | inr (_, same) ↦ subst (λ (cs : List ℕ). Contains cs c) (sym same) there
        ]
    | inr past ↦
        let at : c ≡ length pairs = omega (arith, longer) in
        let here = subst (λ (q : Pair). IsTrue (watches q l)) (get_or_push pairs p d c (sym at)) is in
        elim (lists l) [
          | inl (_, same) ↦ subst (λ (cs : List ℕ). Contains cs c) (sym same) (subst (Contains (list_at old l ++ length clauses ∷ [])) (sym (at ∙ h.paired)) (Contains-push (list_at old l) (length clauses)))
          | inr (not_watched, _) ↦ absurd (both_ways (watches p l) not_watched here)
        ]
  ]

  entries_all : (l : Lit) → All (λ c. c < length (pairs ++ p ∷ [])) (list_at new l)
  entries_all l =
      let before = All-weaker (λ c. c < length pairs) (λ c. c < length (pairs ++ p ∷ [])) (λ c below. omega (arith, longer)) (list_at old l) (h.entries l) in
      elim (lists l) [
        | inl (_, same) ↦ subst (All (λ c. c < length (pairs ++ p ∷ []))) (sym same)
            (All-push (λ c. c < length (pairs ++ p ∷ [])) (list_at old l) (length clauses) before (let e = h.paired in omega (arith, longer)))
        | inr (_, same) ↦ subst (All (λ c. c < length (pairs ++ p ∷ []))) (sym same) before
      ]

  counted_all : (l : Lit) → length (list_at new l) ≤ count_by (λ q. watches q l) (pairs ++ p ∷ [])
  counted_all l =
      let more : count_by (λ q. watches q l) (pairs ++ p ∷ []) ≡ count_by (λ q. watches q l) pairs + weight (watches p l) = sum_by_push (λ q. weight (watches q l)) pairs p in
      let few = h.counted l in
      elim (lists l) [
        | inl (is, same) ↦
            let size : length (list_at new l) ≡ length (list_at old l) + 1 = ap length same ∙ length_push (list_at old l) (length clauses) in
            let here : weight (watches p l) ≡ 1 = ap (λ (b : Bool). weight b) is in
            omega arith
        | inr (not_watched, same) ↦ let size = ap length same in omega arith
      ]

-- the clauses counted before a clause comes, and after
pub held_more : (clauses : List (List Lit)) (clause : List Lit) (old new : List ℕ) → IsHeld clauses old → ((i : ℕ) → get_or old i 0 ≤ get_or new i 0) →
    ((l : Lit) → Contains clause l → get_or old (code_of l) 0 < get_or new (code_of l) 0) → IsHeld (clauses ++ clause ∷ []) new
held_more clauses clause old new counts keeps grows l =
    let more : count_by (has l) (clauses ++ clause ∷ []) ≡ count_by (has l) clauses + weight (has l clause) = sum_by_push (λ k. weight (has l k)) clauses clause in
    let before = counts l in
    elim (cases_Bool (has l clause)) [
      | inl is_so ↦
          let here : weight (has l clause) ≡ 1 = ap (λ (b : Bool). weight b) is_so in
          let up = grows l (has_contains l clause is_so) in
          omega arith
      | inr is_not ↦
          let here : weight (has l clause) ≡ 0 = ap (λ (b : Bool). weight b) is_not in
          let up = keeps (code_of l) in
          omega arith
    ]

pub held_keeps : (clauses : List (List Lit)) (old new : List ℕ) → IsHeld clauses old → ((i : ℕ) → get_or old i 0 ≤ get_or new i 0) → IsHeld clauses new
held_keeps clauses old new counts keeps l = let before = counts l in let up = keeps (code_of l) in omega arith

-- more lists, which are empty, and more variables
pub indexed_lists : (width more : ℕ) (clauses : List (List Lit)) (pairs : List Pair) (old new : List (List ℕ)) → IsIndexed width clauses pairs old →
    width ≤ more → 2 * more ≤ length new → ((l : Lit) → list_at new l ≡ list_at old l) → IsIndexed more clauses pairs new
indexed_lists width more clauses pairs old new h wider enough same = record {
  within = All-weaker (IsWithin width) (IsWithin more) (λ c. All-weaker (λ l. l.var < width) (λ l. l.var < more) (λ l below. omega arith) c) clauses h.within;
  paired = h.paired;
  size = enough;
  stands = h.stands;
  listed = λ c p inside l is. subst (λ (cs : List ℕ). Contains cs c) (sym (same l)) (h.listed c p inside l is);
  entries = λ l. subst (All (λ c. c < length pairs)) (sym (same l)) (h.entries l);
  counted = λ l. subst (λ (cs : List ℕ). length cs ≤ count_by (λ p. watches p l) pairs) (sym (same l)) (h.counted l);
}

-- the lists after a watch has moved: that of the literal that is left, that of the new one, and the others
abbrev pub AreMoved : List (List ℕ) → List (List ℕ) → Lit → ℕ → ℕ → Lit → Type 0
AreMoved old new from place c to = (l : Lit) →
    ((l ≡ from) × (list_at new l ≡ swap_remove (list_at old l) place c)) ⊎
    (((l ≡ to) × (l ≢ from) × (list_at new l ≡ list_at old l ++ c ∷ [])) ⊎ ((l ≢ from) × (l ≢ to) × (list_at new l ≡ list_at old l)))

pub lists_moved : (old : List (List ℕ)) (from : Lit) (place c : ℕ) (to : Lit) → code_of from < length old → code_of to < length old → to ≢ from →
    AreMoved old (set (set old (code_of from) (swap_remove (list_at old from) place c)) (code_of to) (list_at (set old (code_of from) (swap_remove (list_at old from) place c)) to ++ c ∷ [])) from place c to
lists_moved old from place c to from_inside to_inside differs l = elim (lit-cases l from) [
  | inl is_from ↦ inl (is_from, from_case is_from)
  | inr not_from ↦ elim (lit-cases l to) [
    | inl is_to ↦ inr (inl (is_to, not_from, to_case is_to))
    | inr not_to ↦ inr (inr (
      not_from,
      not_to,
      get_or-set_other mid (code_of to) (code_of l) added [] (λ same. not_to (code_same l to same))
          ∙ get_or-set_other old (code_of from) (code_of l) removed [] (λ same. not_from (code_same l from same)),
    ))
  ]
] where
  removed : List ℕ
  removed = swap_remove (list_at old from) place c

  mid : List (List ℕ)
  mid = set old (code_of from) removed

  added : List ℕ
  added = list_at mid to ++ c ∷ []

  from_case : l ≡ from → list_at (set mid (code_of to) added) l ≡ swap_remove (list_at old l) place c
  from_case is_from =
      get_or-set_other mid (code_of to) (code_of l) added [] (λ same. differs (sym (code_same l to same) ∙ is_from))
      ∙ ap (λ (k : Lit). list_at mid k) is_from ∙ get_or-set_same old (code_of from) removed [] from_inside ∙ ap (λ (k : Lit). swap_remove (list_at old k) place c) (sym is_from)

  to_case : l ≡ to → list_at (set mid (code_of to) added) l ≡ list_at old l ++ c ∷ []
  to_case is_to =
      ap (λ (k : Lit). list_at (set mid (code_of to) added) k) is_to
      ∙ get_or-set_same mid (code_of to) added [] (let size = length-set old (code_of from) removed in omega arith)
      ∙ ap (λ (cs : List ℕ). cs ++ c ∷ []) (get_or-set_other old (code_of from) (code_of to) removed [] (λ same. differs (code_same to from same)) ∙ ap (λ (k : Lit). list_at old k) (sym is_to))

-- a watch moves to another literal
pub indexed_moved : (w : Watched) (c : ℕ) (from : Lit) (place : ℕ) (other to : Lit) (new : List (List ℕ)) →
    IsIndexed w.width w.clauses w.pairs w.lists → MovesWatch w c from place other to → length new ≡ length w.lists →
    AreMoved w.lists new from place c to → IsIndexed w.width w.clauses (set w.pairs c (pair_of other to)) new
indexed_moved w c from place other to new h moves size lists = record {
  within = h.within;
  paired = length-set w.pairs c p ∙ h.paired;
  size = let enough = h.size in omega arith;
  stands = stands_all;
  listed = listed_all;
  entries = entries_all;
  counted = counted_all;
} where
  p : Pair
  p = pair_of other to

  pairs : List Pair
  pairs = set w.pairs c p

  was : Pair
  was = get_or w.pairs c p

  was_other : IsOther was from other
  was_other = moves.pair p

  not_other : other ≢ to
  not_other same = moves.not_other (sym same)

  longer : length pairs ≡ length w.pairs
  longer = length-set w.pairs c p

  here : (d : Pair) → get_or pairs c d ≡ p
  here d = get_or-set_same w.pairs c p d moves.inside

  within_place : place < length (list_at w.lists from)
  within_place = slice_get_within (list_at w.lists from) place c moves.here

  at_place : get_or (list_at w.lists from) place c ≡ c
  at_place = get_or_from_slice_get (list_at w.lists from) place c c moves.here

  -- a literal that the new pair watches is the one that stays, or the new one
  new_cases : (l : Lit) → IsTrue (watches p l) → (l ≡ other) ⊎ (l ≡ to)
  new_cases l is = elim (watches_cases p l is).1 [ inl first ↦ inl (sym first) | inr second ↦ inr (sym second) ]

  stands_all : (k : ℕ) (d : Pair) (e : List Lit) → k < length pairs → (l : Lit) → IsTrue (watches (get_or pairs k d) l) → Contains (get_or w.clauses k e) l
  stands_all k d e inside l is = elim (cases_eq k c) [
    | inl same ↦ elim (new_cases l (subst (λ (q : Pair). IsTrue (watches q l)) (ap (λ (i : ℕ). get_or pairs i d) same ∙ here d) is)) [
      | inl is_other ↦ subst (λ (i : ℕ). Contains (get_or w.clauses i e) l) (sym same)
          (subst (Contains (get_or w.clauses c e)) (sym is_other) (h.stands c p e moves.inside other (other_other was from other was_other)))
      | inr is_to ↦ subst (λ (i : ℕ). Contains (get_or w.clauses i e) l) (sym same) (subst (Contains (get_or w.clauses c e)) (sym is_to) (moves.stands e))
    ]
    | inr differs ↦ h.stands k d e (omega (arith, longer)) l (subst (λ (q : Pair). IsTrue (watches q l)) (get_or-set_other w.pairs c k p d differs) is)
  ]

  -- what another clause watches it is found by as before, and the moved one by what it watched and by the new literal
  stays : (k : ℕ) (l : Lit) → Contains (list_at w.lists l) k → (l ≡ from → k ≢ c) → Contains (list_at new l) k
  stays k l there apart = elim (lists l) [
    | inl (is_from, same) ↦ subst (λ (cs : List ℕ). Contains cs k) (sym same)
        (contains_swap_remove (list_at w.lists l) place c k (subst (λ (x : Lit). place < length (list_at w.lists x)) (sym is_from) within_place)
        (subst (λ (x : Lit). get_or (list_at w.lists x) place c ≡ c) (sym is_from) at_place) there (apart is_from))
    | inr (inl (is_to, not_from, same)) ↦ subst (λ (cs : List ℕ). Contains cs k) (sym same) (Contains-append_left (list_at w.lists l) (c ∷ []) k there)
    | inr (inr (not_from, not_to, same)) ↦ subst (λ (cs : List ℕ). Contains cs k) (sym same) there
  ]

  arrives : Contains (list_at new to) c
  arrives = elim (lists to) [
    | inl (is_from, same) ↦ absurd (moves.not_from is_from)
    | inr (inl (is_to, not_from, same)) ↦ subst (λ (cs : List ℕ). Contains cs c) (sym same) (Contains-push (list_at w.lists to) c)
    | inr (inr (not_from, not_to, same)) ↦ absurd (not_to refl)
  ]

  listed_all : (k : ℕ) (d : Pair) → k < length pairs → (l : Lit) → IsTrue (watches (get_or pairs k d) l) → Contains (list_at new l) k
  listed_all k d inside l is = elim (cases_eq k c) [
    | inl same ↦ elim (new_cases l (subst (λ (q : Pair). IsTrue (watches q l)) (ap (λ (i : ℕ). get_or pairs i d) same ∙ here d) is)) [
      | inl is_other ↦ subst (λ (i : ℕ). Contains (list_at new l) i) (sym same)
          (stays c l (subst (λ (x : Lit). Contains (list_at w.lists x) c) (sym is_other) (h.listed c p moves.inside other (other_other was from other was_other)))
          (λ is_from. absurd (was_other.0 (sym is_other ∙ is_from))))
      | inr is_to ↦ subst (λ (i : ℕ). Contains (list_at new l) i) (sym same) (subst (λ (x : Lit). Contains (list_at new x) c) (sym is_to) arrives)
    ]
    | inr differs ↦ stays k l (h.listed k d (omega (arith, longer)) l (subst (λ (q : Pair). IsTrue (watches q l)) (get_or-set_other w.pairs c k p d differs) is)) (λ _. differs)
  ]

  below : (cs : List ℕ) → All (λ k. k < length w.pairs) cs → All (λ k. k < length pairs) cs
  below cs = All-weaker (λ k. k < length w.pairs) (λ k. k < length pairs) (λ k less. omega (arith, longer)) cs

  entries_all : (l : Lit) → All (λ k. k < length pairs) (list_at new l)
  entries_all l = elim (lists l) [
    | inl (is_from, same) ↦ subst (All (λ k. k < length pairs)) (sym same)
        (all_swap_remove (λ k. k < length pairs) (list_at w.lists l) place c (subst (λ (x : Lit). place < length (list_at w.lists x)) (sym is_from) within_place) (below (list_at w.lists l) (h.entries l)))
    | inr (inl (is_to, not_from, same)) ↦ subst (All (λ k. k < length pairs)) (sym same)
        (All-push (λ k. k < length pairs) (list_at w.lists l) c (below (list_at w.lists l) (h.entries l)) (let less = moves.inside in omega (arith, longer)))
    | inr (inr (not_from, not_to, same)) ↦ subst (All (λ k. k < length pairs)) (sym same) (below (list_at w.lists l) (h.entries l))
  ]

  counted_all : (l : Lit) → length (list_at new l) ≤ count_by (λ q. watches q l) pairs
  counted_all l =
      let sums : count_by (λ q. watches q l) pairs + weight (watches was l) ≡ count_by (λ q. watches q l) w.pairs + weight (watches p l) =
      sum_by-set (λ q. weight (watches q l)) w.pairs c p p moves.inside in
      let few = h.counted l in
      elim (lists l) [
        | inl (is_from, same) ↦
            let inside : place < length (list_at w.lists l) = subst (λ (x : Lit). place < length (list_at w.lists x)) (sym is_from) within_place in
            let size : length (list_at new l) ≡ length (list_at w.lists l) - 1 = ap length same ∙ length_swap_remove (list_at w.lists l) place c inside in
            let is_so : weight (watches was l) ≤ 1 = most_one (watches was l) in
            omega arith
        | inr (inl (is_to, not_from, same)) ↦
            let size : length (list_at new l) ≡ length (list_at w.lists l) + 1 = ap length same ∙ length_push (list_at w.lists l) c in
            let is_so : weight (watches p l) ≡ 1 = ap (λ (b : Bool). weight b) (watches_second p l not_other (sym is_to)) in
            let is_not : weight (watches was l) ≡ 0 = ap (λ (b : Bool). weight b) (watches_not was l (λ is. elim (other_only was from other l was_other is) [
              | inl is_from ↦ not_from is_from
              | inr is_other ↦ not_other (sym is_other ∙ is_to)
            ])) in
            omega arith
        | inr (inr (not_from, not_to, same)) ↦
            let size = ap length same in
            elim (cases_Bool (watches was l)) [
              | inl is_so ↦
                  let old : weight (watches was l) ≡ 1 = ap (λ (b : Bool). weight b) is_so in
                  let is_other : l ≡ other = elim (other_only was from other l was_other is_so) [ inl is_from ↦ absurd (not_from is_from) | inr is ↦ is ] in
                  let now : weight (watches p l) ≡ 1 = ap (λ (b : Bool). weight b) (watches_first p l not_other (sym is_other)) in
                  omega arith
              | inr is_not ↦ let old : weight (watches was l) ≡ 0 = ap (λ (b : Bool). weight b) is_not in omega arith
            ]
      ] where
        most_one : (b : Bool) → weight b ≤ 1
        most_one true = omega arith
        most_one false = omega arith
