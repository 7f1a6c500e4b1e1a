-- Where each clause is ready the trail is the least closed set of literals, and where one is false propagation conflicts.
use Rattle.std.proofs.Common.{◌≡◌, ◌≢◌, ◌⊎◌, ℕ, ◌<◌, ◌≤◌, Option, Some, None, List, [], ◌∷◌, length, get_or, take, zero, suc, inl, inr, refl, ap, sym, ◌∙◌, subst, arith}
use Rattle.std.specs.Prelude.{IsTrue, All, Any, Contains}
use Rattle.std.proofs.lemmas.Bool.{cases_Bool, cases_eq, both_ways}
use Rattle.std.proofs.lemmas.List.{get_or-take, get_or_default, length-take-le}
use Rattle.std.proofs.lemmas.List.Elements.{All-contains, Contains-get_or, All-cons, All-tail}
use Rattle.std.proofs.lemmas.Option.{get_or_from_slice_get, slice_get_within}
use Rattle.cnf_core.specs.declared.formula.Lit.{Lit}
use Rattle.cnf_core.specs.Literal.{negation, LitSet}
use Rattle.cnf_core.specs.Propagation.{Leaves, IsClosed, Sets, Conflicts}
use Rattle.cnf_core.proofs.Literals.{lit-cases, no_lit}
use Rattle.unit_propagation.specs.Units.{IsFalse}
use Rattle.unit_propagation.specs.declared.pair.Pair.{Pair}
use Rattle.unit_propagation.specs.Trail.{decided, IsJustified, Explains}
use Rattle.unit_propagation.specs.Watching.{Watched, IsIndexed, has}
use Rattle.unit_propagation.specs.Ready.{Ready, IsWatched, AllReady, LooseAreTrue}
use Rattle.unit_propagation.specs.Propagated.{SaysNothing, AreAllSet, IsFalseClause, IsTotal, HasTrueLiterals}
use Rattle.unit_propagation.proofs.PairLemmas.{has_contains, contains_has, watches_first, watches_second}

pub reason_cases : (r : Option ℕ) → (r ≡ None) ⊎ ((c : ℕ) × (r ≡ Some c))
reason_cases None = inl refl
reason_cases (Some c) = inr (c, refl)

after : (x l : Lit) (xs : List Lit) → Contains xs l → Contains (x ∷ xs) l
after x l xs (k, inside, at) = (suc k, omega arith, at)

-- a literal without a reason was decided
pub decided_contains : (trail : List Lit) (reasons : List (Option ℕ)) (n : ℕ) (d : Lit) → length reasons ≡ length trail → n < length trail → get_or reasons n None ≡ None →
    Contains (decided trail reasons) (get_or trail n d)
decided_contains [] reasons n d same inside is = absurd (omega arith)
decided_contains (x ∷ xs) [] n d same inside is = absurd (omega arith)
decided_contains (x ∷ xs) (None ∷ rs) zero d same inside is = (0, omega arith, refl)
decided_contains (x ∷ xs) (None ∷ rs) (suc n) d same inside is = after x (get_or xs n d) (decided xs rs) (decided_contains xs rs n d (omega arith) (omega arith) is)
decided_contains (x ∷ xs) (Some c ∷ rs) zero d same inside is = absurd (cc)
decided_contains (x ∷ xs) (Some c ∷ rs) (suc n) d same inside is = decided_contains xs rs n d (omega arith) (omega arith) is

pub decided_within : (trail : List Lit) (reasons : List (Option ℕ)) (l : Lit) → Contains (decided trail reasons) l → Contains trail l
decided_within [] reasons l h = h
decided_within (x ∷ xs) [] l h = h
decided_within (x ∷ xs) (None ∷ rs) l (zero, inside, at) = (0, omega arith, at)
decided_within (x ∷ xs) (None ∷ rs) l (suc k, inside, at) = after x l xs (decided_within xs rs l (k, omega arith, at))
decided_within (x ∷ xs) (Some c ∷ rs) l h = after x l xs (decided_within xs rs l h)

abbrev InClosed : List Lit → LitSet → ℕ → Type 0
InClosed trail set n = (place : ℕ) (d : Lit) → place < n → IsTrue (set (get_or trail place d))

-- the literal at a place, after those before it
next_in_closed : (clauses : List (List Lit)) (trail : List Lit) (reasons : List (Option ℕ)) (set : LitSet) → length reasons ≡ length trail → IsJustified clauses trail reasons →
    IsClosed clauses (decided trail reasons) set → (n : ℕ) (d : Lit) → n < length trail → InClosed trail set n → IsTrue (set (get_or trail n d))
next_in_closed clauses trail reasons set same justified closed n d inside earlier = here (reason_cases (get_or reasons n None)) where
  false_in : (k : Lit) → IsFalse (take n trail) k → IsTrue (set (negation k))
  false_in k (i, within, at) =
      let size = length-take-le n trail (omega arith) in
      subst (λ (x : Lit). IsTrue (set x)) (sym (get_or-take n trail i (negation k) (omega arith)) ∙ at) (earlier i (negation k) (omega arith))

  implied : (c : ℕ) → Explains clauses trail n c (get_or trail n d) → IsTrue (set (get_or trail n d))
  implied c (clause, at, unit) = closed.closes clause (get_or trail n d) (c, slice_get_within clauses c clause at, get_or_from_slice_get clauses c clause clause at) unit.stands
      (λ k e within differs. false_in (get_or clause k e) (unit.alone k e within differs))

  here : (get_or reasons n None ≡ None) ⊎ ((c : ℕ) × (get_or reasons n None ≡ Some c)) → IsTrue (set (get_or trail n d))
  here (inl is) = All-contains (λ l. IsTrue (set l)) (decided trail reasons) (get_or trail n d) closed.decides (decided_contains trail reasons n d same inside is)
  here (inr (c, is)) = implied c (justified n c d inside is)

-- a closed set has each literal of the trail, in the order in which they were set
in_closed : (clauses : List (List Lit)) (trail : List Lit) (reasons : List (Option ℕ)) (set : LitSet) → length reasons ≡ length trail → IsJustified clauses trail reasons →
    IsClosed clauses (decided trail reasons) set → (n : ℕ) → n ≤ length trail → InClosed trail set n
in_closed clauses trail reasons set same justified closed zero inside place d below = absurd (omega arith)
in_closed clauses trail reasons set same justified closed (suc n) inside place d below = elim (cases_eq place n) [
  | inl at ↦ subst (λ (k : ℕ). IsTrue (set (get_or trail k d))) (sym at)
      (next_in_closed clauses trail reasons set same justified closed n d (omega arith) (in_closed clauses trail reasons set same justified closed n (omega arith)))
  | inr before ↦ in_closed clauses trail reasons set same justified closed n (omega arith) place d (omega arith)
]

-- propagation sets each literal of the trail
pub are_set : (clauses : List (List Lit)) (trail : List Lit) (reasons : List (Option ℕ)) → length reasons ≡ length trail → IsJustified clauses trail reasons →
    All (Sets clauses (decided trail reasons)) trail
are_set clauses trail reasons same justified k d inside set closed = in_closed clauses trail reasons set same justified closed (length trail) (omega arith) k d inside

-- a clause whose literals are false is a conflict
pub conflicts_false : (clauses : List (List Lit)) (decisions trail : List Lit) (c : ℕ) → All (Sets clauses decisions) trail → IsFalseClause clauses trail c → Conflicts clauses decisions
conflicts_false clauses decisions trail c are (inside, falsified) = (
  c,
  get_or clauses c [],
  inside,
  get_or_same clauses c inside,
  λ i d within. All-contains (Sets clauses decisions) trail (negation (get_or (get_or clauses c []) i d)) are (falsified [] i d within),
) where
  get_or_same : (cs : List (List Lit)) (n : ℕ) → n < length cs → get_or cs n (get_or cs n []) ≡ get_or cs n []
  get_or_same cs n below = get_or_default cs n (get_or cs n []) [] below

-- a clause with a true literal says nothing
nothing_true : (trail clause : List Lit) → ((l : Lit) → Contains trail l → Contains trail (negation l) → ⊥) → Any (Contains trail) clause → SaysNothing trail clause
nothing_true trail clause consistent (k, x, inside, at, is) = (
  (λ falsified. consistent x is (All-contains (IsFalse trail) clause x falsified (k, inside, at))),
  (λ l unit. elim (lit-cases x l) [
    | inl same ↦ unit.is_open.0 (subst (Contains trail) same is)
    | inr differs ↦ consistent x is (All-contains (λ y. y ≢ l → IsFalse trail y) clause x unit.alone (k, inside, at) differs)
  ]),
)

-- a clause with two literals that are not false says nothing
nothing_two : (trail clause : List Lit) (x y : Lit) → Contains clause x → Contains clause y → x ≢ y → (IsFalse trail x → ⊥) → (IsFalse trail y → ⊥) → SaysNothing trail clause
nothing_two trail clause x y x_stands y_stands differ x_free y_free = (
  (λ falsified. x_free (All-contains (IsFalse trail) clause x falsified x_stands)),
  (λ l unit. elim (lit-cases x l) [
    | inl same ↦ y_free (All-contains (λ k. k ≢ l → IsFalse trail k) clause y unit.alone y_stands (λ e. differ (same ∙ sym e)))
    | inr differs ↦ x_free (All-contains (λ k. k ≢ l → IsFalse trail k) clause x unit.alone x_stands differs)
  ]),
)

-- where all clauses are ready for the whole trail, none says anything
pub fixed : (w : Watched) (trail : List Lit) → IsIndexed w.width w.clauses w.pairs w.lists → ((l : Lit) → Contains trail l → Contains trail (negation l) → ⊥) →
    AllReady w.clauses w.pairs trail trail → LooseAreTrue w.clauses w.pairs trail → All (SaysNothing trail) w.clauses
fixed w trail h consistent ready loose c clause inside = elim (lit-cases p.first p.second) [
  | inl same ↦ nothing_true trail (get_or w.clauses c clause) consistent (loose c no_pair clause within same)
  | inr differ ↦ says differ (ready c no_pair clause within differ)
] where
  no_pair : Pair
  no_pair = record { first = no_lit; second = no_lit }

  within : c < length w.pairs
  within = let same = h.paired in omega arith

  p : Pair
  p = get_or w.pairs c no_pair

  says : IsWatched p → Ready trail trail p (get_or w.clauses c clause) → SaysNothing trail (get_or w.clauses c clause)
  says differ (inl is) = nothing_true trail (get_or w.clauses c clause) consistent is
  says differ (inr (a, b)) = nothing_two trail (get_or w.clauses c clause) p.first p.second
      (h.stands c no_pair clause within p.first (watches_first p p.first differ refl)) (h.stands c no_pair clause within p.second (watches_second p p.second differ refl)) differ a b

closed_fixed : (clauses : List (List Lit)) (decisions trail : List Lit) → ((l : Lit) → Contains decisions l → Contains trail l) →
    All (SaysNothing trail) clauses → IsClosed clauses decisions (λ l. has l trail)
closed_fixed clauses decisions trail keeps fixed = record { decides = decides; closes = closes } where
  decides : All (λ l. IsTrue (has l trail)) decisions
  decides k d inside = contains_has (get_or decisions k d) trail (keeps (get_or decisions k d) (Contains-get_or decisions k d inside))

  closes : (clause : List Lit) (l : Lit) → Contains clauses clause → Contains clause l → Leaves (λ k. has k trail) clause l → IsTrue (has l trail)
  closes clause l stands in_clause leaves =
      let says : SaysNothing trail clause = All-contains (SaysNothing trail) clauses clause fixed stands in
      elim (cases_Bool (has l trail)) [
        | inl here ↦ here
        | inr not_here ↦ elim (cases_Bool (has (negation l) trail)) [
          | inl is_false ↦ absurd (says.0 (λ k d inside. elim (lit-cases (get_or clause k d) l) [
            | inl same ↦ has_contains (negation (get_or clause k d)) trail (ap (λ (x : Lit). has (negation x) trail) same ∙ is_false)
            | inr differs ↦ has_contains (negation (get_or clause k d)) trail (leaves k d inside differs)
          ]))
          | inr not_false ↦ absurd (says.1 l (record {
            stands = in_clause;
            is_open = (
              (λ h. both_ways (has l trail) not_here (contains_has l trail h)),
              (λ h. both_ways (has (negation l) trail) not_false (contains_has (negation l) trail h)),
            );
            alone = λ k d inside differs. has_contains (negation (get_or clause k d)) trail (leaves k d inside differs);
          }))
        ]
      ]

pub all_set_fixed : (clauses : List (List Lit)) (decisions trail : List Lit) → ((l : Lit) → Contains decisions l → Contains trail l) →
    All (Sets clauses decisions) trail → All (SaysNothing trail) clauses → AreAllSet clauses decisions trail
all_set_fixed clauses decisions trail keeps are fixed l = (
  (λ h. All-contains (Sets clauses decisions) trail l are h),
  (λ sets. has_contains l trail (sets (λ k. has k trail) (closed_fixed clauses decisions trail keeps fixed))),
)

pub no_conflict_fixed : (clauses : List (List Lit)) (decisions trail : List Lit) → ((l : Lit) → Contains decisions l → Contains trail l) →
    All (SaysNothing trail) clauses → Conflicts clauses decisions → ⊥
no_conflict_fixed clauses decisions trail keeps fixed (k, clause, inside, at, sets) =
    let says : SaysNothing trail clause = subst (SaysNothing trail) at (fixed k clause inside) in
    says.0 (λ i d within. has_contains (negation (get_or clause i d)) trail (sets i d within (λ l. has l trail) (closed_fixed clauses decisions trail keeps fixed)))

-- a clause whose variables are all set, and which is not false, has a true literal
has_true : (trail clause : List Lit) → All (λ l. Contains trail l ⊎ Contains trail (negation l)) clause → (All (IsFalse trail) clause → ⊥) → Any (Contains trail) clause
has_true trail [] total not_false = absurd (not_false (λ k d inside. absurd (omega arith)))
has_true trail (x ∷ xs) total not_false = elim (total 0 x (omega arith)) [
  | inl here ↦ (0, x, omega arith, refl, here)
  | inr is_false ↦ later (has_true trail xs (All-tail (λ l. Contains trail l ⊎ Contains trail (negation l)) x xs total) (λ rest. not_false (All-cons (IsFalse trail) x xs is_false rest)))
] where
  later : Any (Contains trail) xs → Any (Contains trail) (x ∷ xs)
  later (k, y, inside, at, is) = (suc k, y, omega arith, at, is)

pub total_satisfied : (clauses : List (List Lit)) (trail : List Lit) → All (SaysNothing trail) clauses → IsTotal clauses trail → HasTrueLiterals clauses trail
total_satisfied clauses trail fixed total c d inside = has_true trail (get_or clauses c d) (total c d inside) (fixed c d inside).0
