-- Clauses without two different literals: none of them is watched.
use Rattle.std.specs.Prelude.{◌≡◌, ◌≢◌, ◌⊎◌, ◌<◌, ◌≤◌, ◌++◌, ◌∷◌, [], ℕ, List, All, Any, Contains, length, take, slice_index_or}
use Rattle.cnf_core.specs.declared.formula.Lit.{Lit}
use Rattle.unit_propagation.specs.Units.{IsFalse}
use Rattle.unit_propagation.specs.declared.pair.Pair.{Pair}
use Rattle.unit_propagation.specs.declared.choice.LatePick.{LatePick}
use Rattle.unit_propagation.specs.declared.loose.LooseClauses.{LooseClauses}

-- no two literals of the clause differ
abbrev pub IsOne : List Lit → Type 0
IsOne clause = (k l : Lit) → Contains clause k → Contains clause l → k ≡ l

abbrev pub IsLoose : List (List Lit) → ℕ → Type 0
IsLoose clauses c = (c < length clauses) × ((clause : List Lit) → IsOne (slice_index_or clauses c clause))

abbrev pub AreLoose : List (List Lit) → List ℕ → Type 0
AreLoose clauses loose = All (IsLoose clauses) loose

-- each clause of which no two literals are watched is in the list
abbrev pub ListsLoose : List Pair → List ℕ → Type 0
ListsLoose pairs loose =
    (c : ℕ) (p : Pair) → c < length pairs → (slice_index_or pairs c p).first ≡ (slice_index_or pairs c p).second → Contains loose c

-- the clause is false, or has a true literal
abbrev pub IsFalsified : List (List Lit) → List Lit → ℕ → Type 0
IsFalsified clauses trail c = All (IsFalse trail) (slice_index_or clauses c [])

abbrev pub HasTrue : List (List Lit) → List Lit → ℕ → Type 0
HasTrue clauses trail c = Any (Contains trail) (slice_index_or clauses c [])

-- each of the clauses has a true literal
abbrev pub AreTrue : List (List Lit) → List ℕ → List Lit → Type 0
AreTrue clauses loose trail = All (λ c. (clause : List Lit) → Any (Contains trail) (slice_index_or clauses c clause)) loose

-- two different literals of the clause that are not false
pub record IsFreePair (trail clause : List Lit) (p : Pair) : Type 0 where
  pub first : Contains clause p.first
  pub second : Contains clause p.second
  pub differ : p.first ≢ p.second
  pub first_free : ¬ IsFalse trail p.first
  pub second_free : ¬ IsFalse trail p.second

-- two different literals of the clause, or one twice where no two differ
abbrev pub IsAnyPair : List Lit → Pair → Type 0
IsAnyPair clause p =
    (Contains clause p.first × Contains clause p.second × (p.first ≢ p.second)) ⊎ ((p.first ≡ p.second) × IsOne clause)

-- each of the clauses before a place in the list has a true literal in the first part of the trail
pub record IsSettled (clauses : List (List Lit)) (trail : List Lit) (loose : LooseClauses) : Type 0 where
  pub within : loose.settled ≤ length loose.numbers.items
  pub inside : loose.reach ≤ length trail
  pub are_true : AreTrue clauses (take loose.settled loose.numbers.items) (take loose.reach trail)

-- what was known of the clauses is known of them after the trail was taken back to a place
abbrev pub StaysSettled : LooseClauses → LooseClauses → ℕ → Type 0
StaysSettled old new place =
    (clauses : List (List Lit)) (trail : List Lit) → IsSettled clauses trail old → IsSettled clauses (take place trail) new

-- the clause goes to the end of the list where no two of its literals are watched
abbrev pub NotesLoose : Pair → ℕ → List ℕ → List ℕ → Type 0
NotesLoose p c old new = ((p.first ≡ p.second) × (new ≡ old ++ c ∷ [])) ⊎ ((p.first ≢ p.second) × (new ≡ old))

-- a literal of the clause that is not this one, or this one where there is no other
abbrev pub IsDiffering : List Lit → Lit → Lit → Type 0
IsDiffering clause l k = (Contains clause k × (k ≢ l)) ⊎ ((k ≡ l) × All (λ m. m ≡ l) clause)

-- a literal of the clause that is not falsified before its place in the trail
abbrev pub IsPick : List Lit → List Lit → LatePick → Type 0
IsPick trail clause pick = Contains clause pick.literal × (pick.place ≤ length trail) × ¬ IsFalse (take pick.place trail) pick.literal

-- and which is falsified at it, before another place
pub record IsPickBefore (trail clause : List Lit) (before : ℕ) (pick : LatePick) : Type 0 where
  pub is_pick : IsPick trail clause pick
  pub earlier : pick.place < before
  pub falsified : IsFalse (take before trail) pick.literal
