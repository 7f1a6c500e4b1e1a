-- Two watched literals for each clause, and for each literal the list of the clauses that watch it.
use Rattle.std.specs.Prelude.{◌≡◌, ◌≢◌, ◌⊎◌, ◌&&◌, ◌||◌, ◌<◌, ◌≤◌, ◌*◌, ◌∷◌, ◌++◌, [], ℕ, Bool, not, false, IsTrue, List, Some, All, Contains, length, count_by, slice_get, slice_index_or, slice_set, swap_remove, map, vec_capacity, Vec}
use Rattle.std.specs.Global.{Global}
use Rattle.cnf_core.specs.declared.formula.Lit.{Lit}
use Rattle.cnf_core.proofs.Literals.{lit_eq}
use Rattle.unit_propagation.specs.LitCodes.{code_of}
use Rattle.unit_propagation.specs.Units.{IsWithin}
use Rattle.unit_propagation.specs.declared.pair.Pair.{Pair}

-- the literal is one of the two that are watched; none is where both are the same
abbrev pub watches : Pair → Lit → Bool
watches p l = not (lit_eq p.first p.second) && (lit_eq p.first l || lit_eq p.second l)

abbrev pub pair_of : Lit → Lit → Pair
pair_of first second = record { first = first; second = second }

-- one literal of the pair is this one, and the other that
abbrev pub IsOther : Pair → Lit → Lit → Type 0
IsOther p l other = (other ≢ l) × (((p.first ≡ l) × (p.second ≡ other)) ⊎ ((p.first ≡ other) × (p.second ≡ l)))

-- the literal stands in the clause
abbrev pub has : Lit → List Lit → Bool
has l [] = false
has l (k ∷ ks) = lit_eq k l || has l ks

-- the clauses that watch the literal, and maybe others
abbrev pub list_at : List (List ℕ) → Lit → List ℕ
list_at lists l = slice_index_or lists (code_of l) []

-- the clauses in each list, and how many fit into it
abbrev pub items_of : List (Vec ℕ Global) → List (List ℕ)
items_of lists = map (λ v. v.items) lists

abbrev pub rooms_of : List (Vec ℕ Global) → List ℕ
rooms_of lists = map (λ v. vec_capacity v) lists

-- clauses over variables below `width`, with their watched literals
pub record Watched : Type 0 where
  pub width : ℕ
  pub clauses : List (List Lit)
  pub pairs : List Pair
  pub lists : List (List ℕ)

-- watched literals stand in their clauses, which are found in the literals' lists
pub record IsIndexed (width : ℕ) (clauses : List (List Lit)) (pairs : List Pair) (lists : List (List ℕ)) : Type 0 where
  pub within : All (IsWithin width) clauses
  pub paired : length pairs ≡ length clauses
  pub size : 2 * width ≤ length lists
  pub stands : (c : ℕ) (p : Pair) (clause : List Lit) → c < length pairs →
      (l : Lit) → IsTrue (watches (slice_index_or pairs c p) l) → Contains (slice_index_or clauses c clause) l
  pub listed : (c : ℕ) (p : Pair) → c < length pairs →
      (l : Lit) → IsTrue (watches (slice_index_or pairs c p) l) → Contains (list_at lists l) c
  pub entries : (l : Lit) → All (λ c. c < length pairs) (list_at lists l)
  pub counted : (l : Lit) → length (list_at lists l) ≤ count_by (λ p. watches p l) pairs

-- each literal's number is at least that of the clauses that have it
abbrev pub IsHeld : List (List Lit) → List ℕ → Type 0
IsHeld clauses held = (l : Lit) → count_by (has l) clauses ≤ slice_index_or held (code_of l) 0

-- no number is larger than the other list's
abbrev pub AtMost : List ℕ → List ℕ → Type 0
AtMost few more = (i : ℕ) → slice_index_or few i 0 ≤ slice_index_or more i 0

-- no number is larger than its room
abbrev pub HasRoom : List ℕ → List ℕ → Type 0
HasRoom held rooms = AtMost held rooms

-- the number of each of the literals grew
abbrev pub Grows : List Lit → List ℕ → List ℕ → Type 0
Grows lits old new =
    (l : Lit) → Contains lits l → slice_index_or old (code_of l) 0 < slice_index_or new (code_of l) 0

-- one number grew
abbrev pub HasLess : List ℕ → List ℕ → ℕ → Type 0
HasLess old new at = slice_index_or old at 0 < slice_index_or new at 0

-- each literal's list is as before
abbrev pub SameLists : List (List ℕ) → List (List ℕ) → Type 0
SameLists old new = (l : Lit) → list_at new l ≡ list_at old l

-- one more clause fits into the literal's list
abbrev pub Fits : List (List ℕ) → List ℕ → Lit → Type 0
Fits lists rooms l = length (list_at lists l) < slice_index_or rooms (code_of l) 0

-- the clause at the end of the literal's list
abbrev pub appended : List (List ℕ) → Lit → ℕ → List (List ℕ)
appended lists l c = slice_set lists (code_of l) (list_at lists l ++ c ∷ [])

-- the lists of the watched literals are there, and one more clause fits into each
abbrev pub ListsRoom : Pair → List (List ℕ) → List ℕ → Type 0
ListsRoom p lists rooms = (l : Lit) → IsTrue (watches p l) →
    (code_of l < length lists) × (length (list_at lists l) < slice_index_or rooms (code_of l) 0)

-- the clause stands at the end of the lists of its watched literals, and the other lists are as before
abbrev pub ListsClause : Pair → ℕ → List (List ℕ) → List (List ℕ) → Type 0
ListsClause p c old new = (l : Lit) →
    (IsTrue (watches p l) × (list_at new l ≡ list_at old l ++ c ∷ [])) ⊎ ((watches p l ≡ false) × (list_at new l ≡ list_at old l))

-- a clause of the literal's list can be watched at another literal, beside the one that stays
pub record MovesWatch (w : Watched) (c : ℕ) (from : Lit) (place : ℕ) (other to : Lit) : Type 0 where
  pub here : slice_get (list_at w.lists from) place ≡ Some c
  pub inside : c < length w.pairs
  pub pair : (p : Pair) → IsOther (slice_index_or w.pairs c p) from other
  pub stands : (clause : List Lit) → Contains (slice_index_or w.clauses c clause) to
  pub not_from : to ≢ from
  pub not_other : to ≢ other

-- the clause at the place left the literal's list
abbrev pub LeavesList : List (List ℕ) → List (List ℕ) → Lit → ℕ → ℕ → Type 0
LeavesList old new l place c = list_at new l ≡ swap_remove (list_at old l) place c
