-- How far clauses were looked at: one has a true literal, or neither of its watched literals was falsified so far.
use Rattle.std.specs.Prelude.{◌≡◌, ◌≢◌, ◌<◌, ◌+◌, ◌⊎◌, ℕ, List, true, false, Any, All, Contains, length, take, slice_set, slice_index_or, swap_remove}
use Rattle.cnf_core.specs.declared.formula.Lit.{Lit}
use Rattle.unit_propagation.specs.Units.{IsFalse}
use Rattle.unit_propagation.specs.Assigned.{Assigned}
use Rattle.unit_propagation.specs.Trail.{Implies}
use Rattle.unit_propagation.specs.Watching.{Watched, IsIndexed, IsOther, pair_of, list_at, watches}
use Rattle.unit_propagation.specs.declared.pair.Pair.{Pair}
use Rattle.unit_propagation.specs.declared.assignment.Cause.{Cause}
use Rattle.unit_propagation.specs.declared.propagation.Seen.{Seen}
use Rattle.unit_propagation.specs.declared.propagation.Seen.TheVariants.{Kept, Moved, Falsified}

-- neither of the two was falsified
abbrev pub AreFree : List Lit → Pair → Type 0
AreFree past p = ¬ IsFalse past p.first × ¬ IsFalse past p.second

-- of the literals of the trail, those of `past` were looked at
abbrev pub Ready : List Lit → List Lit → Pair → List Lit → Type 0
Ready trail past p clause = Any (Contains trail) clause ⊎ AreFree past p

-- two literals of the clause are watched
abbrev pub IsWatched : Pair → Type 0
IsWatched p = p.first ≢ p.second

-- each clause of which two literals are watched
abbrev pub AllReady : List (List Lit) → List Pair → List Lit → List Lit → Type 0
AllReady clauses pairs trail past =
    (c : ℕ) (p : Pair) (clause : List Lit) → c < length pairs → IsWatched (slice_index_or pairs c p) →
    Ready trail past (slice_index_or pairs c p) (slice_index_or clauses c clause)

-- of the literals of the trail those before a place were looked at
abbrev pub ReadyTo : List (List Lit) → List Pair → List Lit → ℕ → Type 0
ReadyTo clauses pairs trail n = AllReady clauses pairs trail (take n trail)

-- and the one at it
abbrev pub ReadyPast : Watched → Watched → List Lit → ℕ → Type 0
ReadyPast old new trail n = ReadyTo old.clauses new.pairs trail (n + 1)

-- literals that follow were set
abbrev pub Implied : List (List Lit) → Assigned → Assigned → Type 0
Implied clauses a b = Implies clauses a.trail a.causes b.trail b.causes

-- the lists name the clauses that watch their literals
abbrev pub IsWhole : Watched → Type 0
IsWhole w = IsIndexed w.width w.clauses w.pairs w.lists

-- clauses of which no two literals are watched have a true one
abbrev pub LooseAreTrue : List (List Lit) → List Pair → List Lit → Type 0
LooseAreTrue clauses pairs trail =
    (c : ℕ) (p : Pair) (clause : List Lit) → c < length pairs → (slice_index_or pairs c p).first ≡ (slice_index_or pairs c p).second →
    Any (Contains trail) (slice_index_or clauses c clause)

-- watches moved only to literals that the trail does not falsify
pub record KeepsReady (clauses : List (List Lit)) (old new : List Pair) (trail : List Lit) : Type 0 where
  pub size : length new ≡ length old
  pub ready : (part : List Lit) → ((l : Lit) → Contains part l → Contains trail l) → AllReady clauses old part part → AllReady clauses new part part
  pub pairs : (c : ℕ) (p : Pair) → c < length new → (slice_index_or new c p).first ≡ (slice_index_or new c p).second →
      (slice_index_or old c p).first ≡ (slice_index_or old c p).second

-- watches of the same clauses moved so
abbrev pub KeepsAll : Watched → Watched → List Lit → Type 0
KeepsAll w new trail = KeepsReady w.clauses w.pairs new.pairs trail

-- the clause at a place of the falsified literal's list
abbrev pub clause_at : Watched → Lit → ℕ → ℕ
clause_at w l place = slice_index_or (list_at w.lists l) place 0

-- the watch at the falsified literal moved to another that is not false
pub record WatchMoved (w new : Watched) (trail : List Lit) (from : Lit) (place : ℕ) : Type 0 where
  pub other : Lit
  pub to : Lit
  pub pair : (p : Pair) → IsOther (slice_index_or w.pairs (clause_at w from place) p) from other
  pub not_other : to ≢ other
  pub not_false : ¬ IsFalse trail to
  pub width : new.width ≡ w.width
  pub clauses : new.clauses ≡ w.clauses
  pub pairs : new.pairs ≡ slice_set w.pairs (clause_at w from place) (pair_of other to)
  pub list : list_at new.lists from ≡ swap_remove (list_at w.lists from) place (clause_at w from place)

-- the clause does not watch the literal, or has a true one
abbrev pub IsDone : Watched → List Lit → Lit → ℕ → Type 0
IsDone w trail from c =
    ((p : Pair) → watches (slice_index_or w.pairs c p) from ≡ false) ⊎ ((clause : List Lit) → Any (Contains trail) (slice_index_or w.clauses c clause))

-- what became of the clause at a place of the falsified literal's list
abbrev pub IsSeen : Watched → Watched → Assigned → Assigned → Lit → ℕ → Seen → Type 0
IsSeen w new a b from place Kept =
    (new ≡ w) × Implies w.clauses a.trail a.causes b.trail b.causes × IsDone w b.trail from (clause_at w from place)
IsSeen w new a b from place Moved = (b ≡ a) × WatchMoved w new a.trail from place
IsSeen w new a b from place Falsified =
    (new ≡ w) × (b ≡ a) × ((clause : List Lit) → All (IsFalse a.trail) (slice_index_or w.clauses (clause_at w from place) clause))

-- where propagation had ended each clause is ready
abbrev pub EndsReady : List (List Lit) → List Pair → List Lit → List Cause → Type 0
EndsReady clauses pairs trail causes =
    (n : ℕ) (c : Cause) → n < length causes → (slice_index_or causes n c).ended ≡ true → AllReady clauses pairs (take n trail) (take n trail)
