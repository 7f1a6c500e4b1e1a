-- Clauses and an assignment, as a caller sees them.
use Rattle.std.specs.Prelude.{◌≡◌, ℕ, ◌++◌, ◌∷◌, [], List, Option, None, Contains, take, slice_index_or, ◌≤◌, true, ◌⊎◌, ⊤}
use Rattle.cnf_core.specs.declared.formula.Lit.{Lit}
use Rattle.cnf_core.specs.Literal.{negation}
use Rattle.cnf_core.specs.Propagation.{Sets, Conflicts}
use Rattle.unit_propagation.specs.Trail.{decided, Explains}
use Rattle.unit_propagation.specs.Propagated.{AreAllSet, IsTotal, HasTrueLiterals}
use Rattle.unit_propagation.specs.declared.assignment.Cause.{Cause}
use Rattle.unit_propagation.specs.declared.assignment.Truth.{Truth}
use Rattle.unit_propagation.specs.declared.assignment.Truth.TheVariants.{True, False, Open}

-- variable numbers are below `width`; a literal of the trail without a reason was decided
pub record Propagation : Type 0 where
  pub width : ℕ
  pub clauses : List (List Lit)
  pub trail : List Lit
  pub reasons : List (Option ℕ)

abbrev pub decisions : Propagation → List Lit
decisions p = decided p.trail p.reasons

-- with one clause more, at the end
abbrev pub with_clause : Propagation → List Lit → Propagation
with_clause p clause = record { width = p.width; clauses = p.clauses ++ clause ∷ []; trail = p.trail; reasons = p.reasons }

-- with one more literal decided
abbrev pub with_decision : Propagation → Lit → Propagation
with_decision p l = record { width = p.width; clauses = p.clauses; trail = p.trail ++ l ∷ []; reasons = p.reasons ++ None ∷ [] }

-- what was set before a place
abbrev pub undone : Propagation → ℕ → Propagation
undone p place = record { width = p.width; clauses = p.clauses; trail = take place p.trail; reasons = take place p.reasons }

-- the same clauses, and more literals set
pub record Extends (old new : Propagation) : Type 0 where
  pub width : new.width ≡ old.width
  pub clauses : new.clauses ≡ old.clauses
  pub more : List Lit
  pub trail : new.trail ≡ old.trail ++ more
  pub more_reasons : List (Option ℕ)
  pub reasons : new.reasons ≡ old.reasons ++ more_reasons

-- literals were set that nobody decided
pub record Continues (old new : Propagation) : Type 0 where
  pub width : new.width ≡ old.width
  pub clauses : new.clauses ≡ old.clauses
  pub more : List Lit
  pub trail : new.trail ≡ old.trail ++ more
  pub more_reasons : List (Option ℕ)
  pub reasons : new.reasons ≡ old.reasons ++ more_reasons
  pub decides : decisions new ≡ decisions old

-- the clause was a unit under the literals before, which is the literal at the place
abbrev pub ExplainsPlace : Propagation → ℕ → ℕ → Type 0
ExplainsPlace p place c = (l : Lit) → Explains p.clauses p.trail place c (slice_index_or p.trail place l)

-- propagation had ended at the place, or it is the start
abbrev pub IsEnd : List Cause → ℕ → ℕ → Type 0
IsEnd causes place end = (end ≤ place) × ((end ≡ 0) ⊎ ((c : Cause) → (slice_index_or causes end c).ended ≡ true))

-- the trail is the least closed set that has what was decided before
abbrev pub IsFull : Propagation → Propagation → Type 0
IsFull old new = AreAllSet old.clauses (decisions old) new.trail

-- where each variable is set, each clause has a true literal
abbrev pub IsSatisfiedIfTotal : Propagation → Type 0
IsSatisfiedIfTotal p = IsTotal p.clauses p.trail → HasTrueLiterals p.clauses p.trail

-- the decided literals set the literal's negation, which was decided itself, or the literal conflicts with them
pub record IsRefuted (clauses : List (List Lit)) (decided : List Lit) (l : Lit) : Type 0 where
  pub sets : Sets clauses decided (negation l)
  pub why : Contains decided (negation l) ⊎ Conflicts clauses (decided ++ l ∷ [])

-- why a literal stands as it does
abbrev pub FollowsAs : Propagation → Lit → Truth → Type 0
FollowsAs p l True = Sets p.clauses (decisions p) l
FollowsAs p l False = IsRefuted p.clauses (decisions p) l
FollowsAs p l Open = ⊤
