-- The trail: which of its literals were decided, and that the others follow by their reasons.
use Rattle.std.specs.Prelude.{◌≡◌, ◌<◌, ◌≤◌, ◌++◌, ℕ, true, false, List, [], ◌∷◌, Option, Some, None, All, map, length, take, slice_get, slice_index_or}
use Rattle.cnf_core.specs.declared.formula.Lit.{Lit}
use Rattle.unit_propagation.specs.Units.{IsUnit}
use Rattle.unit_propagation.specs.declared.assignment.Cause.{Cause}

-- the literals of the trail that have no reason
abbrev pub decided : List Lit → List (Option ℕ) → List Lit
decided [] reasons = []
decided (l ∷ ls) [] = l ∷ ls
decided (l ∷ ls) (None ∷ rs) = l ∷ decided ls rs
decided (l ∷ ls) (Some c ∷ rs) = decided ls rs

-- the reason's clause was a unit under the literals before
abbrev pub Explains : List (List Lit) → List Lit → ℕ → ℕ → Lit → Type 0
Explains clauses trail place c l = (clause : List Lit) × (slice_get clauses c ≡ Some clause) × IsUnit (take place trail) clause l

-- each literal with a reason follows by it
abbrev pub IsJustified : List (List Lit) → List Lit → List (Option ℕ) → Type 0
IsJustified clauses trail reasons =
    (place c : ℕ) (l : Lit) → place < length trail → slice_index_or reasons place None ≡ Some c →
    Explains clauses trail place c (slice_index_or trail place l)

abbrev pub reasons_of : List Cause → List (Option ℕ)
reasons_of causes = map (λ c. c.reason) causes

-- of the places at which propagation had ended only those up to a place are still known
abbrev pub EndsUpTo : ℕ → List Cause → List Cause → Type 0
EndsUpTo place old new = (n : ℕ) (c : Cause) → n < length new → (slice_index_or new n c).ended ≡ true →
    (n ≤ place) × ((slice_index_or old n c).ended ≡ true)

-- literals that follow were set at the end of the trail
pub record Implies (clauses : List (List Lit)) (old : List Lit) (old_causes : List Cause) (new : List Lit) (new_causes : List Cause) : Type 0 where
  pub more : List Lit
  pub more_causes : List Cause
  pub trail : new ≡ old ++ more
  pub causes : new_causes ≡ old_causes ++ more_causes
  pub not_ended : All (λ c. c.ended ≡ false) more_causes
  pub sized : length old_causes ≡ length old → length new_causes ≡ length new
  pub decides : length old_causes ≡ length old → decided new (reasons_of new_causes) ≡ decided old (reasons_of old_causes)
  pub justified : length old_causes ≡ length old → IsJustified clauses old (reasons_of old_causes) → IsJustified clauses new (reasons_of new_causes)
