-- Reverse unit propagation along hints, as in LRAT (Cruz-Filipe, Heule, Hunt, Kaufmann and Schneider-Kamp, 2017).
use Rattle.std.specs.Prelude.{◌≡◌, ℕ, ◌-◌, ◌<◌, ◌⊎◌, ◌++◌, ◌∷◌, [], List, slice_get, Some, All}
use Rattle.cnf_core.specs.declared.formula.Lit.{Lit}
use Rattle.unit_propagation.specs.Units.{IsFalse, IsUnit}
use Rattle.unit_propagation.specs.ClauseStates.{IsState}
use Rattle.unit_propagation.specs.declared.clause_state.ClauseState.{ClauseState}
use Rattle.unit_propagation.specs.declared.clause_state.ClauseState.TheVariants.{Falsified, Unit as UnitOf, Other}

abbrev pub IsNumbered : List (List Lit) → ℕ → List Lit → Type 0
IsNumbered clauses number clause = (0 < number) × (slice_get clauses (number - 1) ≡ Some clause)

-- the clauses of the hints, in order, each set one literal, until the literals of one are all false
abbrev pub HintsConflict : List (List Lit) → List Lit → List ℕ → Type 0
HintsConflict clauses assigned [] = ⊥
HintsConflict clauses assigned (hint ∷ hints) =
    (clause : List Lit) × IsNumbered clauses hint clause ×
    (All (IsFalse assigned) clause ⊎ ((l : Lit) × IsUnit assigned clause l × HintsConflict clauses (assigned ++ l ∷ []) hints))

-- what the clause of a number says; `Other` also where there is none
abbrev pub IsHintState : List (List Lit) → List Lit → ℕ → ClauseState → Type 0
IsHintState clauses assigned number Falsified = (clause : List Lit) × IsNumbered clauses number clause × All (IsFalse assigned) clause
IsHintState clauses assigned number (UnitOf l) = (clause : List Lit) × IsNumbered clauses number clause × IsUnit assigned clause l
IsHintState clauses assigned number Other = (clause : List Lit) → IsNumbered clauses number clause → IsState assigned clause Other
