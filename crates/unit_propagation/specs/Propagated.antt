-- How far propagation has come, and what no clause can go on from.
use Rattle.std.specs.Prelude.{◌<◌, ◌↔◌, ◌⊎◌, ℕ, List, All, Any, Contains, length, slice_index_or}
use Rattle.cnf_core.specs.declared.formula.Lit.{Lit}
use Rattle.cnf_core.specs.Literal.{negation}
use Rattle.cnf_core.specs.Propagation.{Sets}
use Rattle.unit_propagation.specs.Units.{IsFalse, IsUnit}

-- the clause is not false, and leaves no literal that is open
abbrev pub SaysNothing : List Lit → List Lit → Type 0
SaysNothing trail clause = ¬ All (IsFalse trail) clause × ((l : Lit) → ¬ IsUnit trail clause l)

-- the trail has exactly what full propagation sets
abbrev pub AreAllSet : List (List Lit) → List Lit → List Lit → Type 0
AreAllSet clauses decisions trail = (l : Lit) → Contains trail l ↔ Sets clauses decisions l

-- the clause of that number is false
abbrev pub IsFalseClause : List (List Lit) → List Lit → ℕ → Type 0
IsFalseClause clauses trail c = (c < length clauses) × ((clause : List Lit) → All (IsFalse trail) (slice_index_or clauses c clause))

-- each variable of the clauses is set
abbrev pub IsTotal : List (List Lit) → List Lit → Type 0
IsTotal clauses trail = All (λ clause. All (λ l. Contains trail l ⊎ Contains trail (negation l)) clause) clauses

-- each clause has a literal that is set
abbrev pub HasTrueLiterals : List (List Lit) → List Lit → Type 0
HasTrueLiterals clauses trail = All (λ clause. Any (Contains trail) clause) clauses
