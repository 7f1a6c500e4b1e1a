-- Truth in propositional logic: a clause is true where one of its literals is, a formula where each of its clauses is.
use Rattle.std.specs.Prelude.{◌≡◌, ◌-◌, ◌<◌, ◌≤◌, Bool, List, length, slice_get, Some, All, Any}
use Rattle.cnf_core.specs.declared.formula.Lit.{Lit}

-- the valuation gives the literal's variable, and gives it the literal's sign
abbrev pub IsTrueUnder : List Bool → Lit → Type 0
IsTrueUnder valuation l = (0 < l.var) × (slice_get valuation (l.var - 1) ≡ Some l.positive)

-- a clause is true
abbrev pub Satisfies : List Bool → List Lit → Type 0
Satisfies valuation clause = Any (IsTrueUnder valuation) clause

-- a formula is true
abbrev pub SatisfiesAll : List Bool → List (List Lit) → Type 0
SatisfiesAll valuation clauses = All (Satisfies valuation) clauses

-- no valuation makes the formula true
abbrev pub IsUnsatisfiable : List (List Lit) → Type 0
IsUnsatisfiable clauses = (valuation : List Bool) → ¬ SatisfiesAll valuation clauses

-- the valuation gives each variable of the clause
abbrev pub HasVariables : List Bool → List Lit → Type 0
HasVariables valuation clause = All (λ l. (0 < l.var) × (l.var ≤ length valuation)) clause
