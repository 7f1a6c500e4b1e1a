-- What a clause says under literals that are true: one of its literals is false or open, or it is the unit.
use Rattle.std.specs.Prelude.{◌≢◌, ℕ, ◌<◌, List, All, Contains}
use Rattle.cnf_core.specs.declared.formula.Lit.{Lit}
use Rattle.cnf_core.specs.Literal.{negation}

abbrev pub IsFalse : List Lit → Lit → Type 0
IsFalse assigned l = Contains assigned (negation l)

abbrev pub IsOpen : List Lit → Lit → Type 0
IsOpen assigned l = ¬ Contains assigned l × ¬ Contains assigned (negation l)

-- the literal is the only one of the clause that is not false, and it is open
pub record IsUnit (assigned clause : List Lit) (l : Lit) : Type 0 where
  pub stands : Contains clause l
  pub is_open : IsOpen assigned l
  pub alone : All (λ k. k ≢ l → IsFalse assigned k) clause

-- the variables of the literals are below a number
abbrev pub IsWithin : ℕ → List Lit → Type 0
IsWithin width lits = All (λ l. l.var < width) lits

-- a literal of the clause, beside one of them, that is not false
pub record IsFree (assigned clause : List Lit) (other l : Lit) : Type 0 where
  pub stands : Contains clause l
  pub differs : l ≢ other
  pub not_false : ¬ IsFalse assigned l

-- no literal stands together with its negation
abbrev pub IsConsistent : List Lit → Type 0
IsConsistent assigned = (l : Lit) → Contains assigned l → ¬ Contains assigned (negation l)
