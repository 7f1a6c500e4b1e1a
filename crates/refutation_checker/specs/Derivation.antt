-- A derivation: a formula over input and other variables, and what was derived from it, in order.
use Rattle.std.specs.Prelude.{◌≡◌, ℕ, ◌<◌, ◌≤◌, ◌⊎◌, ◌++◌, ◌∷◌, [], List, Any, map, take}
use Rattle.cnf_core.specs.declared.formula.Lit.{Lit}
use Rattle.cnf_core.specs.declared.derivation.Derived.{Derived}
use Rattle.cnf_core.specs.declared.derivation.Derived.TheVariants.{Cube, Step}
use Rattle.cnf_core.specs.Literal.{negation}

-- variables 1 to `inputs` are the inputs
pub record Derivation : Type 0 where
  pub inputs : ℕ
  pub clauses : List (List Lit)
  pub derived : List Derived

-- the clause that a line counts as: a step's own, and of a cube that of the negations of its literals
abbrev pub clause_of : Derived → List Lit
clause_of (Cube lits) = map negation lits
clause_of (Step step) = step.clause

-- the clauses in the order of their numbers, which are from 1
abbrev pub known : Derivation → List (List Lit)
known d = d.clauses ++ map clause_of d.derived

-- the formula and the lines before one
abbrev pub before : Derivation → ℕ → Derivation
before d i = record { inputs = d.inputs; clauses = d.clauses; derived = take i d.derived }

-- the derivation with a line at its end
abbrev pub extended : Derivation → Derived → Derivation
extended d line = record { inputs = d.inputs; clauses = d.clauses; derived = d.derived ++ line ∷ [] }

abbrev pub IsInput : ℕ → ℕ → Type 0
IsInput inputs var = (0 < var) × (var ≤ inputs)

-- the variable is an input or stands in a clause
abbrev pub IsVariable : ℕ → List (List Lit) → ℕ → Type 0
IsVariable inputs clauses var = IsInput inputs var ⊎ Any (Any (λ l. l.var ≡ var)) clauses
