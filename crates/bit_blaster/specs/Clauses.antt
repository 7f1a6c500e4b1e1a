-- What clauses say of a circuit and a goal. Its inputs are their first variables.
use Rattle.std.specs.Prelude.{◌≡◌, ◌↔◌, ℕ, ◌≤◌, Bool, true, List, ◌++◌, length}
use Rattle.std.specs.List.{All, Any}
use Rattle.cnf_core.specs.declared.formula.Lit.{Lit}
use Rattle.cnf_core.specs.Literal.{IsApart}
use Rattle.cnf_core.specs.Propagation.{Sets}
use Rattle.cnf_core.specs.Truth.{SatisfiesAll}
use Rattle.bit_blaster.specs.declared.wire.Wire.{Wire}
use Rattle.bit_blaster.specs.Gate.{IsLiteralOf}
use Rattle.bit_blaster.specs.Netlist.{Netlist, StandsFor, variable_count}

-- values of the first variables extend to a valuation that satisfies the clauses
pub record IsExtendable (clauses : List (List Lit)) (values : List Bool) : Type 0 where
  pub more : List Bool
  pub satisfies : SatisfiesAll (values ++ more) clauses

-- the inputs that make the goal true are those that extend to a valuation that satisfies the clauses
pub record IsExact (net : Netlist) (goal : Wire) (clauses : List (List Lit)) : Type 0 where
  pub each : (inputs : List Bool) → length inputs ≡ net.inputs → StandsFor net inputs goal true ↔ IsExtendable clauses inputs

-- each of the first n variables is decided
abbrev pub DecidesFirst : ℕ → List Lit → Type 0
DecidesFirst n decided = (var : ℕ) → 1 ≤ var → var ≤ n → Any (λ l. l.var ≡ var) decided

-- full propagation sets each of the first n variables
abbrev pub SetsFirst : ℕ → List (List Lit) → List Lit → Type 0
SetsFirst n clauses decided = (var : ℕ) → 1 ≤ var → var ≤ n → (l : Lit) × (l.var ≡ var) × Sets clauses decided l

-- once the inputs are decided, full propagation sets all variables
pub record IsSettled (net : Netlist) (clauses : List (List Lit)) : Type 0 where
  pub each : (decided : List Lit) → DecidesFirst net.inputs decided → SetsFirst (variable_count net) clauses decided

-- each literal of the clause is of one of the first n variables, and no two are of the same
pub record IsClauseOf (n : ℕ) (clause : List Lit) : Type 0 where
  pub within : All (IsLiteralOf n) clause
  pub apart : IsApart clause
