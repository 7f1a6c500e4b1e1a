-- Unit propagation (Davis and Putnam's one-literal rule): the literals that it sets, and when it conflicts.
use Rattle.std.specs.Prelude.{◌≢◌, IsTrue, List, All, Any, Contains}
use Rattle.cnf_core.specs.declared.formula.Lit.{Lit}
use Rattle.cnf_core.specs.Literal.{LitSet, negation}

-- each literal of the clause but this one is false under the set
abbrev pub Leaves : LitSet → List Lit → Lit → Type 0
Leaves set clause l = All (λ k. k ≢ l → IsTrue (set (negation k))) clause

-- a set that has the decided literals and, where a clause leaves one literal, that literal
pub record IsClosed (clauses : List (List Lit)) (decided : List Lit) (set : LitSet) : Type 0 where
  pub decides : All (λ l. IsTrue (set l)) decided
  pub closes : (clause : List Lit) (l : Lit) → Contains clauses clause → Contains clause l → Leaves set clause l → IsTrue (set l)

-- full propagation sets the literal: it is in the least closed set, which is in every closed one
abbrev pub Sets : List (List Lit) → List Lit → Lit → Type 0
Sets clauses decided l = (set : LitSet) → IsClosed clauses decided set → IsTrue (set l)

-- full propagation conflicts: it makes each literal of some clause false
abbrev pub Conflicts : List (List Lit) → List Lit → Type 0
Conflicts clauses decided = Any (All (λ l. Sets clauses decided (negation l))) clauses
