-- What one pass over the clauses does.
use Rattle.std.specs.Prelude.{◌<◌, List, length, All, Any, Contains}
use Rattle.cnf_core.specs.declared.formula.Lit.{Lit}
use Rattle.cnf_core.specs.Propagation.{Sets}
use Rattle.unit_propagation.specs.Units.{IsFalse}
use Rattle.unit_propagation.specs.Propagated.{SaysNothing}
use Rattle.unit_propagation.specs.declared.plain.Pass.{Pass}
use Rattle.unit_propagation.specs.declared.plain.Pass.TheVariants.{Conflict, Changed, Fixed}

-- full propagation sets each of the literals
abbrev pub AreSet : List (List Lit) → List Lit → List Lit → Type 0
AreSet clauses decided trail = All (Sets clauses decided) trail

-- the trail grew, by literals that propagation sets
pub record Grew (clauses : List (List Lit)) (old new : List Lit) : Type 0 where
  pub keeps : (l : Lit) → Contains old l → Contains new l
  pub sound : (decided : List Lit) → AreSet clauses decided old → AreSet clauses decided new

abbrev pub IsPass : List (List Lit) → List Lit → List Lit → Pass → Type 0
IsPass clauses old new Conflict = Any (All (IsFalse new)) clauses
IsPass clauses old new Changed = length old < length new
IsPass clauses old new Fixed = All (SaysNothing new) clauses
