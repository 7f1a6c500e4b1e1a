-- What a clause says under the literals that were set.
use Rattle.std.specs.Prelude.{◌++◌, List, All}
use Rattle.cnf_core.specs.declared.formula.Lit.{Lit}
use Rattle.unit_propagation.specs.Units.{IsFalse, IsUnit}
use Rattle.unit_propagation.specs.Propagated.{SaysNothing}
use Rattle.unit_propagation.specs.declared.clause_state.ClauseState.{ClauseState}
use Rattle.unit_propagation.specs.declared.clause_state.ClauseState.TheVariants.{Falsified, Unit as UnitOf, Other}

abbrev pub IsState : List Lit → List Lit → ClauseState → Type 0
IsState trail clause Falsified = All (IsFalse trail) clause
IsState trail clause (UnitOf l) = IsUnit trail clause l
IsState trail clause Other = SaysNothing trail clause

-- a list of literals says this, and then with more of them that
abbrev pub SaysWith : List Lit → ClauseState → List Lit → ClauseState → Type 0
SaysWith trail before more after = (lits : List Lit) → IsState trail lits before → IsState trail (lits ++ more) after
