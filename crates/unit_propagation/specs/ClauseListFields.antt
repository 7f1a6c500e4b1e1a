-- How the fields of a list of clauses fit together.
use Rattle.std.specs.Prelude.{List}
use Rattle.cnf_core.specs.declared.formula.Lit.{Lit}
use Rattle.unit_propagation.specs.ClauseLists.{cut, AreEnds}
use Rattle.unit_propagation.specs.declared.clause_list.ClauseList.TheInside.{Inside}

abbrev pub clauses_of : Inside → List (List Lit)
clauses_of a = cut 0 a.ends.items a.literals.items

abbrev pub IsClauseList : Inside → Type 0
IsClauseList a = AreEnds 0 a.ends.items a.literals.items
