-- How the fields of a table of variables fit together.
use Rattle.refutation_checker.specs.Variables.{Numbering, IsNumbering}
use Rattle.refutation_checker.specs.declared.variables.Variables.TheInside.{Inside}

abbrev pub numbering_of : Inside → Numbering
numbering_of a = record { inputs = a.inputs; zero = a.zero; others = a.others.items }

abbrev pub IsVariables : Inside → Type 0
IsVariables a = IsNumbering (numbering_of a)
