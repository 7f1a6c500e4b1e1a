-- The rows of operators of the rules that rows in code are.
use Rattle.p4_rules.specs.Operators as rules
use Rattle.p4_consts.specs.declared.operators.Row.{Row}
use Rattle.p4_consts.specs.declared.operators.Row.TheVariants as row

abbrev pub row_in : Row → rules.Row
row_in row.Arithmetic = rules.Arithmetic
row_in row.Division = rules.Division
row_in row.Shift = rules.Shift
row_in row.Concatenation = rules.Concatenation
row_in row.Order = rules.Order
row_in row.Equality = rules.Equality
row_in row.Logic = rules.Logic
