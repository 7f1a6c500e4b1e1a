-- How many statements and variables a part of a source has: their numbers and places follow from what stands before them.
use Rattle.std.specs.Prelude.{ℕ, ◌+◌, List, [], ◌∷◌}
use Rattle.p4_tree.specs.declared.statements.Block.{Block', Row_of-BlockPart, end_of-BlockPart, more_of-BlockPart}
use Rattle.p4_tree.specs.declared.statements.BlockPart.{BlockPart}
use Rattle.p4_tree.specs.declared.statements.BlockPartKind.{BlockPartKind}
use Rattle.p4_tree.specs.declared.statements.BlockPartKind.TheVariants as part
use Rattle.p4_tree.specs.declared.statements.StatementKind.{StatementKind, end_of-Statement, more_of-Statement, Held-StatementKind-If-2, StatementKind-If-2-None', StatementKind-If-2-Some', Row_of-SwitchCase, end_of-SwitchCase, more_of-SwitchCase}
use Rattle.p4_tree.specs.declared.statements.StatementKind.TheVariants as statement
use Rattle.p4_tree.specs.declared.statements.SwitchCase.{SwitchCase', Held-SwitchCase-body, SwitchCase-body-None', SwitchCase-body-Some'}

-- so many statements with numbers, and so many variables
pub record Count : Type 0 where
  pub statements : ℕ
  pub variables : ℕ

abbrev pub none : Count
none = record { statements = 0; variables = 0 }

abbrev pub one_statement : Count
one_statement = record { statements = 1; variables = 0 }

abbrev pub one_variable : Count
one_variable = record { statements = 0; variables = 1 }

abbrev pub sum_of : Count → Count → Count
sum_of a b = record { statements = a.statements + b.statements; variables = a.variables + b.variables }

-- An assignment, a call, `return` and `exit` are statements with a number; a declaration, a condition, an `if` and a `switch`
-- have none.
abbrev mutual
  pub count_of : StatementKind → Count
  count_of statement.Empty = none
  count_of (statement.Block (Block' count row place)) = count_of_parts row
  count_of statement.Exit = one_statement
  count_of statement.Return = one_statement
  count_of (statement.If' e one (more_of-Statement k s end_of-Statement) other) = sum_of (count_of k) (count_of_else other)
  count_of (statement.Switch' e count row) = count_of_cases row
  count_of (statement.Assign target e) = one_statement
  count_of (statement.Call e) = one_statement

  pub count_of_else : Held-StatementKind-If-2 → Count
  count_of_else StatementKind-If-2-None' = none
  count_of_else (StatementKind-If-2-Some' one (more_of-Statement k s end_of-Statement)) = count_of k

  pub count_of_cases : {n : _} → Row_of-SwitchCase n → Count
  count_of_cases end_of-SwitchCase = none
  count_of_cases (more_of-SwitchCase (SwitchCase' label body place) rest) = sum_of (count_of_body body) (count_of_cases rest)

  pub count_of_body : Held-SwitchCase-body → Count
  count_of_body SwitchCase-body-None' = none
  count_of_body (SwitchCase-body-Some' (Block' count row place)) = count_of_parts row

  pub count_of_parts : {n : _} → Row_of-BlockPart n → Count
  count_of_parts end_of-BlockPart = none
  count_of_parts (more_of-BlockPart notes k rest) = sum_of (count_of_part k) (count_of_parts rest)

  pub count_of_part : BlockPartKind → Count
  count_of_part (part.Statement' k s) = count_of k
  count_of_part (part.Constant c) = none
  count_of_part (part.Variable v) = one_variable

-- The parts of a state stand in a list.
abbrev pub count_of_list : List BlockPart → Count
count_of_list [] = none
count_of_list (p ∷ ps) = sum_of (count_of_part p.kind) (count_of_list ps)
