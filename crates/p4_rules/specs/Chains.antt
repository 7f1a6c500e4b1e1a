-- Calls inside one another: how long a chain of calls a part of the program heads. A call of an action or of a control is a link,
-- and so is the application of a table, with the calls of its keys and of its actions below it.
use Rattle.std.specs.Prelude.{ℕ, ◌+◌, ◌==◌, max, List, [], ◌∷◌, unwrap_or}
use Rattle.std.specs.Map.{lookup}
use Rattle.p4_program.specs.Syntax.Callables.{CoreTable}
use Rattle.p4_program.specs.Syntax.Calls.{CoreCall, ToAction, ToTable, ToChild, calls_in, calls_in_keys}
use Rattle.p4_program.specs.Syntax.Statements.{CoreStatements}

-- the length of the longest chain below a callable, and below a table and an instance of the control, by their numbers
pub record Depths : Type 0 where
  pub callables : List (ℕ × ℕ)
  pub tables : List (ℕ × ℕ)
  pub children : List (ℕ × ℕ)

abbrev pub no_depths : Depths
no_depths = record { callables = []; tables = []; children = [] }

abbrev pub depth_in : List (ℕ × ℕ) → ℕ → ℕ
depth_in known n = unwrap_or (lookup (λ m. m == n) known) 0

-- the longest chain that a call heads
abbrev pub of_call : Depths → CoreCall → ℕ
of_call d (ToAction n) = depth_in d.callables n + 1
of_call d (ToTable n) = depth_in d.tables n + 1
of_call d (ToChild n) = depth_in d.children n + 1

abbrev pub of_calls : Depths → List CoreCall → ℕ
of_calls d [] = 0
of_calls d (c ∷ cs) = max (of_call d c) (of_calls d cs)

-- the longest chain below a body
abbrev pub of_statements : Depths → CoreStatements → ℕ
of_statements d ss = of_calls d (calls_in ss)

-- the longest chain below one of these actions
abbrev pub below_actions : Depths → List ℕ → ℕ
below_actions d [] = 0
below_actions d (n ∷ ns) = max (depth_in d.callables n) (below_actions d ns)

-- the longest chain below a table that lists these actions
abbrev pub below_table : Depths → CoreTable → List ℕ → ℕ
below_table d t actions = max (of_calls d (calls_in_keys t)) (below_actions d (t.default_action ∷ actions))
