-- Statements without pointers (P4-16, "Statements").
use Rattle.std.specs.Prelude.{ℕ, List, Option}
use Rattle.tg_base.specs.declared.place.Span.{Span}
use Rattle.p4_program.specs.declared.typed.paths.Path.{Path}
use Rattle.p4_program.specs.declared.typed.paths.Root.{Root}
use Rattle.p4_program.specs.declared.typed.statements.Algorithm.{Algorithm}
use Rattle.p4_program.specs.declared.typed.statements.Label.{Label}
use Rattle.p4_program.specs.declared.typed.types.ValueType.{ValueType}
use Rattle.p4_program.specs.Syntax.Expressions.{CoreExpression}

-- what is passed for a parameter, by its direction ("Calling convention: call by copy in/copy out")
pub data CoreArgument : Type 0 where
  In : CoreExpression → CoreArgument
  Out : Path → CoreArgument
  InOut : Path → CoreArgument

-- what a numbered statement does
pub data CoreWork : Type 0 where
  Assign : Path → CoreExpression → CoreWork
  AssignSlice : Path → (high low : ℕ) → CoreExpression → CoreWork
  Return : CoreWork
  Exit : CoreWork
  -- the action of this number among the callables
  CallAction : (action : ℕ) → List CoreArgument → CoreWork
  -- the table of this number of the control
  ApplyTable : (table : ℕ) → CoreWork
  -- the instance of this number of the control
  ApplyControl : (child : ℕ) → List CoreArgument → CoreWork
  -- "Operations on headers"
  SetValid : Path → CoreWork
  SetInvalid : Path → CoreWork
  -- "Operations on header stacks"
  PushFront : Path → (count : ℕ) → CoreWork
  PopFront : Path → (count : ℕ) → CoreWork
  -- "Data extraction" and "Skipping bits"
  Extract : Path → CoreWork
  Advance : (bits : ℕ) → CoreWork
  -- "The verify statement": the condition, and the error where it does not hold
  Verify : (condition error : CoreExpression) → CoreWork
  -- "Data insertion into packets"
  Emit : CoreExpression → CoreWork
  -- a call that evaluates its arguments and changes nothing, as those of counters and `log_msg` (v1model.p4)
  Evaluate : List CoreExpression → CoreWork
  -- v1model.p4: on standard metadata
  MarkToDrop : Path → CoreWork
  -- v1model.p4: the condition, the data, the sum that is expected or the path that takes it, and the algorithm
  VerifyChecksum : (condition : CoreExpression) → (data_words : List CoreExpression) → (sum : CoreExpression) → Algorithm → CoreWork
  UpdateChecksum : (condition : CoreExpression) → (data_words : List CoreExpression) → (sum : Path) → Algorithm → CoreWork
  -- v1model.p4: the path that takes the number, and the ends of its range
  Random : Path → (low high : CoreExpression) → CoreWork
  -- v1model.p4: the index, and the path that takes the colour
  ExecuteMeter : CoreExpression → Path → CoreWork

mutual
  pub data CoreStatement : Type 0 where
    -- a numbered statement, at the place of its first token
    Numbered : (number : ℕ) → Span → CoreWork → CoreStatement
    -- a variable takes this value, or is uninitialised
    Declare : Root → ValueType → Option CoreExpression → CoreStatement
    -- the place of `if`, the condition, and the statements where it holds and where it does not
    If : Span → CoreExpression → (yes no : CoreStatements) → CoreStatement
    -- the application of the table of this number of the control, and the cases on its `action_run`
    Switch : (table : ℕ) → CoreCases → CoreStatement

  pub data CoreStatements : Type 0 where
    NoStatements : CoreStatements
    Then : CoreStatement → CoreStatements → CoreStatements

  pub data CoreCases : Type 0 where
    NoCases : CoreCases
    -- the labels that share a body, the body, and the cases behind
    Case : List Label → CoreStatements → CoreCases → CoreCases
