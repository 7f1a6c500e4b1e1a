-- Tables, actions, parsers and controls without pointers (P4-16, "Actions", "Packet parsing" and "Control blocks").
use Rattle.std.specs.Prelude.{ℕ, List, Option}
use Rattle.bits_core.specs.declared.number.Bits.{Bits}
use Rattle.p4_program.specs.declared.typed.callables.Parameter.{Parameter}
use Rattle.p4_program.specs.declared.typed.callables.SelectCase.{SelectCase}
use Rattle.p4_program.specs.declared.typed.callables.Target.{Target}
use Rattle.p4_program.specs.declared.typed.tables.ConstantEntry.{ConstantEntry}
use Rattle.p4_program.specs.declared.typed.tables.ListedAction.{ListedAction}
use Rattle.p4_program.specs.declared.typed.tables.MatchKind.{MatchKind}
use Rattle.p4_program.specs.declared.typed.types.ValueType.{ValueType}
use Rattle.p4_program.specs.Syntax.Expressions.{CoreExpression}
use Rattle.p4_program.specs.Syntax.Statements.{CoreStatements}

-- a key of a table, and its name in tests
pub record CoreKey : Type 0 where
  pub value : CoreExpression
  pub match_kind : MatchKind
  pub width : ℕ
  pub name : List ℕ

-- a table of a control
pub record CoreTable : Type 0 where
  pub keys : List CoreKey
  pub actions : List ListedAction
  -- the action without a match, by its number among the callables, and its arguments
  pub default_action : ℕ
  pub default_arguments : List Bits
  -- the constant entries, where the table has them
  pub entries : Option (List ConstantEntry)

-- an action: the number of the control that declares it, and its frame, parameters first
pub record CoreAction : Type 0 where
  pub within : Option ℕ
  pub parameters : List Parameter
  pub variables : List ValueType
  pub body : CoreStatements

-- a control: its body is the declarations of its variables and the statements of `apply`; the numbers of its children are
-- those of the controls of which it has instances
pub record CoreControl : Type 0 where
  pub parameters : List Parameter
  pub variables : List ValueType
  pub body : CoreStatements
  pub tables : List CoreTable
  pub children : List ℕ

-- what follows a state: one target, or the values of a `select` and its cases in order
pub data CoreTransition : Type 0 where
  To : Target → CoreTransition
  Select : List CoreExpression → List SelectCase → CoreTransition

pub record CoreState : Type 0 where
  pub statements : CoreStatements
  pub transition : CoreTransition

-- a parser: the declarations of its variables, its states, and the number of the state `start`
pub record CoreParser : Type 0 where
  pub parameters : List Parameter
  pub variables : List ValueType
  pub beginning : CoreStatements
  pub states : List CoreState
  pub start : ℕ

pub data CoreCallable : Type 0 where
  OfAction : CoreAction → CoreCallable
  OfParser : CoreParser → CoreCallable
  OfControl : CoreControl → CoreCallable
