-- The calls that stand in a body: of actions and of instances of controls, and applications of tables.
use Rattle.std.specs.Prelude.{ℕ, List, [], ◌∷◌, ◌++◌, flat_map, Option, Some, None}
use Rattle.p4_program.specs.Syntax.Callables.{CoreTable, CoreCallable, OfAction, OfParser, OfControl}
use Rattle.p4_program.specs.Syntax.Expressions.{CoreExpression, CoreOperations, Constant, Read, IsValid, Lookahead, Unary, Operations, Slice, Resize, Choice, PartOf, ValidityOf, Hit, NoOperations, Behind}
use Rattle.p4_program.specs.Syntax.Statements.{CoreArgument, In, Out, InOut, CoreWork, CoreStatement, CoreStatements, CoreCases, Numbered, Declare, If, Switch, NoStatements, Then, NoCases, Case}
use Rattle.p4_program.specs.Syntax.Statements as work

pub data CoreCall : Type 0 where
  -- the action of this number among the callables
  ToAction : (action : ℕ) → CoreCall
  -- the table of this number of the control
  ToTable : (table : ℕ) → CoreCall
  -- the instance of this number of the control
  ToChild : (child : ℕ) → CoreCall

abbrev mutual
  -- an expression applies tables where it asks whether they are hit
  pub calls_in_expression : CoreExpression → List CoreCall
  calls_in_expression (Constant scalar value) = []
  calls_in_expression (Read path) = []
  calls_in_expression (IsValid path) = []
  calls_in_expression (Lookahead width) = []
  calls_in_expression (Unary op e) = calls_in_expression e
  calls_in_expression (Operations e rest) = calls_in_expression e ++ calls_in_operations rest
  calls_in_expression (Slice e high low) = calls_in_expression e
  calls_in_expression (Resize signed width e) = calls_in_expression e
  calls_in_expression (Choice c a b) = calls_in_expression c ++ calls_in_expression a ++ calls_in_expression b
  calls_in_expression (PartOf e step) = calls_in_expression e
  calls_in_expression (ValidityOf e) = calls_in_expression e
  calls_in_expression (Hit table) = ToTable table ∷ []

  pub calls_in_operations : CoreOperations → List CoreCall
  calls_in_operations NoOperations = []
  calls_in_operations (Behind operator e rest) = calls_in_expression e ++ calls_in_operations rest

-- the value of an argument, where it is one
abbrev pub value_passed : CoreArgument → List CoreExpression
value_passed (In e) = e ∷ []
value_passed (Out path) = []
value_passed (InOut path) = []

-- the expressions of a numbered statement
abbrev pub expressions_in : CoreWork → List CoreExpression
expressions_in (work.Assign path e) = e ∷ []
expressions_in (work.AssignSlice path high low e) = e ∷ []
expressions_in work.Return = []
expressions_in work.Exit = []
expressions_in (work.CallAction action arguments) = flat_map value_passed arguments
expressions_in (work.ApplyTable table) = []
expressions_in (work.ApplyControl child arguments) = flat_map value_passed arguments
expressions_in (work.SetValid path) = []
expressions_in (work.SetInvalid path) = []
expressions_in (work.PushFront path count) = []
expressions_in (work.PopFront path count) = []
expressions_in (work.Extract path) = []
expressions_in (work.Advance count) = []
expressions_in (work.Verify condition error) = condition ∷ error ∷ []
expressions_in (work.Emit e) = e ∷ []
expressions_in (work.Evaluate es) = es
expressions_in (work.MarkToDrop path) = []
expressions_in (work.VerifyChecksum condition es expected algorithm) = condition ∷ expected ∷ es
expressions_in (work.UpdateChecksum condition es path algorithm) = condition ∷ es
expressions_in (work.Random path low high) = low ∷ high ∷ []
expressions_in (work.ExecuteMeter index path) = index ∷ []

-- what the statement calls itself
abbrev pub called_by : CoreWork → List CoreCall
called_by (work.CallAction action arguments) = ToAction action ∷ []
called_by (work.ApplyTable table) = ToTable table ∷ []
called_by (work.ApplyControl child arguments) = ToChild child ∷ []
called_by _ = []

abbrev pub calls_in_work : CoreWork → List CoreCall
calls_in_work w = called_by w ++ flat_map calls_in_expression (expressions_in w)

abbrev pub calls_in_value : Option CoreExpression → List CoreCall
calls_in_value None = []
calls_in_value (Some e) = calls_in_expression e

abbrev mutual
  pub calls_in_statement : CoreStatement → List CoreCall
  calls_in_statement (Numbered number place w) = calls_in_work w
  calls_in_statement (Declare root value_type value) = calls_in_value value
  calls_in_statement (If place condition a b) = calls_in_expression condition ++ calls_in a ++ calls_in b
  calls_in_statement (Switch table cases) = ToTable table ∷ calls_in_cases cases

  pub calls_in : CoreStatements → List CoreCall
  calls_in NoStatements = []
  calls_in (Then statement rest) = calls_in_statement statement ++ calls_in rest

  pub calls_in_cases : CoreCases → List CoreCall
  calls_in_cases NoCases = []
  calls_in_cases (Case labels body rest) = calls_in body ++ calls_in_cases rest

-- the calls in the body of a callable; a parser has none
abbrev pub calls_of : CoreCallable → List CoreCall
calls_of (OfAction a) = calls_in a.body
calls_of (OfParser q) = []
calls_of (OfControl c) = calls_in c.body

-- the tables that the keys of a table apply
abbrev pub calls_in_keys : CoreTable → List CoreCall
calls_in_keys t = flat_map (λ k. calls_in_expression k.value) t.keys
