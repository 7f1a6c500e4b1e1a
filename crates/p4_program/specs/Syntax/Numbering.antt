-- The numbers of statements, read from a program in the order of its text.
use Rattle.std.specs.Prelude.{ℕ, List, [], ◌∷◌, ◌++◌, flat_map}
use Rattle.tg_base.specs.declared.place.Span.{Span}
use Rattle.p4_program.specs.Syntax.Callables.{CoreState, CoreCallable, OfAction, OfParser, OfControl}
use Rattle.p4_program.specs.Syntax.Programs.{CoreProgram}
use Rattle.p4_program.specs.Syntax.Statements.{CoreStatement, CoreStatements, CoreCases, Numbered, Declare, If, Switch, NoStatements, Then, NoCases, Case}

-- a statement with a number, at the place of its first token
pub record NumberedPlace : Type 0 where
  pub number : ℕ
  pub place : Span

abbrev pub place_of : NumberedPlace → Span
place_of s = s.place

abbrev mutual
  pub numbered_in : CoreStatement → List NumberedPlace
  numbered_in (Numbered number place work) = record { number = number; place = place } ∷ []
  numbered_in (Declare root value_type value) = []
  numbered_in (If place condition a b) = numbered_in_all a ++ numbered_in_all b
  numbered_in (Switch table cases) = numbered_in_cases cases

  pub numbered_in_all : CoreStatements → List NumberedPlace
  numbered_in_all NoStatements = []
  numbered_in_all (Then statement rest) = numbered_in statement ++ numbered_in_all rest

  pub numbered_in_cases : CoreCases → List NumberedPlace
  numbered_in_cases NoCases = []
  numbered_in_cases (Case labels body rest) = numbered_in_all body ++ numbered_in_cases rest

abbrev pub numbered_in_state : CoreState → List NumberedPlace
numbered_in_state state = numbered_in_all state.statements

abbrev pub numbered_in_callable : CoreCallable → List NumberedPlace
numbered_in_callable (OfAction a) = numbered_in_all a.body
numbered_in_callable (OfParser p) = numbered_in_all p.beginning ++ flat_map numbered_in_state p.states
numbered_in_callable (OfControl c) = numbered_in_all c.body

-- all statements of the program that have a number, also those that nothing reaches; a control has its statements once,
-- however many instances it has
abbrev pub statements_numbered : CoreProgram → List NumberedPlace
statements_numbered p = flat_map numbered_in_callable p.callables
