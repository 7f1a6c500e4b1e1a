-- The tables, actions, parsers and controls that trees stand for. A body is a `Vec` of statements.
use Rattle.std.specs.Prelude.{map}
use Rattle.p4_program.specs.declared.typed.callables.Action.{Action}
use Rattle.p4_program.specs.declared.typed.callables.Callable.{Callable}
use Rattle.p4_program.specs.declared.typed.callables.Callable.TheVariants as tree
use Rattle.p4_program.specs.declared.typed.callables.Control.{Control}
use Rattle.p4_program.specs.declared.typed.callables.Parser.{Parser}
use Rattle.p4_program.specs.declared.typed.callables.State.{State}
use Rattle.p4_program.specs.declared.typed.callables.Transition.{Transition}
use Rattle.p4_program.specs.declared.typed.callables.Transition.TheVariants as transition
use Rattle.p4_program.specs.declared.typed.tables.Table.{Table}
use Rattle.p4_program.specs.declared.typed.tables.TableKey.{TableKey}
use Rattle.p4_program.specs.Syntax.Callables.{CoreKey, CoreTable, CoreAction, CoreParser, CoreState, CoreControl, CoreTransition, CoreCallable}
use Rattle.p4_program.specs.Syntax.Callables as core
use Rattle.p4_program.specs.Trees.Expressions.{expression_of, expressions_of}
use Rattle.p4_program.specs.Trees.Statements.{statements_of}

abbrev pub key_of : TableKey → CoreKey
key_of k = record { value = expression_of k.value; match_kind = k.match_kind; width = k.width; name = k.name }

abbrev pub table_of : Table → CoreTable
table_of t =
    record {
      keys = map key_of t.keys;
      actions = t.actions;
      default_action = t.default_action;
      default_arguments = t.default_arguments;
      entries = t.entries;
    }

abbrev pub action_of : Action → CoreAction
action_of a =
    record {
      within = a.within;
      parameters = a.parameters;
      variables = a.variables;
      body = statements_of a.body.items;
    }

abbrev pub control_of : Control → CoreControl
control_of c =
    record {
      parameters = c.parameters;
      variables = c.variables;
      body = statements_of c.body.items;
      tables = map table_of c.tables;
      children = c.children;
    }

abbrev pub transition_of : Transition → CoreTransition
transition_of (transition.To target) = core.To target
transition_of (transition.Select values cases) = core.Select (expressions_of values) cases

abbrev pub state_of : State → CoreState
state_of s = record { statements = statements_of s.statements.items; transition = transition_of s.transition }

abbrev pub parser_of : Parser → CoreParser
parser_of p =
    record {
      parameters = p.parameters;
      variables = p.variables;
      beginning = statements_of p.beginning.items;
      states = map state_of p.states;
      start = p.start;
    }

abbrev pub callable_of : Callable → CoreCallable
callable_of (tree.OfAction a) = core.OfAction (action_of a)
callable_of (tree.OfParser p) = core.OfParser (parser_of p)
callable_of (tree.OfControl c) = core.OfControl (control_of c)
