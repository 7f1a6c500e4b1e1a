-- What actions and controls do. An action calls actions before it, and a control has instances that stand before its own, so
-- each is built of those that are known already (P4-16, "Actions", "Control blocks").
use Rattle.std.specs.Prelude.{List, [], ◌∷◌, ◌++◌, map, Option, Some, None}
use Rattle.p4_program.specs.declared.typed.instances.Instance.{Instance}
use Rattle.p4_program.specs.Syntax.Callables.{CoreControl, CoreCallable, OfAction}
use Rattle.p4_program.specs.Syntax.Lookup.{control_at}
use Rattle.p4_meaning.specs.Runs.Acts.{Environment}
use Rattle.p4_meaning.specs.Runs.Calls.{callee_of, found_callee}
use Rattle.p4_meaning.specs.Runs.Expressions.{Reach, Callee}
use Rattle.p4_meaning.specs.Runs.Statements.{runs_all}
use Rattle.p4_meaning.specs.Runs.Tables.{with_tables}

-- what the body of an action or a parser can reach: an action applies no table and no control
abbrev pub reach_of : Environment → List Callee → Reach
reach_of env actions = record { environment = env; actions = actions; tables = []; children = [] }

-- what has no body that an action could call
abbrev pub no_callee : Callee
no_callee = found_callee None

-- ---- actions, by their numbers among the callables

abbrev pub action_body : Environment → List Callee → CoreCallable → Callee
action_body env known (OfAction a) =
    record { parameters = a.parameters; variables = a.variables; body = runs_all (reach_of env known) a.body }
action_body env known _ = no_callee

abbrev pub actions_behind : Environment → List Callee → List CoreCallable → List Callee
actions_behind env known [] = known
actions_behind env known (c ∷ cs) = actions_behind env (known ++ action_body env known c ∷ []) cs

abbrev pub actions_of : Environment → List Callee
actions_of env = actions_behind env [] env.program.callables

-- ---- controls, by the numbers of their instances

-- what the body of an instance of a control can reach: all actions, its own tables, and the instances in it
abbrev pub reach_in : Environment → List Callee → Instance → CoreControl → Reach
reach_in env known i c =
    with_tables
    (record { environment = env; actions = actions_of env; tables = []; children = map (callee_of known) i.children })
    i.tables c.tables

abbrev pub control_body : Environment → List Callee → Instance → Option CoreControl → Callee
control_body env known i (Some c) =
    record { parameters = c.parameters; variables = c.variables; body = runs_all (reach_in env known i c) c.body }
control_body env known i None = no_callee

abbrev pub controls_behind : Environment → List Callee → List Instance → List Callee
controls_behind env known [] = known
controls_behind env known (i ∷ is) =
    controls_behind env (known ++ control_body env known i (control_at env.program i.control) ∷ []) is

abbrev pub controls_of : Environment → List Callee
controls_of env = controls_behind env [] env.program.instances
