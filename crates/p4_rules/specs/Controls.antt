-- Controls, and instances of what has a constructor.
use Rattle.std.specs.Prelude.{map, ℕ, ◌+◌, ◌==◌, List, [], ◌∷◌, ◌++◌, length, unwrap_or, Bool, true, false, Option, Some, unsigned_abs, if◌then◌else◌}
use Rattle.std.specs.List.{sum_by, count_by}
use Rattle.tg_base.specs.declared.place.Span.{Span}
use Rattle.tg_base.specs.declared.place.Code.TheVariants as code
use Rattle.p4_tree.specs.declared.names.Annotation.{Annotation}
use Rattle.p4_tree.specs.declared.names.Name.{Name}
use Rattle.p4_tree.specs.declared.controls.Control.{Control}
use Rattle.p4_tree.specs.declared.controls.ControlPart.{ControlPart}
use Rattle.p4_tree.specs.declared.controls.Local.{Local}
use Rattle.p4_tree.specs.declared.controls.Local.TheVariants as part
use Rattle.p4_tree.specs.declared.controls.Instance.{Instance}
use Rattle.p4_tree.specs.declared.controls.InstanceArgument.{InstanceArgument}
use Rattle.p4_tree.specs.declared.controls.InstanceArgumentKind.{InstanceArgumentKind}
use Rattle.p4_tree.specs.declared.controls.InstanceArgumentKind.TheVariants as argument
use Rattle.p4_tree.specs.declared.declarations.Action.{Action}
use Rattle.p4_tree.specs.declared.expressions.TypeForm.{TypeForm, TypeForm'}
use Rattle.p4_tree.specs.declared.tables.ListedAction.{ListedAction}
use Rattle.p4_tree.specs.declared.tables.Table.{Table}
use Rattle.p4_program.specs.Syntax.Callables.{CoreCallable, CoreControl, CoreTable}
use Rattle.p4_program.specs.Syntax.Callables as core
use Rattle.p4_program.specs.Syntax.Statements.{CoreStatements}
use Rattle.p4_program.specs.Syntax.Statements as statements
use Rattle.p4_rules.specs.Chains.{depth_in, of_statements, below_table}
use Rattle.p4_rules.specs.declared.faults.Pass.TheVariants.{Checking}
use Rattle.p4_rules.specs.Faults.{Checked, Right, Wrong, fault_at, provided, given, and_then, made_of, both, all_three, beside}
use Rattle.p4_rules.specs.Integers.{fits_bit}
use Rattle.p4_rules.specs.declared.types.SourceType.{SourceType}
use Rattle.p4_rules.specs.declared.types.Object.{Object}
use Rattle.p4_rules.specs.declared.types.Object.TheVariants.{Counter, DirectCounter, Meter, ParserType, ControlType}
use Rattle.p4_rules.specs.declared.types.SourceType.TheVariants.{Enumeration, Opaque}
use Rattle.p4_rules.specs.declared.scopes.Allowed.{Allowed}
use Rattle.p4_rules.specs.declared.scopes.ParameterShape.{ParameterShape}
use Rattle.p4_rules.specs.declared.scopes.Here.TheVariants.{InControl}
use Rattle.p4_rules.specs.Scopes.{Scope, Meaning, ObjectOf, InstanceOf, once, innermost, with_name, with_table_depth, with_child_depth, within}
use Rattle.p4_rules.specs.Operands.{Placed, constant_number}
use Rattle.p4_rules.specs.Casts.{typing_fault}
use Rattle.p4_rules.specs.Things.{value_of}
use Rattle.p4_rules.specs.Expressions.{written_type}
use Rattle.p4_rules.specs.Variables.{judged_expression, with_constant, with_variable, constant_within, variable_within}
use Rattle.p4_rules.specs.Statements.{variables_of, followed_by}
use Rattle.p4_rules.specs.Callables.{with_parameters, parameter_shapes, core_parameters, body_of, count_of_block, ActionMade, action_of, action_meaning, behind_action}
use Rattle.p4_rules.specs.Keys.{constant_for, constant_first}
use Rattle.p4_rules.specs.Tables.{Listed, TableMade, first_actions, table_of, table_meaning, actions_in}
use Rattle.p4_rules.specs.Notes.{noted, given_name}

-- an argument that is a value; what is constructed there has no type that fits
abbrev pub argument_value : Scope → InstanceArgumentKind → Span → Checked Placed
argument_value Γ (argument.Value e) place = and_then (judged_expression Γ e) value_of
argument_value Γ (argument.Constructed name) place = typing_fault place

-- "Extern objects": what a constructor takes is constant and of these types, else another number of arguments is refused at the
-- name of the instance
pub data ConstructorParameter : Type 0 where
  -- a number of 32 bits, of whatever type
  OfSize : ConstructorParameter
  OfKind : SourceType → ConstructorParameter

abbrev pub number_for : Scope → ConstructorParameter → Placed → Checked ℕ
number_for Γ OfSize p = and_then (constant_first Γ p) (λ q. and_then (given (constant_number q.operand) Checking code.Typing q.place)
    (λ z. provided (fits_bit 32 z) Checking code.Constant q.place (unsigned_abs z)))
number_for Γ (OfKind t) p = constant_for Γ t p

abbrev pub constructor_argument : Scope → ConstructorParameter → InstanceArgument → Checked ℕ
constructor_argument Γ t a = and_then (argument_value Γ a.kind a.span) (number_for Γ t)

abbrev pub constructor_arguments : Scope → Span → List ConstructorParameter → List InstanceArgument → Checked Bool
constructor_arguments Γ place [] [] = Right true
constructor_arguments Γ place (t ∷ ts) (a ∷ more) = beside (constructor_argument Γ t a) (constructor_arguments Γ place ts more)
constructor_arguments Γ place _ _ = typing_fault place

abbrev pub argument_part : Scope → InstanceArgumentKind → Checked Bool
argument_part Γ (argument.Value e) = made_of (λ j. true) (judged_expression Γ e)
argument_part Γ (argument.Constructed name) = Right true

abbrev pub argument_parts : Scope → List InstanceArgument → Checked Bool
argument_parts Γ [] = Right true
argument_parts Γ (a ∷ more) = beside (argument_part Γ a.kind) (argument_parts Γ more)

abbrev pub counted_arguments : Scope → Span → List ConstructorParameter → List InstanceArgument → Checked Bool
counted_arguments Γ place ts those =
    if length ts == length those then constructor_arguments Γ place ts those
    else and_then (argument_parts Γ those) (λ b. typing_fault {X = Bool} place)

-- v1model.p4: the kinds of counters and of meters are the enumerations behind `HashAlgorithm`
abbrev pub counter_kind : SourceType
counter_kind = Enumeration 1

abbrev pub meter_kind : SourceType
meter_kind = Enumeration 2

-- what an instance is: an extern's, or a control's
pub data Instanced : Type 0 where
  OfExtern : Object → Instanced
  OfControl : ℕ → Instanced

-- a control's instance has no arguments
abbrev pub unparameterized : {X : Type 0} → List InstanceArgument → X → Checked X
unparameterized [] x = Right x
unparameterized (a ∷ more) x = typing_fault a.span

abbrev pub form_place : TypeForm → Span
form_place (TypeForm' base size place) = place

-- "Instantiations": what may be instantiated at the top or, where the flag holds, in a control
abbrev pub instanced : Scope → Bool → Instance → SourceType → Checked Instanced
instanced Γ inside i (Opaque Counter) =
    made_of (λ b. OfExtern Counter) (counted_arguments Γ i.name.span (OfSize ∷ OfKind counter_kind ∷ []) i.arguments)
instanced Γ inside i (Opaque DirectCounter) =
    made_of (λ b. OfExtern DirectCounter) (counted_arguments Γ i.name.span (OfKind counter_kind ∷ []) i.arguments)
instanced Γ inside i (Opaque Meter) =
    made_of (λ b. OfExtern Meter) (counted_arguments Γ i.name.span (OfSize ∷ OfKind meter_kind ∷ []) i.arguments)
-- a control within another; at the top it has no place
instanced Γ true i (Opaque (ControlType n)) = unparameterized i.arguments (OfControl n)
-- parsers within anything are left out
instanced Γ inside i (Opaque (ParserType n)) = fault_at Checking code.Unsupported (form_place i.type_form)
instanced Γ inside i t = typing_fault i.name.span

abbrev pub instance_of : Scope → Bool → Instance → Checked Instanced
instance_of Γ inside i = beside (argument_parts Γ i.arguments) (and_then (written_type Γ i.name.span i.type_form) (instanced Γ inside i))

abbrev pub instanced_meaning : Scope → Instanced → Meaning
instanced_meaning Γ (OfExtern object) = ObjectOf object
instanced_meaning Γ (OfControl n) = InstanceOf Γ.child n

-- a place of an action in a table's list: its number, and where it stands
pub record ListedPlace : Type 0 where
  pub action : ℕ
  pub place : Span

-- what the control plane sees of a control: its tables and the instances in it, each by the last part of its name
pub record PlaneTable : Type 0 where
  pub part : List ℕ
  pub place : Span
  pub listed : List ListedPlace

pub record PlaneChild : Type 0 where
  pub part : List ℕ
  pub control : ℕ

pub record PlaneControl : Type 0 where
  pub control : ℕ
  pub name : List ℕ
  pub tables : List PlaneTable
  pub children : List PlaneChild

-- an action, whether a control declares it, and the last part of its name
pub record PlaneAction : Type 0 where
  pub action : ℕ
  pub is_local : Bool
  pub part : List ℕ

-- "Control-plane names": the declared name, or the one that is given instead
abbrev pub plane_part : List Annotation → Name → List ℕ
plane_part notes name = unwrap_or (given_name notes) name.text

-- what the parts of a control make
pub record ControlParts : Type 0 where
  pub beginning : CoreStatements
  pub actions : List CoreCallable
  pub tables : List CoreTable
  pub children : List ℕ
  pub plane_tables : List PlaneTable
  pub plane_children : List PlaneChild
  pub plane_actions : List PlaneAction

abbrev pub no_parts : ControlParts
no_parts = record {
  beginning = statements.NoStatements;
  actions = [];
  tables = [];
  children = [];
  plane_tables = [];
  plane_children = [];
  plane_actions = [];
}

abbrev pub listed_places : List ListedAction → List Listed → List ListedPlace
listed_places (a ∷ as_written) (l ∷ listed) = record { action = l.action; place = a.name.span } ∷ listed_places as_written listed
listed_places _ _ = []

abbrev pub put_action : Scope → List Annotation → Name → ActionMade → ControlParts → ControlParts
put_action Γ notes name made later = record later {
  actions = core.OfAction made.action ∷ later.actions;
  plane_actions = record { action = Γ.callable; is_local = true; part = plane_part notes name } ∷ later.plane_actions;
}

abbrev pub put_table : List Annotation → Table → TableMade → ControlParts → ControlParts
put_table notes t made later = record later {
  tables = made.table ∷ later.tables;
  plane_tables = record { part = plane_part notes t.name; place = t.name.span; listed = listed_places (first_actions t.properties) made.listed }
      ∷ later.plane_tables;
}

abbrev pub put_instance : List Annotation → Name → Instanced → ControlParts → ControlParts
put_instance notes name (OfExtern object) later = later
put_instance notes name (OfControl n) later = record later {
  children = n ∷ later.children;
  plane_children = record { part = plane_part notes name; control = n } ∷ later.plane_children;
}

-- what one part puts before those that the later parts make, in the control of this number
abbrev pub part_of : Scope → ℕ → List Annotation → Local → Checked (ControlParts → ControlParts)
part_of Γ control notes (part.Constant c) = made_of (λ b later. later) (constant_within Γ c)
part_of Γ control notes (part.Variable v) =
    made_of (λ d later. record later { beginning = statements.Then d later.beginning }) (variable_within Γ v)
part_of Γ control notes (part.Action a) =
    beside (once (innermost Γ.inner) a.name) (made_of (put_action Γ notes a.name) (action_of Γ (Some control) a))
part_of Γ control notes (part.Table t) =
    beside (once (innermost Γ.inner) t.name) (made_of (put_table notes t) (table_of Γ t))
part_of Γ control notes (part.Instance i) =
    beside (once (innermost Γ.inner) i.name) (made_of (put_instance notes i.name) (instance_of Γ true i))

-- the scope behind a part
abbrev pub with_action : Scope → Option ℕ → Action → Scope
with_action Γ control a =
    behind_action Γ a (action_of Γ control a) (with_name Γ a.name.text (action_meaning Γ (action_of Γ control a)))

abbrev pub table_depth : Scope → Checked TableMade → ℕ
table_depth Γ (Right made) = below_table Γ.depths made.table (map (λ l. l.action) made.table.actions)
table_depth Γ (Wrong fault more) = 0

abbrev pub with_table : Scope → Table → Scope
with_table Γ t = let named = with_name Γ t.name.text (table_meaning Γ (table_of Γ t)) in
    with_table_depth Γ.table (table_depth Γ (table_of Γ t)) (record named { table = Γ.table + 1; table_actions = Γ.table_actions ++ actions_in (table_of Γ t) ∷ [] })

-- an instance of a control has the next number of those
abbrev pub child_behind : ℕ → Checked Instanced → ℕ
child_behind child (Right (OfControl n)) = child + 1
child_behind child _ = child

abbrev pub child_depth : Scope → Checked Instanced → ℕ
child_depth Γ (Right (OfControl n)) = depth_in Γ.depths.callables n
child_depth Γ _ = 0

abbrev pub with_instance : Scope → Instance → Scope
with_instance Γ i =
    let named = with_name Γ i.name.text (made_of (instanced_meaning Γ) (instance_of Γ true i)) in
    with_child_depth Γ.child (child_depth Γ (instance_of Γ true i)) (record named { child = child_behind Γ.child (instance_of Γ true i) })

abbrev pub scope_behind : Scope → ℕ → Local → Scope
scope_behind Γ control (part.Constant c) = with_constant Γ c
scope_behind Γ control (part.Variable v) = with_variable Γ v
scope_behind Γ control (part.Action a) = with_action Γ (Some control) a
scope_behind Γ control (part.Table t) = with_table Γ t
scope_behind Γ control (part.Instance i) = with_instance Γ i

abbrev pub control_parts : Scope → ℕ → List ControlPart → Checked ControlParts
control_parts Γ control [] = Right no_parts
control_parts Γ control (p ∷ ps) = both (λ put later. put later)
    (noted p.annotations (part_of Γ control p.annotations p.local)) (control_parts (scope_behind Γ control p.local) control ps)

-- what the right parts make, whether or not the others are faulty: their names are judged all the same
abbrev pub put_right : Checked (ControlParts → ControlParts) → ControlParts → ControlParts
put_right (Right put) later = put later
put_right (Wrong fault more) later = later

abbrev pub right_parts : Scope → ℕ → List ControlPart → ControlParts
right_parts Γ control [] = no_parts
right_parts Γ control (p ∷ ps) = put_right (part_of Γ control p.annotations p.local) (right_parts (scope_behind Γ control p.local) control ps)

abbrev pub behind_parts : Scope → ℕ → List ControlPart → Scope
behind_parts Γ control [] = Γ
behind_parts Γ control (p ∷ ps) = behind_parts (scope_behind Γ control p.local) control ps

-- the actions of a control have their numbers before it
abbrev pub is_action : Local → Bool
is_action (part.Action a) = true
is_action _ = false

abbrev pub control_number : Scope → Control → ℕ
control_number Γ c = Γ.callable + count_by (λ p. is_action p.local) c.parts

-- "Control blocks": the parameters and what it declares are one scope, and the body of `apply` is one within
abbrev pub control_scope : Scope → Allowed → Scope
control_scope Γ allowed = record (within Γ) {
  here = InControl;
  allowed = allowed;
  variable = 0;
  table = 0;
  table_actions = [];
  child = 0;
  depths = record (Γ.depths) { tables = []; children = [] };
}

abbrev pub inner_scope : Scope → Allowed → Control → Scope
inner_scope Γ allowed c = with_parameters (control_scope Γ allowed) true c.parameters

abbrev pub behind_locals : Scope → Allowed → Control → Scope
behind_locals Γ allowed c = behind_parts (inner_scope Γ allowed c) (control_number Γ c) c.parts

-- a control with its actions, in the order of their numbers, and what the control plane sees of them
pub record ControlMade : Type 0 where
  pub shapes : List ParameterShape
  pub callables : List CoreCallable
  -- what it does, to its end
  pub body : CoreStatements
  pub plane : PlaneControl
  pub plane_actions : List PlaneAction

abbrev pub core_control : Scope → List ParameterShape → ControlParts → CoreStatements → CoreControl
core_control Γ shapes made body = record {
  parameters = core_parameters Γ shapes;
  variables = variables_of made.beginning ++ variables_of body;
  body = followed_by made.beginning body;
  tables = made.tables;
  children = made.children;
}

abbrev pub made_control : Scope → ℕ → Name → List ParameterShape → ControlParts → CoreStatements → ControlMade
made_control Γ control name shapes made body = record {
  shapes = shapes;
  callables = made.actions ++ core.OfControl (core_control Γ shapes made body) ∷ [];
  body = followed_by made.beginning body;
  plane = record { control = control; name = name.text; tables = made.plane_tables; children = made.plane_children };
  plane_actions = made.plane_actions;
}

abbrev pub control_of : Scope → Allowed → Control → Checked ControlMade
control_of Γ allowed c = all_three (made_control Γ (control_number Γ c) c.name)
    (parameter_shapes (control_scope Γ allowed) true c.parameters)
    (control_parts (inner_scope Γ allowed c) (control_number Γ c) c.parts)
    (body_of (within (behind_locals Γ allowed c)) c.body)

abbrev pub statements_in_local : Local → ℕ
statements_in_local (part.Action a) = (count_of_block a.body).statements
statements_in_local _ = 0

abbrev pub statements_of_parts : List ControlPart → ℕ
statements_of_parts ps = sum_by (λ p. statements_in_local p.local) ps

-- what the control plane sees of a control, by its right parts
abbrev pub plane_parts : Scope → Allowed → Control → ControlParts
plane_parts Γ allowed c = right_parts (inner_scope Γ allowed c) (control_number Γ c) c.parts

abbrev pub plane_of_control : Scope → Allowed → Control → PlaneControl
plane_of_control Γ allowed c = record {
  control = control_number Γ c;
  name = c.name.text;
  tables = (plane_parts Γ allowed c).plane_tables;
  children = (plane_parts Γ allowed c).plane_children;
}

-- the chain below a control, where it is right
abbrev pub control_depth : Scope → Allowed → Control → Checked ControlMade → ℕ
control_depth Γ allowed c (Right made) = of_statements (behind_locals Γ allowed c).depths made.body
control_depth Γ allowed c (Wrong fault more) = 0

-- the scope behind a control, without its name
abbrev pub behind_control : Scope → Control → Scope
behind_control Γ c = record Γ {
  callable = control_number Γ c + 1;
  statement = Γ.statement + statements_of_parts c.parts + (count_of_block c.body).statements;
}
