-- Parameters and actions.
use Rattle.std.specs.Prelude.{ℕ, ◌+◌, List, [], ◌∷◌, Bool, true, false, Option, None, Some, if◌then◌else◌}
use Rattle.tg_base.specs.declared.place.Code.TheVariants as code
use Rattle.p4_tree.specs.declared.declarations.Action.{Action}
use Rattle.p4_tree.specs.declared.declarations.Direction.{Direction}
use Rattle.p4_tree.specs.declared.declarations.Direction.TheVariants as way
use Rattle.p4_tree.specs.declared.declarations.Parameter.{Parameter}
use Rattle.p4_tree.specs.declared.statements.Block.{Block, Block'}
use Rattle.p4_program.specs.declared.typed.callables.Direction.{Direction as CoreDirection}
use Rattle.p4_program.specs.declared.typed.callables.Direction.TheVariants as core
use Rattle.p4_program.specs.declared.typed.callables.Parameter.{Parameter as CoreParameter}
use Rattle.p4_program.specs.Syntax.Callables.{CoreAction}
use Rattle.p4_program.specs.Syntax.Statements.{CoreStatements}
use Rattle.p4_rules.specs.Chains.{of_statements}
use Rattle.p4_rules.specs.declared.faults.Pass.TheVariants.{Checking}
use Rattle.p4_rules.specs.Faults.{Checked, Right, Wrong, provided, and_then, made_of, both, beside}
use Rattle.p4_rules.specs.declared.types.SourceType.{SourceType}
use Rattle.p4_rules.specs.declared.types.Object.TheVariants.{PacketIn, PacketOut}
use Rattle.p4_rules.specs.declared.types.SourceType.TheVariants.{Opaque}
use Rattle.p4_rules.specs.Types.{is_run_time}
use Rattle.p4_rules.specs.declared.scopes.ParameterShape.{ParameterShape}
use Rattle.p4_rules.specs.declared.scopes.Here.TheVariants.{InAction}
use Rattle.p4_rules.specs.Scopes.{Scope, Meaning, VariableOf, ObjectOf, ActionOf, once, innermost, with_name, more_shapes, with_callable_depth, within, value_type}
use Rattle.p4_rules.specs.Expressions.{written_type}
use Rattle.p4_rules.specs.Variables.{next_root}
use Rattle.p4_rules.specs.Counts.{Count, count_of_parts}
use Rattle.p4_rules.specs.Statements.{parts_of, variables_of}
use Rattle.p4_rules.specs.Notes.{noted}

-- "Calling convention: call by copy in/copy out": `out` and `inout` parameters may be assigned to
abbrev pub is_writable : Option Direction → Bool
is_writable (Some way.Out) = true
is_writable (Some way.InOut) = true
is_writable _ = false

abbrev pub core_direction : Option Direction → CoreDirection
core_direction (Some way.Out) = core.Out
core_direction (Some way.InOut) = core.InOut
core_direction _ = core.In

-- A parameter is of a type that runs hold; one of a parser or a control may also be a packet, without a direction.
abbrev pub packet_parameter : Bool → Option Direction → SourceType → Bool
packet_parameter packets None (Opaque PacketIn) = packets
packet_parameter packets None (Opaque PacketOut) = packets
packet_parameter packets direction t = is_run_time t

abbrev pub shape_of : Scope → Bool → Parameter → Checked ParameterShape
shape_of Γ packets p = and_then (written_type Γ p.name.span p.type_form)
    (λ t. provided (packet_parameter packets p.direction t) Checking code.Typing p.name.span
    (record { direction = p.direction; type_of = t; name = p.name.text }))

abbrev pub is_packet : SourceType → Bool
is_packet (Opaque object) = true
is_packet t = false

abbrev pub object_or_variable : SourceType → Meaning → Meaning
object_or_variable (Opaque object) m = ObjectOf object
object_or_variable t m = m

abbrev pub parameter_meaning : Scope → ParameterShape → Meaning
parameter_meaning Γ shape =
    object_or_variable shape.type_of (VariableOf shape.type_of (is_writable shape.direction) (next_root Γ))

-- packets have no place in a frame
abbrev pub place_behind : ℕ → Checked ParameterShape → ℕ
place_behind place (Right shape) = if is_packet shape.type_of then place else place + 1
place_behind place (Wrong fault more) = place + 1

abbrev pub with_parameter : Scope → Bool → Parameter → Scope
with_parameter Γ packets p =
    let named = with_name Γ p.name.text (made_of (parameter_meaning Γ) (shape_of Γ packets p)) in
    record named { variable = place_behind Γ.variable (shape_of Γ packets p) }

-- the scope behind parameters, and what they are
abbrev pub with_parameters : Scope → Bool → List Parameter → Scope
with_parameters Γ packets [] = Γ
with_parameters Γ packets (p ∷ ps) = with_parameters (with_parameter Γ packets p) packets ps

abbrev pub parameter_shapes : Scope → Bool → List Parameter → Checked (List ParameterShape)
parameter_shapes Γ packets [] = Right []
parameter_shapes Γ packets (p ∷ ps) = both (λ shape shapes. shape ∷ shapes)
    (noted p.annotations (beside (once (innermost Γ.inner) p.name) (shape_of Γ packets p)))
    (parameter_shapes (with_parameter Γ packets p) packets ps)

-- the parameters of a run
abbrev pub core_parameters : Scope → List ParameterShape → List CoreParameter
core_parameters Γ [] = []
core_parameters Γ (shape ∷ shapes) = if is_packet shape.type_of then core_parameters Γ shapes
    else record { direction = core_direction shape.direction; value_type = value_type Γ shape.type_of; name = shape.name } ∷ core_parameters Γ shapes

-- "Actions": its parameters and the declarations of its body are one scope, within that of its control
abbrev pub action_scope : Scope → Scope
action_scope Γ = record (within Γ) { here = InAction; variable = 0 }

abbrev pub action_shapes : Scope → Action → Checked (List ParameterShape)
action_shapes Γ a = parameter_shapes (action_scope Γ) false a.parameters

abbrev pub body_of : Scope → Block → Checked CoreStatements
body_of Γ (Block' count row place) = parts_of Γ row

abbrev pub count_of_block : Block → Count
count_of_block (Block' count row place) = count_of_parts row

-- the action in a run, and the parameters that it is called with
pub record ActionMade : Type 0 where
  pub shapes : List ParameterShape
  pub action : CoreAction

abbrev pub made_action : Scope → Option ℕ → List ParameterShape → CoreStatements → ActionMade
made_action Γ control shapes body = record {
  shapes = shapes;
  action = record { within = control; parameters = core_parameters Γ shapes; variables = variables_of body; body = body };
}

abbrev pub action_of : Scope → Option ℕ → Action → Checked ActionMade
action_of Γ control a = both (made_action Γ control) (action_shapes Γ a)
    (body_of (with_parameters (action_scope Γ) false a.parameters) a.body)

abbrev pub action_meaning : Scope → Checked ActionMade → Checked Meaning
action_meaning Γ made = made_of (λ m. ActionOf Γ.callable) made

-- the chain below an action, where it is right
abbrev pub action_depth : Scope → Checked ActionMade → ℕ
action_depth Γ (Right made) = of_statements Γ.depths made.action.body
action_depth Γ (Wrong fault more) = 0

-- what stands behind an action has the next number of a callable, and its statements behind those of the action
abbrev pub behind_action : Scope → Action → Checked ActionMade → Scope → Scope
behind_action Γ a made named = more_shapes Γ.callable (made_of (λ m. m.shapes) made) (with_callable_depth Γ.callable (action_depth Γ made)
    (record named { callable = Γ.callable + 1; statement = Γ.statement + (count_of_block a.body).statements }))
