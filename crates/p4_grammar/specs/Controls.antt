-- The actions, controls and instances of a source, by the rows of their forms.
use Rattle.std.specs.Prelude.{◌==◌, List, [], ◌∷◌, Option, None, Some, if◌then◌else◌}
use Rattle.tg_base.specs.declared.place.Span.{Span}
use Rattle.p4_tree.specs.declared.names.Name.{Name}
use Rattle.p4_tree.specs.declared.expressions.TypeForm.{TypeForm}
use Rattle.p4_tree.specs.declared.declarations.Action.{Action}
use Rattle.p4_tree.specs.declared.controls.Control.{Control}
use Rattle.p4_tree.specs.declared.controls.ControlPart.{ControlPart}
use Rattle.p4_tree.specs.declared.controls.Local.{Local}
use Rattle.p4_tree.specs.declared.controls.Local.TheVariants as local
use Rattle.p4_tree.specs.declared.controls.Instance.{Instance}
use Rattle.p4_tree.specs.declared.controls.InstanceArgument.{InstanceArgument}
use Rattle.p4_tree.specs.declared.controls.InstanceArgumentKind.{InstanceArgumentKind}
use Rattle.p4_tree.specs.declared.controls.InstanceArgumentKind.TheVariants as argument
use Rattle.p4_grammar.specs.declared.symbols.TheConstants.{CONSTANT, ACTION, NAME}
use Rattle.p4_grammar.specs.Parses.{Parse, End, Word as Leaf, Node, place_of, option_map, both, all_three, all_four}
use Rattle.p4_grammar.specs.Names.{name_at, name_of, annotations}
use Rattle.p4_grammar.specs.Expressions.{expression, type_form}
use Rattle.p4_grammar.specs.Statements.{initial_value, constant, variable_at, block}
use Rattle.p4_grammar.specs.Parsers.{parameters}
use Rattle.p4_grammar.specs.Tables.{table}

-- ACTION
unfoldable pub action : Parse → Option Action
action (Leaf begin (Node k r name (Node j s below (Node i q body End)))) =
    all_three (λ n ps b. record { name = n; parameters = ps; body = b; span = begin.span }) (name_of name) (parameters below) (block body)
action _ = None

abbrev pub argument_at : Span → InstanceArgumentKind → InstanceArgument
argument_at span kind = record { kind = kind; span = span }

-- INSTANCE_ARGUMENT
unfoldable pub instance_argument : Parse → Option InstanceArgument
instance_argument (Leaf t (Leaf left (Leaf right End))) = option_map (λ n. argument_at t.span (argument.Constructed n)) (name_at t)
instance_argument (Node k r below End) = both (λ span e. argument_at span (argument.Value e)) (place_of below) (expression below)
instance_argument _ = None

-- INSTANCE_ARGUMENTS_TAIL
unfoldable pub instance_arguments_tail : Parse → Option (List InstanceArgument)
instance_arguments_tail End = Some []
instance_arguments_tail (Leaf comma (Node k r below (Node j s rest End))) = both (λ one more. one ∷ more) (instance_argument below) (instance_arguments_tail rest)
instance_arguments_tail _ = None

-- INSTANCE_ARGUMENTS_LIST
unfoldable pub instance_arguments_list : Parse → Option (List InstanceArgument)
instance_arguments_list End = Some []
instance_arguments_list (Node k r below (Node j s rest End)) = both (λ one more. one ∷ more) (instance_argument below) (instance_arguments_tail rest)
instance_arguments_list _ = None

-- INSTANCE_ARGUMENTS
unfoldable pub instance_arguments : Parse → Option (List InstanceArgument)
instance_arguments (Leaf left (Node k r below (Leaf right End))) = instance_arguments_list below
instance_arguments _ = None

abbrev pub instance_at : TypeForm → Span → List InstanceArgument → Name → Instance
instance_at form span given name = record { type_form = form; arguments = given; name = name; span = span }

-- LOCAL_REST, behind a type at this place
unfoldable pub local_rest : Option TypeForm → Option Span → Parse → Option Local
local_rest form span (Node k r first (Node j s second (Leaf end End))) =
    if r.left == NAME then option_map (λ v. local.Variable v) (all_four variable_at span form (name_of first) (initial_value second))
    else option_map (λ made. local.Instance made) (all_four instance_at form span (instance_arguments first) (name_of second))
local_rest form span _ = None

-- LOCAL
unfoldable pub local_of : Parse → Option Local
local_of (Node k r below End) =
    if r.left == CONSTANT then option_map (λ c. local.Constant c) (constant below)
    else (if r.left == ACTION then option_map (λ a. local.Action a) (action below)
    else option_map (λ t. local.Table t) (table below))
local_of (Node k r form (Node j s rest End)) = local_rest (type_form form) (place_of form) rest
local_of _ = None

-- CONTROL_PARTS
unfoldable pub control_parts : Parse → Option (List ControlPart)
control_parts End = Some []
control_parts (Node k r notes (Node j s below (Node i q rest End))) =
    both (λ one more. one ∷ more) (both (λ ns made. record { annotations = ns; local = made }) (annotations notes) (local_of below)) (control_parts rest)
control_parts _ = None

-- CONTROL
unfoldable pub control : Parse → Option Control
control (Leaf begin (Node k r name (Node j s below (Leaf open_brace (Node i q parts (Leaf apply (Node l u body (Leaf close End)))))))) =
    all_four (λ n ps made b. record { name = n; parameters = ps; parts = made; body = b; span = begin.span }) (name_of name) (parameters below) (control_parts parts) (block body)
control _ = None
