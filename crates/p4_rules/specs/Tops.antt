-- What stands at the top of a source: types, errors, constants, actions, parsers, controls and instances.
use Rattle.std.specs.Prelude.{ℕ, ◌+◌, List, [], ◌∷◌, ◌++◌, map, length, Bool, true, false, Option, None, Some, codes, is_some, position, if◌then◌else◌}
use Rattle.std.specs.List.{list_any, sum_by}
use Rattle.std.specs.Str.{bytes_eq}
use Rattle.tg_base.specs.declared.place.Code.TheVariants as code
use Rattle.p4_tree.specs.declared.names.Annotation.{Annotation}
use Rattle.p4_tree.specs.declared.names.Name.{Name}
use Rattle.p4_tree.specs.declared.expressions.Expression.{Expression}
use Rattle.p4_tree.specs.declared.expressions.Width.{Width}
use Rattle.p4_tree.specs.declared.declarations.DeclarationKind.{DeclarationKind}
use Rattle.p4_tree.specs.declared.declarations.DeclarationKind.TheVariants as kind
use Rattle.p4_tree.specs.declared.declarations.Enumeration.{Enumeration as Enum}
use Rattle.p4_tree.specs.declared.declarations.Field.{Field}
use Rattle.p4_tree.specs.declared.declarations.Member.{Member}
use Rattle.p4_tree.specs.declared.declarations.TopPart.{TopPart}
use Rattle.p4_tree.specs.declared.declarations.TopPart.TheVariants as top
use Rattle.p4_tree.specs.declared.controls.Control.{Control}
use Rattle.p4_tree.specs.declared.controls.Instance.{Instance}
use Rattle.p4_tree.specs.declared.parsers.Parser.{Parser}
use Rattle.p4_tree.specs.declared.parsers.ParserPartKind.{ParserPartKind}
use Rattle.p4_tree.specs.declared.parsers.ParserPartKind.TheVariants as part
use Rattle.p4_program.specs.Syntax.Callables.{CoreCallable}
use Rattle.p4_program.specs.Syntax.Callables as core
use Rattle.p4_rules.specs.declared.faults.Pass.TheVariants.{Folding, Checking}
use Rattle.p4_rules.specs.Faults.{Checked, Right, Wrong, fault_at, provided, and_then, made_of, both, all_of, beside}
use Rattle.p4_rules.specs.declared.types.SourceType.{SourceType}
use Rattle.p4_rules.specs.declared.types.FieldOf.{FieldOf}
use Rattle.p4_rules.specs.declared.types.Object.TheVariants.{ParserType, ControlType}
use Rattle.p4_rules.specs.declared.types.SourceType.TheVariants.{Bit, Enumeration, BitEnumeration, Structure, Header, Opaque}
use Rattle.p4_rules.specs.Types.{may_be_in_header, is_run_time, has_whole_bytes}
use Rattle.p4_rules.specs.declared.scopes.Allowed.{Allowed}
use Rattle.p4_rules.specs.Scopes.{Scope, Meaning, more_shapes, TypeOf, ConstantOf, folding, once, with_top_name, with_callable_depth}
use Rattle.p4_rules.specs.Casts.{typing_fault}
use Rattle.p4_rules.specs.Expressions.{written_type, width_of}
use Rattle.p4_rules.specs.Variables.{judged_expression, value_in, constant_value_of}
use Rattle.p4_rules.specs.Keys.{constant_for}
use Rattle.p4_rules.specs.Callables.{ActionMade, action_of, action_meaning, behind_action}
use Rattle.p4_rules.specs.Parsers.{ParserMade, parser_of}
use Rattle.p4_rules.specs.Controls.{ControlMade, PlaneControl, PlaneAction, plane_part, control_of, control_number, control_depth, plane_parts, plane_of_control, behind_control, argument_parts, instance_of, instanced_meaning}
use Rattle.p4_rules.specs.Counts.{count_of_list}
use Rattle.p4_rules.specs.Notes.{noted}

-- "Struct types", "Header types": a field is of a type that runs hold, in a header of bits; it is refused at its name
abbrev pub field_fits : Bool → SourceType → Bool
field_fits true t = may_be_in_header t
field_fits false t = is_run_time t

abbrev pub field_of : Scope → Bool → Field → Checked FieldOf
field_of Γ in_header f = and_then (written_type Γ f.name.span f.type_form)
    (λ t. provided (field_fits in_header t) Checking code.Typing f.name.span (record { name = f.name.text; type_of = t }))

-- a name that stands among those before it is declared twice
abbrev pub new_among : List (List ℕ) → Name → Checked Bool
new_among seen name = if list_any (bytes_eq name.text) seen then fault_at Checking code.Name name.span else Right true

abbrev pub fields_from : Scope → Bool → List (List ℕ) → List Field → Checked (List FieldOf)
fields_from Γ in_header seen [] = Right []
fields_from Γ in_header seen (f ∷ fs) = both (λ one more. one ∷ more)
    (noted f.annotations (beside (new_among seen f.name) (field_of Γ in_header f)))
    (fields_from Γ in_header (f.name.text ∷ seen) fs)

abbrev pub struct_fields : Scope → List Field → Checked (List FieldOf)
struct_fields Γ fields = fields_from Γ false [] fields

-- a header has whole bytes
abbrev pub header_fields : Scope → Name → List Field → Checked (List FieldOf)
header_fields Γ name fields = and_then (fields_from Γ true [] fields)
    (λ made. provided (has_whole_bytes made) Checking code.Typing name.span made)

-- a member of an enumeration without a width, or an error, has no value
abbrev pub no_value : Scope → Option Expression → Checked Bool
no_value Γ None = Right true
no_value Γ (Some e) = and_then (judged_expression (folding Γ) e) (λ j. typing_fault {X = Bool} e.span)

abbrev pub plain_members : Scope → List (List ℕ) → ℕ → List Member → Checked (List (List ℕ × Meaning))
plain_members Γ seen k [] = Right []
plain_members Γ seen k (m ∷ ms) = both (λ one more. (m.name.text, ConstantOf (Enumeration (length Γ.enumerations)) k) ∷ more)
    (beside (new_among seen m.name) (no_value Γ m.value)) (plain_members Γ (m.name.text ∷ seen) (k + 1) ms)

-- "Enumeration types": each member of one over bits has a constant value of these bits
abbrev pub member_value : Scope → ℕ → Name → Option Expression → Checked ℕ
member_value Γ w name None = fault_at Folding code.Constant name.span
member_value Γ w name (Some e) = and_then (value_in (folding Γ) e) (constant_for (folding Γ) (Bit w))

abbrev pub valued_members : Scope → ℕ → List (List ℕ) → List Member → Checked (List (List ℕ × Meaning))
valued_members Γ w seen [] = Right []
valued_members Γ w seen (m ∷ ms) = both (λ v more. (m.name.text, ConstantOf (BitEnumeration (length Γ.enumerations) w) v) ∷ more)
    (beside (new_among seen m.name) (member_value Γ w m.name m.value)) (valued_members Γ w (m.name.text ∷ seen) ms)

-- what members hold, whatever their width is
abbrev pub member_part : Scope → Option Expression → Checked Bool
member_part Γ None = Right true
member_part Γ (Some e) = made_of (λ p. true) (value_in (folding Γ) e)

abbrev pub member_parts : Scope → List Member → Checked Bool
member_parts Γ ms = made_of (λ bs. true) (all_of (map (λ m. member_part Γ m.value) ms))

-- an enumeration: its width where it has one, and its members
pub record EnumMade : Type 0 where
  pub width : Option ℕ
  pub members : List (List ℕ × Meaning)

abbrev pub enum_with : Scope → List Member → Option Width → Checked EnumMade
enum_with Γ members None = made_of (λ ms. record { width = None; members = ms }) (plain_members Γ [] 0 members)
enum_with Γ members (Some w) = beside (member_parts Γ members) (and_then (width_of Γ w.kind w.span)
    (λ n. made_of (λ ms. record { width = Some n; members = ms }) (valued_members Γ n [] members)))

abbrev pub enum_of : Scope → Enum → Checked EnumMade
enum_of Γ e = enum_with Γ e.members e.width

abbrev pub enum_type : ℕ → Option ℕ → SourceType
enum_type n None = Enumeration n
enum_type n (Some w) = BitEnumeration n w

-- "The error type": all errors are one scope
abbrev pub errors_from : Scope → List (List ℕ) → List Member → Checked (List (List ℕ))
errors_from Γ seen [] = Right []
errors_from Γ seen (m ∷ ms) = both (λ b more. m.name.text ∷ more)
    (beside (new_among seen m.name) (no_value Γ m.value)) (errors_from Γ (seen ++ m.name.text ∷ []) ms)

-- the names of members as errors, whether they are right or not
abbrev pub member_names : List Member → List (List ℕ)
member_names ms = map (λ m. m.name.text) ms

-- errors and those declared behind them, each once
abbrev pub put_errors : List (List ℕ) → List (List ℕ) → List (List ℕ)
put_errors errors [] = errors
put_errors errors (name ∷ names) =
    put_errors (if is_some (position (λ other. bytes_eq other name) errors) then errors else errors ++ name ∷ []) names

-- the calls that stand in one block alone, by the name of the control: whether it is named as that block and no other
pub record Roles : Type 0 where
  pub allowed_in : List ℕ → Allowed
  -- in parsers, and in actions outside controls
  pub allowed_outside : Allowed

-- what the top of a source makes
pub record Pieces : Type 0 where
  pub callables : List CoreCallable
  pub planes : List PlaneControl
  pub actions : List PlaneAction

abbrev pub no_pieces : Pieces
no_pieces = record { callables = []; planes = []; actions = [] }

abbrev pub outside : Roles → Scope → Scope
outside roles Γ = record Γ { allowed = roles.allowed_outside }

abbrev pub put_action : Scope → List Annotation → Name → ActionMade → Pieces → Pieces
put_action Γ notes name made later = record later {
  callables = core.OfAction made.action ∷ later.callables;
  actions = record { action = Γ.callable; is_local = false; part = plane_part notes name } ∷ later.actions;
}

abbrev pub put_control : ControlMade → Pieces → Pieces
put_control made later = record {
  callables = made.callables ++ later.callables;
  planes = made.plane ∷ later.planes;
  actions = made.plane_actions ++ later.actions;
}

abbrev pub put_parser : ParserMade → Pieces → Pieces
put_parser made later = record later { callables = core.OfParser made.parser ∷ later.callables }

abbrev pub nothing : {X : Type 0} → Checked X → Checked (Pieces → Pieces)
nothing part = made_of (λ x later. later) part

-- `main` is judged as the package; another instance as any
abbrev pub is_main : Name → Bool
is_main name = bytes_eq name.text (codes "main")

abbrev pub top_instance : Scope → Instance → Checked Bool
top_instance Γ i = if is_main i.name then argument_parts Γ i.arguments else made_of (λ made. true) (instance_of Γ false i)

-- the faults of a declaration but for its name, and what it puts before what later ones make
abbrev pub declared : Roles → Scope → List Annotation → DeclarationKind → Checked (Pieces → Pieces)
declared roles Γ notes (kind.Constant c) = nothing (beside (once Γ.top c.name) (constant_value_of Γ c))
declared roles Γ notes (kind.Typedef t) = nothing (beside (once Γ.top t.name) (written_type Γ t.name.span t.type_form))
declared roles Γ notes (kind.Struct name fields) = nothing (beside (once Γ.top name) (struct_fields Γ fields))
declared roles Γ notes (kind.Header name fields) = nothing (beside (once Γ.top name) (header_fields Γ name fields))
declared roles Γ notes (kind.Enumeration e) = nothing (beside (once Γ.top e.name) (enum_of Γ e))
declared roles Γ notes (kind.Errors members) = nothing (errors_from Γ Γ.errors members)
declared roles Γ notes (kind.Action a) =
    beside (once Γ.top a.name) (made_of (put_action Γ notes a.name) (action_of (outside roles Γ) None a))
declared roles Γ notes (kind.Parser p) = beside (once Γ.top p.name) (made_of put_parser (parser_of (outside roles Γ) p))
declared roles Γ notes (kind.Control c) =
    beside (once Γ.top c.name) (made_of put_control (control_of Γ (roles.allowed_in c.name.text) c))
declared roles Γ notes (kind.Instance i) = nothing (beside (once Γ.top i.name) (top_instance Γ i))

-- the types that are made, where they are right
abbrev pub more_structs : Scope → Checked (List FieldOf) → Scope
more_structs Γ (Right fields) = record Γ { structs = Γ.structs ++ fields ∷ [] }
more_structs Γ (Wrong fault more) = Γ

abbrev pub more_headers : Scope → Checked (List FieldOf) → Scope
more_headers Γ (Right fields) = record Γ { headers = Γ.headers ++ fields ∷ [] }
more_headers Γ (Wrong fault more) = Γ

abbrev pub more_enumerations : Scope → Checked EnumMade → Scope
more_enumerations Γ (Right made) = record Γ { enumerations = Γ.enumerations ++ made.members ∷ [] }
more_enumerations Γ (Wrong fault more) = Γ

abbrev pub struct_meaning : Scope → Checked (List FieldOf) → Checked Meaning
struct_meaning Γ made = made_of (λ fields. TypeOf (Structure (length Γ.structs))) made

abbrev pub header_meaning : Scope → Checked (List FieldOf) → Checked Meaning
header_meaning Γ made = made_of (λ fields. TypeOf (Header (length Γ.headers))) made

abbrev pub enum_meaning : Scope → Checked EnumMade → Checked Meaning
enum_meaning Γ made = made_of (λ m. TypeOf (enum_type (length Γ.enumerations) m.width)) made

abbrev pub statements_in : ParserPartKind → ℕ
statements_in (part.State s) = (count_of_list s.parts).statements
statements_in _ = 0

abbrev pub behind_parser : Scope → Parser → Scope
behind_parser Γ p = record Γ { callable = Γ.callable + 1; statement = Γ.statement + sum_by (λ q. statements_in q.kind) p.parts }

abbrev pub with_parser : Scope → Parser → Checked ParserMade → Scope
with_parser Γ p made = more_shapes Γ.callable (made_of (λ m. m.shapes) made)
    (behind_parser (with_top_name Γ p.name.text (made_of (λ m. TypeOf (Opaque (ParserType Γ.callable))) made)) p)

abbrev pub with_control : Scope → Allowed → Control → Checked ControlMade → Scope
with_control Γ allowed c made = more_shapes (control_number Γ c) (made_of (λ m. m.shapes) made)
    (with_callable_depth (control_number Γ c) (control_depth Γ allowed c made)
    (behind_control (with_top_name Γ c.name.text (made_of (λ m. TypeOf (Opaque (ControlType (control_number Γ c)))) made)) c))

-- the scope behind a declaration
abbrev pub behind_declaration : Roles → Scope → DeclarationKind → Scope
behind_declaration roles Γ (kind.Constant c) = with_top_name Γ c.name.text (constant_value_of Γ c)
behind_declaration roles Γ (kind.Typedef t) = with_top_name Γ t.name.text (made_of (λ u. TypeOf u) (written_type Γ t.name.span t.type_form))
behind_declaration roles Γ (kind.Struct name fields) =
    more_structs (with_top_name Γ name.text (struct_meaning Γ (struct_fields Γ fields))) (struct_fields Γ fields)
behind_declaration roles Γ (kind.Header name fields) =
    more_headers (with_top_name Γ name.text (header_meaning Γ (header_fields Γ name fields))) (header_fields Γ name fields)
behind_declaration roles Γ (kind.Enumeration e) =
    more_enumerations (with_top_name Γ e.name.text (enum_meaning Γ (enum_of Γ e))) (enum_of Γ e)
behind_declaration roles Γ (kind.Errors members) = record Γ { errors = put_errors Γ.errors (member_names members) }
behind_declaration roles Γ (kind.Action a) =
    behind_action Γ a (action_of (outside roles Γ) None a)
    (with_top_name Γ a.name.text (action_meaning Γ (action_of (outside roles Γ) None a)))
behind_declaration roles Γ (kind.Parser p) = with_parser Γ p (parser_of (outside roles Γ) p)
behind_declaration roles Γ (kind.Control c) =
    with_control Γ (roles.allowed_in c.name.text) c (control_of Γ (roles.allowed_in c.name.text) c)
behind_declaration roles Γ (kind.Instance i) =
    with_top_name Γ i.name.text (made_of (instanced_meaning Γ) (instance_of Γ false i))

-- the parts of a source from one on
abbrev pub tops : Roles → Scope → List TopPart → Checked Pieces
tops roles Γ [] = Right no_pieces
tops roles Γ (top.Empty place ∷ ps) = tops roles Γ ps
tops roles Γ (top.Declaration d ∷ ps) = both (λ put later. put later)
    (noted d.annotations (declared roles Γ d.annotations d.kind)) (tops roles (behind_declaration roles Γ d.kind) ps)

abbrev pub behind_tops : Roles → Scope → List TopPart → Scope
behind_tops roles Γ [] = Γ
behind_tops roles Γ (top.Empty place ∷ ps) = behind_tops roles Γ ps
behind_tops roles Γ (top.Declaration d ∷ ps) = behind_tops roles (behind_declaration roles Γ d.kind) ps

-- What the control plane sees of the right declarations and of the right parts of controls: their names are judged, whether or not
-- others are faulty.
abbrev pub put_right_action : Scope → List Annotation → Name → Checked ActionMade → Pieces → Pieces
put_right_action Γ notes name (Right made) later = put_action Γ notes name made later
put_right_action Γ notes name (Wrong fault more) later = later

abbrev pub right_declaration : Roles → Scope → List Annotation → DeclarationKind → Pieces → Pieces
right_declaration roles Γ notes (kind.Action a) later =
    put_right_action Γ notes a.name (action_of (outside roles Γ) None a) later
right_declaration roles Γ notes (kind.Control c) later = record later {
  planes = plane_of_control Γ (roles.allowed_in c.name.text) c ∷ later.planes;
  actions = (plane_parts Γ (roles.allowed_in c.name.text) c).plane_actions ++ later.actions;
}
right_declaration roles Γ notes k later = later

abbrev pub right_pieces : Roles → Scope → List TopPart → Pieces
right_pieces roles Γ [] = no_pieces
right_pieces roles Γ (top.Empty place ∷ ps) = right_pieces roles Γ ps
right_pieces roles Γ (top.Declaration d ∷ ps) =
    right_declaration roles Γ d.annotations d.kind (right_pieces roles (behind_declaration roles Γ d.kind) ps)
