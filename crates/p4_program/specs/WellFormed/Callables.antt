-- Tables, actions, parsers and controls that fit a program.
use Rattle.std.specs.Prelude.{ℕ, ◌≡◌, ◌≢◌, ◌≤◌, ◌<◌, ⊤, Bool, true, false, List, [], ◌++◌, length, map, Option, Some, None, slice_get, take, count_by, All, AllPairs, Any, IsSome, IsSomeAnd, ◌⊎◌}
use Rattle.std.specs.List.{AllZip}
use Rattle.std.specs.Option.{option_map_or}
use Rattle.bits_core.specs.declared.number.Bits.{Bits}
use Rattle.p4_program.specs.declared.typed.callables.Direction.{Direction}
use Rattle.p4_program.specs.declared.typed.callables.Direction.TheVariants as direction
use Rattle.p4_program.specs.declared.typed.callables.Parameter.{Parameter}
use Rattle.p4_program.specs.declared.typed.callables.SelectCase.{SelectCase}
use Rattle.p4_program.specs.declared.typed.callables.Target.{Target}
use Rattle.p4_program.specs.declared.typed.callables.Target.TheVariants as target
use Rattle.p4_program.specs.declared.typed.limits.TheConstants.{MAX_ACTIONS, MAX_KEYS}
use Rattle.p4_program.specs.declared.typed.tables.ConstantEntry.{ConstantEntry}
use Rattle.p4_program.specs.declared.typed.tables.ListedAction.{ListedAction}
use Rattle.p4_program.specs.declared.typed.tables.MatchKind.{MatchKind}
use Rattle.p4_program.specs.declared.typed.tables.MatchKind.TheVariants as kind
use Rattle.p4_program.specs.declared.typed.tables.Pattern.{Pattern}
use Rattle.p4_program.specs.declared.typed.tables.Pattern.TheVariants.{Exact, Prefix, Masked}
use Rattle.p4_program.specs.declared.typed.types.Scalar.{Scalar}
use Rattle.p4_program.specs.declared.typed.types.Scalar.TheVariants.{Sized, Members}
use Rattle.p4_program.specs.declared.typed.types.ValueType.{ValueType}
use Rattle.p4_program.specs.declared.typed.types.ValueType.TheVariants.{Simple}
use Rattle.p4_program.specs.Entries.{PatternsFit, ArgumentsFit, MaskFits}
use Rattle.p4_program.specs.Placed.{PlaceFits}
use Rattle.p4_program.specs.Syntax.Callables.{CoreTable, CoreAction, CoreControl, CoreParser, CoreState, CoreTransition, To, Select, CoreCallable, OfAction, OfParser, OfControl}
use Rattle.p4_program.specs.Syntax.Expressions.{CoreExpression}
use Rattle.p4_program.specs.Syntax.Lookup.{action_at, control_at, is_ordered}
use Rattle.p4_program.specs.Syntax.Programs.{CoreProgram}
use Rattle.p4_program.specs.WellFormed.Expressions.{Has, ValueFits}
use Rattle.p4_program.specs.WellFormed.Paths.{Scope, ParserBody, ControlBody, ActionBody, Variable}
use Rattle.p4_program.specs.WellFormed.Statements.{Visible, AllFit}
use Rattle.p4_program.specs.WellFormed.Types.{IsType, width_of, bits}

-- ---- frames

-- what is passed in alone may not be assigned
abbrev pub may_assign : Direction → Bool
may_assign direction.In = false
may_assign direction.Out = true
may_assign direction.InOut = true

abbrev pub parameter_place : Parameter → Variable
parameter_place p = record { value_type = p.value_type; writable = may_assign p.direction }

abbrev pub variable_place : ValueType → Variable
variable_place t = record { value_type = t; writable = true }

-- the parameters, and then the variables
abbrev pub frame : List Parameter → List ValueType → List Variable
frame ps ts = map parameter_place ps ++ map variable_place ts

abbrev pub control_frame : CoreControl → List Variable
control_frame c = frame c.parameters c.variables

-- the frame of the control around an action
abbrev pub frame_around : CoreProgram → Option ℕ → List Variable
frame_around p None = []
frame_around p (Some n) = option_map_or control_frame (control_at p n) []

abbrev pub action_scope : CoreProgram → ℕ → CoreAction → Scope
action_scope p n a =
    record {
      program = p;
      number = n;
      kind = ActionBody;
      within = a.within;
      block = frame_around p a.within;
      action = frame a.parameters a.variables;
      tables = [];
      children = [];
    }

abbrev pub control_scope : CoreProgram → ℕ → CoreControl → Scope
control_scope p n c =
    record {
      program = p;
      number = n;
      kind = ControlBody;
      within = Some n;
      block = control_frame c;
      action = [];
      tables = c.tables;
      children = c.children;
    }

abbrev pub parser_scope : CoreProgram → ℕ → CoreParser → Scope
parser_scope p n q =
    record {
      program = p;
      number = n;
      kind = ParserBody;
      within = None;
      block = frame q.parameters q.variables;
      action = [];
      tables = [];
      children = [];
    }

-- the scope of a table of a control, whose keys apply tables before it
abbrev pub table_scope : CoreProgram → ℕ → CoreControl → ℕ → Scope
table_scope p n c k = record (control_scope p n c) { tables = take k c.tables }

-- the types of parameters and variables
pub record FrameFits (p : CoreProgram) (ps : List Parameter) (ts : List ValueType) : Type 0 where
  pub parameters : All (λ q. IsType p q.value_type) ps
  pub variables : All (IsType p) ts

-- ---- tables

abbrev pub is_prefix_kind : MatchKind → Bool
is_prefix_kind kind.Exact = false
is_prefix_kind kind.Lpm = true
is_prefix_kind kind.Ternary = false

-- a parameter that an entry gives a value: it has no direction, and is a number
pub record EntryParameter (p : Parameter) : Type 0 where
  pub direction_is : p.direction ≡ direction.In
  pub width : ℕ
  pub type_is : p.value_type ≡ bits width

-- an action that a table of this control may take
pub record TableAction (s : Scope) (a : CoreAction) : Type 0 where
  pub visible : Visible a.within s.within
  pub parameters : All EntryParameter a.parameters

pub record ListedFits (s : Scope) (listed : ListedAction) : Type 0 where
  pub earlier : listed.action < s.number
  pub is_action : IsSomeAnd (action_at s.program listed.action) (TableAction s)

-- the action without a match is listed, or `NoAction`, and has its arguments
pub record DefaultFits (s : Scope) (t : CoreTable) : Type 0 where
  pub earlier : t.default_action < s.number
  pub listed : (t.default_action ≡ 0) ⊎ Any (λ listed. listed.action ≡ t.default_action) t.actions
  pub arguments : IsSomeAnd (action_at s.program t.default_action) (λ a. ArgumentsFit a.parameters t.default_arguments)

pub record ConstantEntryFits (s : Scope) (t : CoreTable) (e : ConstantEntry) : Type 0 where
  pub keys_fit : PatternsFit t.keys e.keys
  pub listed : ListedAction
  pub is_listed : slice_get t.actions e.action ≡ Some listed
  pub arguments : IsSomeAnd (action_at s.program listed.action) (λ a. ArgumentsFit a.parameters e.arguments)

-- constant entries of an unordered table have different keys
pub record ConstantEntriesFit (s : Scope) (t : CoreTable) (es : List ConstantEntry) : Type 0 where
  pub each_fits : All (ConstantEntryFits s t) es
  pub different : is_ordered t ≡ false → AllPairs (λ d e. d.keys ≢ e.keys) es

pub record TableFits (s : Scope) (t : CoreTable) : Type 0 where
  pub keys_have : All (λ k. Has s k.value (bits k.width)) t.keys
  pub most_keys : length t.keys ≤ MAX_KEYS
  pub one_prefix : count_by (λ k. is_prefix_kind k.match_kind) t.keys ≤ 1
  pub actions_fit : All (ListedFits s) t.actions
  pub most_actions : length t.actions ≤ MAX_ACTIONS
  pub default_fits : DefaultFits s t
  pub entries_fit : (es : List ConstantEntry) → t.entries ≡ Some es → ConstantEntriesFit s t es

-- ---- parsers

-- a state of so many
abbrev pub TargetFits : ℕ → Target → Type 0
TargetFits states target.Accept = ⊤
TargetFits states target.Reject = ⊤
TargetFits states (target.State n) = n < states

-- a member is compared with a member, or with nothing
pub record AnyMember (b mask : Bits) : Type 0 where
  pub fits : MaskFits 8 b mask
  pub nothing : mask.value ≡ 0

pub record SelectValueFits (scalar : Scalar) (b : Bits) : Type 0 where
  pub width_is : b.width ≡ width_of scalar
  pub value_fits : ValueFits scalar b.value

-- "Select expressions": what a value is matched with
abbrev pub SelectPatternFits : Scalar → Pattern → Type 0
SelectPatternFits scalar (Exact b) = SelectValueFits scalar b
SelectPatternFits (Sized width) (Masked b mask) = MaskFits width b mask
SelectPatternFits (Members count) (Masked b mask) = AnyMember b mask
SelectPatternFits scalar (Prefix b count) = ⊥

pub record SelectCaseFits (states : ℕ) (scalars : List Scalar) (c : SelectCase) : Type 0 where
  pub place_fits : PlaceFits c.place
  pub keys_fit : AllZip SelectPatternFits scalars c.keys
  pub target_fits : TargetFits states c.target

pub record SelectFits (s : Scope) (states : ℕ) (values : List CoreExpression) (cases : List SelectCase) : Type 0 where
  pub scalars : List Scalar
  pub values_have : AllZip (λ e scalar. Has s e (Simple scalar)) values scalars
  pub cases_fit : All (SelectCaseFits states scalars) cases

abbrev pub TransitionFits : Scope → ℕ → CoreTransition → Type 0
TransitionFits s states (To next) = TargetFits states next
TransitionFits s states (Select values cases) = SelectFits s states values cases

pub record StateFits (s : Scope) (states : ℕ) (state : CoreState) : Type 0 where
  pub statements_fit : AllFit s state.statements
  pub transition_fits : TransitionFits s states state.transition

-- ---- what has a body

pub record ActionStands (p : CoreProgram) (n : ℕ) (a : CoreAction) : Type 0 where
  -- the control that declares an action stands behind it
  pub within_later : (c : ℕ) → a.within ≡ Some c → n < c
  pub within_control : (c : ℕ) → a.within ≡ Some c → IsSome (control_at p c)
  pub frame_fits : FrameFits p a.parameters a.variables
  pub body_fits : AllFit (action_scope p n a) a.body

pub record ParserStands (p : CoreProgram) (n : ℕ) (q : CoreParser) : Type 0 where
  pub frame_fits : FrameFits p q.parameters q.variables
  pub beginning_fits : AllFit (parser_scope p n q) q.beginning
  pub states_fit : All (StateFits (parser_scope p n q) (length q.states)) q.states
  pub start_is : q.start < length q.states

pub record ControlStands (p : CoreProgram) (n : ℕ) (c : CoreControl) : Type 0 where
  pub frame_fits : FrameFits p c.parameters c.variables
  pub body_fits : AllFit (control_scope p n c) c.body
  pub tables_fit : (k : ℕ) (t : CoreTable) → slice_get c.tables k ≡ Some t → TableFits (table_scope p n c k) t
  -- a control has instances of controls before it
  pub children_earlier : All (λ k. k < n) c.children
  pub children_are : All (λ k. IsSome (control_at p k)) c.children

abbrev pub CallableStands : CoreProgram → ℕ → CoreCallable → Type 0
CallableStands p n (OfAction a) = ActionStands p n a
CallableStands p n (OfParser q) = ParserStands p n q
CallableStands p n (OfControl c) = ControlStands p n c
