-- Tables: their keys, actions, default actions and constant entries.
use Rattle.std.specs.Prelude.{ℕ, ◌==◌, List, [], ◌∷◌, ◌++◌, map, length, is_some, is_none, Bool, true, false, ◌&&◌, ◌||◌, Option, None, Some, codes, if◌then◌else◌}
use Rattle.std.specs.Str.{bytes_eq}
use Rattle.std.specs.List.{position, list_any, list_all}
use Rattle.tg_base.specs.declared.place.Span.{Span}
use Rattle.tg_base.specs.declared.place.Code.TheVariants as code
use Rattle.bits_core.specs.declared.number.Bits.{Bits}
use Rattle.p4_tree.specs.declared.names.Name.{Name}
use Rattle.p4_tree.specs.declared.expressions.Expression.{Expression}
use Rattle.p4_tree.specs.declared.expressions.ExpressionKind.{ExpressionKind, end_of-Expression, more_of-Expression, Row_of-PostfixPart, end_of-PostfixPart, more_of-PostfixPart}
use Rattle.p4_tree.specs.declared.expressions.ExpressionKind.TheVariants as kind
use Rattle.p4_tree.specs.declared.expressions.PostfixKind.TheVariants as postfix
use Rattle.p4_tree.specs.declared.keys.KeySet.{KeySet}
use Rattle.p4_tree.specs.declared.keys.KeySetKind.{KeySetKind}
use Rattle.p4_tree.specs.declared.keys.KeySetKind.TheVariants as keys
use Rattle.p4_tree.specs.declared.expressions.SimpleKey.{SimpleKey}
use Rattle.p4_tree.specs.declared.tables.Entry.{Entry}
use Rattle.p4_tree.specs.declared.tables.ListedAction.{ListedAction}
use Rattle.p4_tree.specs.declared.tables.Property.{Property}
use Rattle.p4_tree.specs.declared.tables.PropertyKind.{PropertyKind}
use Rattle.p4_tree.specs.declared.tables.PropertyKind.TheVariants as property
use Rattle.p4_tree.specs.declared.tables.Table.{Table}
use Rattle.p4_tree.specs.declared.tables.TableKey.{TableKey}
use Rattle.p4_program.specs.declared.typed.tables.ConstantEntry.{ConstantEntry}
use Rattle.p4_program.specs.declared.typed.tables.ListedAction.{ListedAction as CoreListed}
use Rattle.p4_program.specs.declared.typed.tables.MatchKind.{MatchKind}
use Rattle.p4_program.specs.declared.typed.tables.MatchKind.TheVariants as match
use Rattle.p4_program.specs.declared.typed.tables.Pattern.{Pattern}
use Rattle.p4_program.specs.Syntax.Callables.{CoreKey, CoreTable}
use Rattle.p4_rules.specs.declared.faults.Pass.TheVariants.{Checking}
use Rattle.p4_rules.specs.Faults.{Checked, Right, Wrong, fault_at, given, and_then, made_of, both, with_both, all_of, beside}
use Rattle.p4_rules.specs.declared.types.SourceType.{SourceType}
use Rattle.p4_rules.specs.declared.types.Object.TheVariants.{DirectCounter}
use Rattle.p4_rules.specs.declared.types.SourceType.TheVariants.{Bit, Signed, Boolean, Integer}
use Rattle.p4_rules.specs.declared.scopes.ParameterShape.{ParameterShape}
use Rattle.p4_rules.specs.Scopes.{Scope, Meaning, ActionOf, TableOf, ObjectOf, meaning_of, or_else, shapes_of}
use Rattle.p4_rules.specs.Operands.{Operand, type_of, core_of}
use Rattle.p4_rules.specs.Operators.{width_in}
use Rattle.p4_rules.specs.Casts.{as_bits, typing_fault}
use Rattle.p4_rules.specs.Things.{Thing, Named, Judged, value_of, number_of, misfit}
use Rattle.p4_rules.specs.Expressions.{judged, all_judged}
use Rattle.p4_rules.specs.Variables.{judged_expression, value_in}
use Rattle.p4_rules.specs.Keys.{Form, form_of, constant_for, entry_pattern, bits_at, same_patterns}
use Rattle.p4_rules.specs.Spellings.{with_text, spelled}
use Rattle.p4_rules.specs.Notes.{noted, given_name, is_default_only}

-- "Match kinds": those of core.p4; two of v1model are left out
abbrev pub match_kind : Name → Checked MatchKind
match_kind name =
    if bytes_eq name.text (codes "exact") then Right match.Exact
    else (if bytes_eq name.text (codes "lpm") then Right match.Lpm
    else (if bytes_eq name.text (codes "ternary") then Right match.Ternary
    else (if bytes_eq name.text (codes "range") || bytes_eq name.text (codes "optional") then fault_at Checking code.Unsupported name.span
    else fault_at Checking code.Name name.span)))

-- a key is a sized value or `bool`; a compile-time integer has no type in a run, and the other types are left out
abbrev pub key_operand : SourceType → Span → Operand → Checked Operand
key_operand (Bit w) place x = Right x
key_operand (Signed w) place x = Right x
key_operand Boolean place x = Right x
key_operand Integer place x = typing_fault place
key_operand _ place x = fault_at Checking code.Unsupported place

abbrev pub key_value : Scope → TableKey → Checked Operand
key_value Γ k = and_then (value_in Γ k.value) (λ p. key_operand (type_of (as_bits Γ p.operand)) k.span (as_bits Γ p.operand))

-- the bytes of `.` and of brackets
abbrev pub dotted : List ℕ → List ℕ → List ℕ
dotted head name = head ++ codes "." ++ name

abbrev pub bracketed : List ℕ → List ℕ → List ℕ
bracketed head index = head ++ codes "[" ++ index ++ codes "]"

-- `isValid()` reads as `$valid$`
abbrev pub is_valid_call : Name → Bool
is_valid_call name = bytes_eq name.text (codes "isValid")

abbrev pub parts_text : Option (List ℕ) → {n : _} → Row_of-PostfixPart n → Option (List ℕ)
parts_text head end_of-PostfixPart = head
parts_text head (more_of-PostfixPart (postfix.Member name) s (more_of-PostfixPart (postfix.Call' count row) t end_of-PostfixPart)) =
    if is_valid_call name then with_text dotted head (Some (codes "$valid$")) else None
parts_text head (more_of-PostfixPart (postfix.Member name) s rest) = parts_text (with_text dotted head (Some name.text)) rest
parts_text head (more_of-PostfixPart (postfix.Index' k t) s rest) = parts_text (with_text bracketed head (spelled k)) rest
parts_text head (more_of-PostfixPart k s rest) = None

-- "Control-plane names": a key is named by its path as it is written, without blanks; another key has no name of its own
abbrev pub path_text : ExpressionKind → Option (List ℕ)
path_text (kind.Name name) = Some name.text
path_text (kind.Postfix' one (more_of-Expression (kind.Name name) s end_of-Expression) count parts) = parts_text (Some name.text) parts
path_text _ = None

abbrev pub key_name : TableKey → Checked (List ℕ)
key_name k = given (or_else (given_name k.annotations) (path_text k.value.kind)) Checking code.Unsupported k.span

-- a key with the type of its patterns
pub record KeyMade : Type 0 where
  pub type_of_key : SourceType
  pub key : CoreKey

abbrev pub made_key : Scope → Operand → MatchKind → List ℕ → KeyMade
made_key Γ x kind name = record {
  type_of_key = type_of x;
  key = record { value = core_of Γ x; match_kind = kind; width = width_in (type_of x); name = name };
}

-- a key without a name of its own is left out, if its value is right
abbrev pub key_of : Scope → TableKey → Checked KeyMade
key_of Γ k = noted k.annotations (with_both (λ x kind. made_of (made_key Γ x kind) (key_name k)) (key_value Γ k) (match_kind k.match_kind))

abbrev pub is_lpm : MatchKind → Bool
is_lpm match.Lpm = true
is_lpm _ = false

-- "Match kinds": a second lpm key is refused at its first token
abbrev pub lpm_once : Bool → List (TableKey × KeyMade) → Checked Bool
lpm_once seen [] = Right true
lpm_once seen (k ∷ more) =
    if seen && is_lpm k.1.key.match_kind then beside (typing_fault {X = Bool} k.0.span) (lpm_once true more)
    else lpm_once (seen || is_lpm k.1.key.match_kind) more

abbrev pub paired : {X Y : Type 0} → List X → List Y → List (X × Y)
paired (x ∷ xs) (y ∷ ys) = (x, y) ∷ paired xs ys
paired _ _ = []

abbrev pub keys_of : Scope → List TableKey → Checked (List KeyMade)
keys_of Γ ks = and_then (all_of (map (key_of Γ) ks)) (λ made. made_of (λ b. made) (lpm_once false (paired ks made)))

-- "Actions" of a table: their parameters have no direction and are of `bit`, `int` or `bool`
abbrev pub is_data_type : SourceType → Bool
is_data_type (Bit w) = true
is_data_type (Signed w) = true
is_data_type Boolean = true
is_data_type _ = false

abbrev pub is_data : ParameterShape → Bool
is_data shape = is_none shape.direction && is_data_type shape.type_of

-- an action of the list, by its number
pub record Listed : Type 0 where
  pub name : List ℕ
  pub action : ℕ
  pub default_only : Bool

abbrev pub listed_meaning : Scope → ListedAction → Meaning → Checked Listed
listed_meaning Γ a (ActionOf n) =
    if list_all is_data (shapes_of Γ n)
    then Right (record { name = a.name.text; action = n; default_only = is_default_only a.annotations })
    else fault_at Checking code.Unsupported a.name.span
listed_meaning Γ a m = typing_fault a.name.span

abbrev pub listed_action : Scope → ListedAction → Checked Listed
listed_action Γ a = noted a.annotations (and_then (meaning_of Γ a.name) (listed_meaning Γ a))

-- what calls an action: its name, and the arguments where there is a call
pub record Called : Type 0 where
  pub name : Name
  pub arguments : Option (List Judged)

abbrev pub called_parts : Scope → Span → Name → {n : _} → Row_of-PostfixPart n → Checked Called
called_parts Γ place name (more_of-PostfixPart (postfix.Call' count row) s end_of-PostfixPart) =
    made_of (λ js. record { name = name; arguments = Some js }) (all_judged Γ row)
called_parts Γ place name _ = typing_fault place

abbrev pub called_in : Scope → ExpressionKind → Span → Checked Called
called_in Γ (kind.Name name) place = Right (record { name = name; arguments = None })
called_in Γ (kind.Postfix' one (more_of-Expression (kind.Name name) s end_of-Expression) count parts) place = called_parts Γ place name parts
called_in Γ k place = and_then (judged Γ k place) (λ j. misfit j.place j.thing)

-- the place of an action in the list
abbrev pub listed_place : List Listed → ℕ → Option ℕ
listed_place listed n = position (λ l. l.action == n) listed

abbrev pub argument_for : Scope → ParameterShape → Judged → Checked Bits
argument_for Γ shape a = and_then (value_of a)
    (λ p. made_of (bits_at (width_in shape.type_of)) (constant_for Γ shape.type_of p))

abbrev pub arguments_for : Scope → Span → List ParameterShape → List Judged → Checked (List Bits)
arguments_for Γ place [] [] = Right []
arguments_for Γ place (shape ∷ shapes) (a ∷ more) = both (λ b bs. b ∷ bs) (argument_for Γ shape a) (arguments_for Γ place shapes more)
arguments_for Γ place _ _ = typing_fault place

abbrev pub same_length : {X Y : Type 0} → List X → List Y → Bool
same_length xs ys = length xs == length ys

-- constant arguments, as many as the action takes
abbrev pub constant_arguments : Scope → Span → List ParameterShape → Option (List Judged) → Checked (List Bits)
constant_arguments Γ place shapes None = if length shapes == 0 then Right [] else typing_fault place
constant_arguments Γ place shapes (Some as_given) =
    if same_length shapes as_given then arguments_for Γ place shapes as_given else typing_fault place

-- an action and its arguments
pub record Chosen : Type 0 where
  pub action : ℕ
  pub arguments : List Bits

-- "Default action": a call of a listed action with constant arguments, the name of one without parameters, or `NoAction`, which
-- may be unlisted. An entry's action is listed.
abbrev pub chosen_meaning : Scope → Bool → List Listed → Span → Called → Meaning → Checked Chosen
chosen_meaning Γ no_action listed place c (ActionOf n) =
    if is_some (listed_place listed n) || (no_action && (n == 0))
    then made_of (λ bits. record { action = n; arguments = bits }) (constant_arguments Γ place (shapes_of Γ n) c.arguments)
    else fault_at Checking code.Name c.name.span
chosen_meaning Γ no_action listed place c m = typing_fault c.name.span

-- what the name of a call stands for; another expression is refused as a call
abbrev pub called_meaning : Scope → ExpressionKind → Checked (Option Meaning)
called_meaning Γ (kind.Name name) = made_of (λ m. Some m) (meaning_of Γ name)
called_meaning Γ (kind.Postfix' one (more_of-Expression (kind.Name name) s end_of-Expression) count parts) =
    made_of (λ m. Some m) (meaning_of Γ name)
called_meaning Γ k = Right None

abbrev pub chosen_with : Scope → Bool → List Listed → Span → Called → Option Meaning → Checked Chosen
chosen_with Γ no_action listed place c (Some m) = chosen_meaning Γ no_action listed place c m
chosen_with Γ no_action listed place c None = typing_fault place

abbrev pub chosen_of : Scope → Bool → List Listed → Expression → Checked Chosen
chosen_of Γ no_action listed e = with_both (chosen_with Γ no_action listed e.span) (called_in Γ e.kind e.span) (called_meaning Γ e.kind)

-- "Entries": a pattern for each key; another number of them is refused at the key set
abbrev pub simple_keys : KeySetKind → List SimpleKey
simple_keys (keys.One k) = k ∷ []
simple_keys (keys.Several ks) = ks

abbrev pub forms_of : Scope → KeySet → Checked (List (Span × Form))
forms_of Γ set = all_of (map (λ k. made_of (λ form. (k.span, form)) (form_of Γ k.kind k.span)) (simple_keys set.kind))

abbrev pub patterns_for : Scope → Span → List KeyMade → List (Span × Form) → Checked (List Pattern)
patterns_for Γ place [] [] = Right []
patterns_for Γ place (k ∷ ks) (f ∷ fs) =
    both (λ p ps. p ∷ ps) (entry_pattern Γ k.key.match_kind k.type_of_key f.0 f.1) (patterns_for Γ place ks fs)
patterns_for Γ place _ _ = typing_fault place

abbrev pub entry_patterns : Scope → Span → List KeyMade → List (Span × Form) → Checked (List Pattern)
entry_patterns Γ place ks fs = if same_length ks fs then patterns_for Γ place ks fs else typing_fault place

abbrev pub place_or_none : Option ℕ → ℕ
place_or_none (Some k) = k
place_or_none None = 0

abbrev pub made_entry : List Listed → List Pattern → Chosen → ConstantEntry
made_entry listed patterns c = record { keys = patterns; action = place_or_none (listed_place listed c.action); arguments = c.arguments }

abbrev pub entry_of : Scope → List KeyMade → List Listed → Entry → Checked ConstantEntry
entry_of Γ ks listed e = noted e.annotations (both (made_entry listed)
    (and_then (forms_of Γ e.key_set) (entry_patterns Γ e.key_set.span ks)) (chosen_of Γ false listed e.action))

abbrev pub is_ternary : MatchKind → Bool
is_ternary match.Ternary = true
is_ternary _ = false

-- A table with a ternary key is ordered. In another, equal keys are refused at the first token of the later ones.
abbrev pub is_ordered : List KeyMade → Bool
is_ordered ks = list_any (λ k. is_ternary k.key.match_kind) ks

abbrev pub keys_once : Scope → List ConstantEntry → List (Entry × ConstantEntry) → Checked Bool
keys_once Γ before [] = Right true
keys_once Γ before (e ∷ more) =
    if list_any (λ other. same_patterns other.keys e.1.keys) before
    then beside (fault_at {X = Bool} Γ.pass code.Constant e.0.span) (keys_once Γ (e.1 ∷ before) more)
    else keys_once Γ (e.1 ∷ before) more

abbrev pub unequal : Scope → List KeyMade → List Entry → List ConstantEntry → Checked (List ConstantEntry)
unequal Γ ks es made = if is_ordered ks then Right made else made_of (λ b. made) (keys_once Γ [] (paired es made))

abbrev pub entries_of : Scope → List KeyMade → List Listed → List Entry → Checked (List ConstantEntry)
entries_of Γ ks listed es = and_then (all_of (map (entry_of Γ ks listed) es)) (unequal Γ ks es)

abbrev pub keys_or : PropertyKind → List TableKey → List TableKey
keys_or (property.Key ks) other = ks
keys_or _ other = other

abbrev pub actions_or : PropertyKind → List ListedAction → List ListedAction
actions_or (property.Actions names) other = names
actions_or _ other = other

abbrev pub entries_in : PropertyKind → Option (List Entry)
entries_in (property.Entries fixed es) = Some es
entries_in _ = None

abbrev pub default_in : PropertyKind → Option Expression
default_in (property.Named fixed name e) = if bytes_eq name.text (codes "default_action") then Some e else None
default_in _ = None

-- the properties that count: the first of each
abbrev pub first_keys : List Property → List TableKey
first_keys [] = []
first_keys (p ∷ ps) = keys_or p.kind (first_keys ps)

abbrev pub first_actions : List Property → List ListedAction
first_actions [] = []
first_actions (p ∷ ps) = actions_or p.kind (first_actions ps)

abbrev pub first_entries : List Property → Option (List Entry)
first_entries [] = None
first_entries (p ∷ ps) = or_else (entries_in p.kind) (first_entries ps)

abbrev pub default_of : List Property → Option Expression
default_of [] = None
default_of (p ∷ ps) = or_else (default_in p.kind) (default_of ps)

-- the word by which a property is named
abbrev pub property_word : PropertyKind → List ℕ
property_word (property.Key ks) = codes "key"
property_word (property.Actions names) = codes "actions"
property_word (property.Entries fixed es) = codes "entries"
property_word (property.Named fixed name e) = name.text

abbrev pub word_place : Span → PropertyKind → Span
word_place place (property.Named fixed name e) = name.span
word_place place _ = place

abbrev pub is_direct_counter : Thing → Bool
is_direct_counter (Named (ObjectOf DirectCounter)) = true
is_direct_counter _ = false

abbrev pub counters_right : Judged → Checked Bool
counters_right j = if is_direct_counter j.thing then Right true else misfit j.place j.thing

-- "Additional properties": those that change nothing; any other is left out
abbrev pub named_property : Scope → Span → Name → Expression → Checked Bool
named_property Γ place name e =
    if bytes_eq name.text (codes "size") then made_of (λ z. true) (and_then (judged_expression Γ e) (number_of Γ))
    else (if bytes_eq name.text (codes "counters") then and_then (judged_expression Γ e) counters_right
    else (if bytes_eq name.text (codes "default_action") then made_of (λ c. true) (called_in Γ e.kind e.span)
    else beside (fault_at {X = Bool} Checking code.Unsupported place) (made_of (λ j. true) (judged_expression Γ e))))

-- what entries hold, whatever the keys are
abbrev pub entry_parts : Scope → Entry → Checked Bool
entry_parts Γ e = both (λ forms c. true) (forms_of Γ e.key_set) (called_in Γ e.action.kind e.action.span)

abbrev pub every_entry : Scope → List Entry → Checked Bool
every_entry Γ es = made_of (λ bs. true) (all_of (map (entry_parts Γ) es))

-- entries without `const` are left out
abbrev pub property_right : Scope → Span → PropertyKind → Checked Bool
property_right Γ place (property.Key ks) = made_of (λ made. true) (keys_of Γ ks)
property_right Γ place (property.Actions names) = made_of (λ made. true) (all_of (map (listed_action Γ) names))
property_right Γ place (property.Entries true es) = every_entry Γ es
property_right Γ place (property.Entries false es) = beside (fault_at {X = Bool} Checking code.Unsupported place) (every_entry Γ es)
property_right Γ place (property.Named fixed name e) = named_property Γ place name e

-- a table has each property once
abbrev pub new_word : List (List ℕ) → Span → PropertyKind → Checked Bool
new_word seen place p =
    if list_any (bytes_eq (property_word p)) seen then fault_at Checking code.Name (word_place place p) else Right true

abbrev pub properties_right : Scope → List (List ℕ) → List Property → Checked Bool
properties_right Γ seen [] = Right true
properties_right Γ seen (p ∷ ps) = beside
    (noted p.annotations (beside (new_word seen p.span p.kind) (property_right Γ p.span p.kind)))
    (properties_right Γ (property_word p.kind ∷ seen) ps)

-- without a default action a table has `NoAction`
abbrev pub default_chosen : Scope → List Listed → Option Expression → Checked Chosen
default_chosen Γ listed None = Right (record { action = 0; arguments = [] })
default_chosen Γ listed (Some e) = chosen_of Γ true listed e

abbrev pub constant_entries : Scope → List KeyMade → List Listed → Option (List Entry) → Checked (Option (List ConstantEntry))
constant_entries Γ ks listed None = Right None
constant_entries Γ ks listed (Some es) = made_of (λ made. Some made) (entries_of Γ ks listed es)

abbrev pub core_listed : Listed → CoreListed
core_listed l = record { action = l.action; default_only = l.default_only }

-- a table, and the actions that it lists
pub record TableMade : Type 0 where
  pub listed : List Listed
  pub table : CoreTable

abbrev pub made_table : List KeyMade → List Listed → Chosen → Option (List ConstantEntry) → TableMade
made_table ks listed chosen es = record {
  listed = listed;
  table = record {
    keys = map (λ k. k.key) ks;
    actions = map core_listed listed;
    default_action = chosen.action;
    default_arguments = chosen.arguments;
    entries = es;
  };
}

abbrev pub table_with : Scope → List Property → List KeyMade → List Listed → Checked TableMade
table_with Γ ps ks listed =
    both (made_table ks listed) (default_chosen Γ listed (default_of ps)) (constant_entries Γ ks listed (first_entries ps))

abbrev pub table_of : Scope → Table → Checked TableMade
table_of Γ t = beside (properties_right Γ [] t.properties)
    (with_both (table_with Γ t.properties) (keys_of Γ (first_keys t.properties)) (all_of (map (listed_action Γ) (first_actions t.properties))))

abbrev pub table_meaning : Scope → Checked TableMade → Checked Meaning
table_meaning Γ made = made_of (λ m. TableOf Γ.table) made

-- the actions of a table with their numbers, where it is right
abbrev pub actions_in : Checked TableMade → List (List ℕ × ℕ)
actions_in (Right made) = map (λ l. (l.name, l.action)) made.listed
actions_in (Wrong fault more) = []
