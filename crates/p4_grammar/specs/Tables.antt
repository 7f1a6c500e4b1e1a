-- The tables of a source with their properties, by the rows of their forms.
use Rattle.std.specs.Prelude.{Bool, true, false, List, [], ◌∷◌, Option, None, Some}
use Rattle.tg_base.specs.declared.place.Span.{Span}
use Rattle.p4_lexer.specs.declared.token.Keyword.TheVariants as keyword
use Rattle.p4_lexer.specs.declared.token.Word.{Word}
use Rattle.p4_lexer.specs.declared.token.Word.TheVariants as word
use Rattle.p4_tree.specs.declared.names.Name.{Name}
use Rattle.p4_tree.specs.declared.names.Annotation.{Annotation}
use Rattle.p4_tree.specs.declared.expressions.Expression.{Expression}
use Rattle.p4_tree.specs.declared.keys.KeySet.{KeySet}
use Rattle.p4_tree.specs.declared.tables.Table.{Table}
use Rattle.p4_tree.specs.declared.tables.Property.{Property}
use Rattle.p4_tree.specs.declared.tables.PropertyKind.{PropertyKind}
use Rattle.p4_tree.specs.declared.tables.PropertyKind.TheVariants as property
use Rattle.p4_tree.specs.declared.tables.TableKey.{TableKey}
use Rattle.p4_tree.specs.declared.tables.ListedAction.{ListedAction}
use Rattle.p4_tree.specs.declared.tables.Entry.{Entry}
use Rattle.p4_grammar.specs.Parses.{Parse, End, Word as Leaf, Node, place_of, option_map, both, all_three, all_four}
use Rattle.p4_grammar.specs.Names.{name_at, word_name, name_of, annotations}
use Rattle.p4_grammar.specs.Expressions.{expression}
use Rattle.p4_grammar.specs.Keys.{key_set}

abbrev pub table_key_at : Expression → Name → List Annotation → Span → TableKey
table_key_at value kind notes span = record { value = value; match_kind = kind; annotations = notes; span = span }

-- KEYS
unfoldable pub keys : Parse → Option (List TableKey)
keys End = Some []
keys (Node k r value (Leaf colon (Node j s kind (Node i q notes (Leaf end (Node l u rest End)))))) =
    both (λ one more. one ∷ more) (all_four table_key_at (expression value) (word_name kind) (annotations notes) (place_of value)) (keys rest)
keys _ = None

-- EMPTY_CALL
unfoldable pub empty_call : Parse → Option Bool
empty_call End = Some false
empty_call (Leaf left (Leaf right End)) = Some true
empty_call _ = None

abbrev pub listed_at : List Annotation → Name → Bool → Span → ListedAction
listed_at notes name call span = record { annotations = notes; name = name; has_parentheses = call; span = span }

-- LISTED_ACTIONS
unfoldable pub listed_actions : Parse → Option (List ListedAction)
listed_actions End = Some []
listed_actions (Node k r notes (Node j s name (Node i q call (Leaf end (Node l u rest End))))) =
    both (λ one more. one ∷ more) (all_four listed_at (annotations notes) (name_of name) (empty_call call) (place_of name)) (listed_actions rest)
listed_actions _ = None

abbrev pub entry_at : KeySet → Expression → List Annotation → Span → Entry
entry_at set action notes span = record { key_set = set; action = action; annotations = notes; span = span }

-- ENTRIES
unfoldable pub entries : Parse → Option (List Entry)
entries End = Some []
entries (Node k r set (Leaf colon (Node j s action (Node i q notes (Leaf end (Node l u rest End)))))) =
    both (λ one more. one ∷ more) (all_four entry_at (key_set set) (expression action) (annotations notes) (place_of set)) (entries rest)
entries _ = None

-- CONSTANCY: whether `const` stands there
unfoldable pub constancy : Parse → Option Bool
constancy End = Some false
constancy (Leaf t End) = Some true
constancy _ = None

-- PROPERTY_VALUE
unfoldable pub property_value : Bool → Parse → Option PropertyKind
property_value fixed (Leaf t (Leaf assign (Node k r value (Leaf end End)))) = both (λ n e. property.Named fixed n e) (name_at t) (expression value)
property_value fixed (Leaf t (Leaf assign (Leaf open_brace (Node k r below (Leaf close End))))) = option_map (λ es. property.Entries fixed es) (entries below)
property_value fixed _ = None

-- the value, behind what says whether it is constant
abbrev pub valued : Option Bool → Parse → Option PropertyKind
valued None below = None
valued (Some fixed) below = property_value fixed below

-- the keys or the actions, behind the word that says which
unfoldable pub listed : Word → Parse → Option PropertyKind
listed (word.Keyword keyword.Key) below = option_map (λ ks. property.Key ks) (keys below)
listed (word.Keyword keyword.Actions) below = option_map (λ names. property.Actions names) (listed_actions below)
listed _ below = None

-- PROPERTY
unfoldable pub property_of : Parse → Option PropertyKind
property_of (Leaf t (Leaf assign (Leaf open_brace (Node k r below (Leaf close End))))) = listed t.word below
property_of (Node k r fixed (Node j s below End)) = valued (constancy fixed) below
property_of _ = None

-- TABLE_PROPERTIES
unfoldable pub properties : Parse → Option (List Property)
properties End = Some []
properties (Node k r notes (Node j s below (Node i q rest End))) =
    both (λ one more. one ∷ more) (all_three (λ ns kind span. record { annotations = ns; kind = kind; span = span }) (annotations notes) (property_of below) (place_of below)) (properties rest)
properties _ = None

-- TABLE
unfoldable pub table : Parse → Option Table
table (Leaf begin (Node k r name (Leaf open_brace (Node j s below (Leaf close End))))) =
    both (λ n ps. record { name = n; properties = ps; span = begin.span }) (name_of name) (properties below)
table _ = None
