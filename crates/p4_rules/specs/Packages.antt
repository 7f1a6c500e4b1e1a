-- The package: the one `main`, its six blocks, and the instances that it makes of controls.
use Rattle.std.specs.Prelude.{ℕ, zero, suc, ◌+◌, ◌-◌, ◌==◌, List, [], ◌∷◌, ◌++◌, map, length, unwrap_or, Bool, true, false, ◌&&◌, Option, None, Some, Result, codes, if◌then◌else◌}
use Rattle.std.specs.List.{find, list_any, position, count_by}
use Rattle.std.specs.Str.{bytes_eq}
use Rattle.tg_base.specs.declared.place.Span.{Span}
use Rattle.tg_base.specs.declared.place.Code.TheVariants as code
use Rattle.p4_tree.specs.declared.declarations.DeclarationKind.{DeclarationKind}
use Rattle.p4_tree.specs.declared.declarations.DeclarationKind.TheVariants as kind
use Rattle.p4_tree.specs.declared.declarations.Direction.{Direction}
use Rattle.p4_tree.specs.declared.declarations.Direction.TheVariants as way
use Rattle.p4_tree.specs.declared.declarations.Source.{Source}
use Rattle.p4_tree.specs.declared.declarations.TopPart.{TopPart}
use Rattle.p4_tree.specs.declared.declarations.TopPart.TheVariants as top
use Rattle.p4_tree.specs.declared.controls.Instance.{Instance}
use Rattle.p4_tree.specs.declared.controls.InstanceArgument.{InstanceArgument}
use Rattle.p4_tree.specs.declared.controls.InstanceArgumentKind.{InstanceArgumentKind}
use Rattle.p4_tree.specs.declared.controls.InstanceArgumentKind.TheVariants as argument
use Rattle.p4_program.specs.declared.typed.instances.Blocks.{Blocks}
use Rattle.p4_program.specs.declared.typed.instances.Instance.{Instance as CoreInstance}
use Rattle.p4_program.specs.declared.typed.instances.NamedTable.{NamedTable}
use Rattle.p4_rules.specs.Ascii.{ascii_bytes, is_ascii}
use Rattle.p4_rules.specs.declared.faults.Pass.TheVariants.{Checking}
use Rattle.p4_rules.specs.Faults.{Checked, Right, Wrong, fault_at, and_then, made_of, both, all_three, beside, of_told}
use Rattle.p4_rules.specs.declared.faults.Fault.{Fault}
use Rattle.p4_rules.specs.declared.types.SourceType.{SourceType}
use Rattle.p4_rules.specs.declared.types.Object.TheVariants.{PacketIn, PacketOut, Package, ParserType, ControlType}
use Rattle.p4_rules.specs.declared.types.SourceType.TheVariants.{Structure, Opaque}
use Rattle.p4_rules.specs.Types.{same_type}
use Rattle.p4_rules.specs.declared.scopes.Allowed.{Allowed}
use Rattle.p4_rules.specs.declared.scopes.ParameterShape.{ParameterShape}
use Rattle.p4_rules.specs.Scopes.{Scope, Meaning, TypeOf, found_in, shapes_of}
use Rattle.p4_rules.specs.Expressions.{written_type}
use Rattle.p4_rules.specs.Callees.{is_emittable}
use Rattle.p4_rules.specs.Controls.{PlaneControl, PlaneTable, PlaneChild, PlaneAction, ListedPlace}
use Rattle.p4_rules.specs.Core.{all_allowed}
use Rattle.p4_rules.specs.Tops.{Roles, is_main, behind_declaration}

-- the instances of this name at the top
abbrev pub main_in : DeclarationKind → List Instance
main_in (kind.Instance i) = if is_main i.name then i ∷ [] else []
main_in _ = []

abbrev pub mains_of : List TopPart → List Instance
mains_of [] = []
mains_of (top.Empty place ∷ ps) = mains_of ps
mains_of (top.Declaration d ∷ ps) = main_in d.kind ++ mains_of ps

-- the names of what the arguments construct, where each constructs something
abbrev pub constructed_in : InstanceArgumentKind → Option (List (List ℕ)) → Option (List (List ℕ))
constructed_in (argument.Constructed name) (Some names) = Some (name.text ∷ names)
constructed_in _ names = None

abbrev pub constructed : List InstanceArgument → Option (List (List ℕ))
constructed [] = Some []
constructed (a ∷ more) = constructed_in a.kind (constructed more)

-- the six blocks by the names of a parser and of five controls
pub record Six : Type 0 where
  pub parser : List ℕ
  pub verify : List ℕ
  pub ingress : List ℕ
  pub egress : List ℕ
  pub compute : List ℕ
  pub deparser : List ℕ

abbrev pub six_of : Option (List (List ℕ)) → Option Six
six_of (Some (p ∷ v ∷ i ∷ e ∷ c ∷ d ∷ [])) =
    Some (record { parser = p; verify = v; ingress = i; egress = e; compute = c; deparser = d })
six_of _ = None

-- the blocks that a source names: none where there is no one `main` of six
abbrev pub named_by : List Instance → Option Six
named_by (m ∷ []) = six_of (constructed m.arguments)
named_by _ = None

abbrev pub blocks_named : Source → Option Six
blocks_named s = named_by (mains_of s.parts)

abbrev pub five_of : Six → List (List ℕ)
five_of six = six.verify ∷ six.ingress ∷ six.egress ∷ six.compute ∷ six.deparser ∷ []

-- a control that is this block and no other
abbrev pub is_only : Six → List ℕ → List ℕ → Bool
is_only six own name = bytes_eq own name && (count_by (bytes_eq name) (five_of six) == 1)

abbrev pub allowed_by : Six → List ℕ → Allowed
allowed_by six name = record {
  verify_checksum = is_only six six.verify name;
  update_checksum = is_only six six.compute name;
  emit = is_only six six.deparser name;
}

abbrev pub none_allowed : Allowed
none_allowed = record { verify_checksum = false; update_checksum = false; emit = false }

-- which calls stand in one block alone is judged only where six blocks are named
abbrev pub roles_of : Option Six → Roles
roles_of None = record { allowed_in = λ name. all_allowed; allowed_outside = all_allowed }
roles_of (Some six) = record { allowed_in = allowed_by six; allowed_outside = none_allowed }

-- the scope in front of `main`
abbrev pub before_main : Roles → Scope → List TopPart → Scope
before_main roles Γ [] = Γ
before_main roles Γ (top.Empty place ∷ ps) = before_main roles Γ ps
before_main roles Γ (top.Declaration d ∷ ps) =
    if length (main_in d.kind) == 0 then before_main roles (behind_declaration roles Γ d.kind) ps else Γ

abbrev pub package_fault : {X : Type 0} → Span → Checked X
package_fault place = fault_at Checking code.Package place

abbrev pub block_or : Span → Option (Result Meaning Fault) → Checked Meaning
block_or place (Some meaning) = of_told meaning
block_or place None = package_fault place

-- a block is a parser or a control that is declared before; a faulty one leaves the package no fault of its own
abbrev pub block_meaning : Scope → Span → List ℕ → Checked Meaning
block_meaning Γ place name = block_or place (found_in Γ.top name)

abbrev pub parser_in : Span → Meaning → Checked ℕ
parser_in place (TypeOf (Opaque (ParserType n))) = Right n
parser_in place m = package_fault place

abbrev pub control_in : Span → Meaning → Checked ℕ
control_in place (TypeOf (Opaque (ControlType n))) = Right n
control_in place m = package_fault place

-- a parameter of this direction and type
abbrev pub same_way : Option Direction → Option Direction → Bool
same_way None None = true
same_way (Some way.In) (Some way.In) = true
same_way (Some way.Out) (Some way.Out) = true
same_way (Some way.InOut) (Some way.InOut) = true
same_way _ _ = false

abbrev pub is_parameter : Option Direction → SourceType → ParameterShape → Bool
is_parameter way t shape = same_way way shape.direction && same_type t shape.type_of

abbrev pub are_parameters : List (Option Direction × SourceType) → List ParameterShape → Bool
are_parameters [] [] = true
are_parameters (w ∷ ws) (shape ∷ shapes) = is_parameter w.0 w.1 shape && are_parameters ws shapes
are_parameters _ _ = false

-- the types of the headers and of the user's metadata, as the parser has them
pub record Stores : Type 0 where
  pub headers : SourceType
  pub metadata : SourceType

abbrev pub stores_of : List ParameterShape → Option Stores
stores_of (b ∷ h ∷ m ∷ s ∷ []) = Some (record { headers = h.type_of; metadata = m.type_of })
stores_of _ = None

abbrev pub metadata_type : SourceType
metadata_type = Structure 0

abbrev pub parser_parameters : Stores → List (Option Direction × SourceType)
parser_parameters t = (None, Opaque PacketIn) ∷ (Some way.Out, t.headers) ∷ (Some way.InOut, t.metadata) ∷ (Some way.InOut, metadata_type) ∷ []

abbrev pub checksum_parameters : Stores → List (Option Direction × SourceType)
checksum_parameters t = (Some way.InOut, t.headers) ∷ (Some way.InOut, t.metadata) ∷ []

abbrev pub pipeline_parameters : Stores → List (Option Direction × SourceType)
pipeline_parameters t = (Some way.InOut, t.headers) ∷ (Some way.InOut, t.metadata) ∷ (Some way.InOut, metadata_type) ∷ []

abbrev pub deparser_parameters : Stores → List (Option Direction × SourceType)
deparser_parameters t = (None, Opaque PacketOut) ∷ (Some way.In, t.headers) ∷ []

abbrev pub is_struct : SourceType → Bool
is_struct (Structure n) = true
is_struct _ = false

-- v1model.p4: the six blocks by their numbers
pub record SixNumbers : Type 0 where
  pub parser : ℕ
  pub verify : ℕ
  pub ingress : ℕ
  pub egress : ℕ
  pub compute : ℕ
  pub deparser : ℕ

abbrev pub blocks_fit_with : Scope → SixNumbers → Option Stores → Bool
blocks_fit_with Γ n None = false
blocks_fit_with Γ n (Some t) =
    are_parameters (parser_parameters t) (shapes_of Γ n.parser)
    && are_parameters (checksum_parameters t) (shapes_of Γ n.verify)
    && are_parameters (pipeline_parameters t) (shapes_of Γ n.ingress)
    && are_parameters (pipeline_parameters t) (shapes_of Γ n.egress)
    && are_parameters (checksum_parameters t) (shapes_of Γ n.compute)
    && are_parameters (deparser_parameters t) (shapes_of Γ n.deparser)
    && is_struct t.headers && is_emittable Γ t.headers

abbrev pub blocks_fit : Scope → SixNumbers → Bool
blocks_fit Γ n = blocks_fit_with Γ n (stores_of (shapes_of Γ n.parser))

abbrev pub first_blocks : Scope → Span → Six → Checked (ℕ × ℕ × ℕ)
first_blocks Γ place six = all_three (λ p v i. (p, v, i)) (and_then (block_meaning Γ place six.parser) (parser_in place))
    (and_then (block_meaning Γ place six.verify) (control_in place)) (and_then (block_meaning Γ place six.ingress) (control_in place))

abbrev pub last_blocks : Scope → Span → Six → Checked (ℕ × ℕ × ℕ)
last_blocks Γ place six = all_three (λ e c d. (e, c, d)) (and_then (block_meaning Γ place six.egress) (control_in place))
    (and_then (block_meaning Γ place six.compute) (control_in place)) (and_then (block_meaning Γ place six.deparser) (control_in place))

abbrev pub six_numbers : Scope → Span → Six → Checked SixNumbers
six_numbers Γ place six = both
    (λ a b. record { parser = a.0; verify = a.1; ingress = a.2; egress = b.0; compute = b.1; deparser = b.2 })
    (first_blocks Γ place six) (last_blocks Γ place six)

abbrev pub is_package : SourceType → Bool
is_package (Opaque Package) = true
is_package _ = false

abbrev pub fitting : Scope → Span → SixNumbers → Checked SixNumbers
fitting Γ place n = if blocks_fit Γ n then Right n else package_fault place

abbrev pub six_or_fault : Scope → Span → Option Six → Checked SixNumbers
six_or_fault Γ place None = package_fault place
six_or_fault Γ place (Some six) = and_then (six_numbers Γ place six) (fitting Γ place)

abbrev pub of_package : Checked SourceType → Bool
of_package (Right t) = is_package t
of_package (Wrong fault more) = false

-- `main` is of the switch's package
abbrev pub is_switch : Scope → Instance → Bool
is_switch Γ m = of_package (written_type Γ m.name.span m.type_form)

-- the package: the blocks of the one `main`, and its place
abbrev pub package_of : Scope → Span → List Instance → Checked (SixNumbers × Span)
package_of Γ end [] = package_fault end
package_of Γ end (m ∷ []) = if is_switch Γ m
    then made_of (λ n. (n, m.span)) (six_or_fault Γ m.span (six_of (constructed m.arguments))) else package_fault m.span
package_of Γ end (m ∷ other ∷ more) = package_fault m.span

-- "Instantiations": a control is an instance with one of each of its children below it, each by its name for the control plane
mutual
  pub data Tree : Type 0 where
    Node : (control : ℕ) → (name : List ℕ) → Trees → Tree

  pub data Trees : Type 0 where
    NoTrees : Trees
    Beside : Tree → Trees → Trees

abbrev pub plane_of : List PlaneControl → ℕ → Option PlaneControl
plane_of planes control = find (λ p. p.control == control) planes

abbrev pub children_in : Option PlaneControl → List PlaneChild
children_in None = []
children_in (Some p) = p.children

abbrev pub below_name : List ℕ → List ℕ → List ℕ
below_name name part = name ++ codes "." ++ part

abbrev pub trees_in : List Tree → Trees
trees_in [] = NoTrees
trees_in (t ∷ ts) = Beside t (trees_in ts)

-- A control's children are declared before it, so no chain of them is longer than the control's number, which is the depth here.
abbrev pub tree_of : List PlaneControl → ℕ → ℕ → List ℕ → Tree
tree_of planes zero control name = Node control name NoTrees
tree_of planes (suc depth) control name = Node control name
    (trees_in (map (λ c. tree_of planes depth c.control (below_name name c.part)) (children_in (plane_of planes control))))

-- an instance with the numbers of those below it
pub record Placed : Type 0 where
  pub control : ℕ
  pub name : List ℕ
  pub children : List ℕ

abbrev mutual
  -- how many instances a tree has
  pub size_of : Tree → ℕ
  size_of (Node control name below) = suc (sizes_of below)

  pub sizes_of : Trees → ℕ
  sizes_of NoTrees = 0
  sizes_of (Beside t ts) = size_of t + sizes_of ts

-- the number of a tree's own instance, behind those below it
abbrev pub root_of : ℕ → Tree → ℕ
root_of first t = first + size_of t - 1

abbrev pub roots_of : ℕ → Trees → List ℕ
roots_of first NoTrees = []
roots_of first (Beside t ts) = root_of first t ∷ roots_of (first + size_of t) ts

abbrev mutual
  -- the instances of a tree, from this number on: each behind those below it
  pub instances_in : ℕ → Tree → List Placed
  instances_in first (Node control name below) =
      all_instances first below ++ record { control = control; name = name; children = roots_of first below } ∷ []

  pub all_instances : ℕ → Trees → List Placed
  all_instances first NoTrees = []
  all_instances first (Beside t ts) = instances_in first t ++ all_instances (first + size_of t) ts

abbrev pub plane_name : Option PlaneControl → List ℕ
plane_name None = []
plane_name (Some p) = p.name

abbrev pub top_tree : List PlaneControl → ℕ → Tree
top_tree planes control = tree_of planes control control (plane_name (plane_of planes control))

abbrev pub trees_at : List PlaneControl → List ℕ → Trees
trees_at planes [] = NoTrees
trees_at planes (c ∷ cs) = Beside (top_tree planes c) (trees_at planes cs)

-- the five controls of the switch, in their order
abbrev pub five_numbers : SixNumbers → List ℕ
five_numbers n = n.verify ∷ n.ingress ∷ n.egress ∷ n.compute ∷ n.deparser ∷ []

abbrev pub switch_trees : List PlaneControl → SixNumbers → Trees
switch_trees planes n = trees_at planes (five_numbers n)

-- the instances of the switch
abbrev pub switch_instances : List PlaneControl → SixNumbers → List Placed
switch_instances planes n = all_instances 0 (switch_trees planes n)

-- a table of an instance: its declaration, the numbers of the instance, the control and the table, and its name
pub record PlacedTable : Type 0 where
  pub table : PlaneTable
  pub instance : ℕ
  pub control : ℕ
  pub number : ℕ
  pub within : List ℕ

-- "program order": by the declarations, and those of one declaration by their instances
abbrev pub of_instances : PlaneTable → ℕ → ℕ → ℕ → List Placed → List PlacedTable
of_instances t control number i [] = []
of_instances t control number i (p ∷ ps) = if p.control == control
    then record { table = t; instance = i; control = control; number = number; within = p.name } ∷ of_instances t control number (i + 1) ps
    else of_instances t control number (i + 1) ps

abbrev pub of_control : ℕ → ℕ → List PlaneTable → List Placed → List PlacedTable
of_control control number [] placed = []
of_control control number (t ∷ ts) placed = of_instances t control number 0 placed ++ of_control control (number + 1) ts placed

abbrev pub placed_tables : List PlaneControl → List Placed → List PlacedTable
placed_tables [] placed = []
placed_tables (p ∷ ps) placed = of_control p.control 0 p.tables placed ++ placed_tables ps placed

abbrev pub table_name : PlacedTable → List ℕ
table_name t = below_name t.within t.table.part

-- "Control-plane names": an action outside controls, and `NoAction`, has its name alone
abbrev pub action_name_in : List ℕ → Option PlaneAction → List ℕ
action_name_in within None = codes "NoAction"
action_name_in within (Some a) = if a.is_local then below_name within a.part else a.part

abbrev pub action_name : List PlaneAction → List ℕ → ℕ → List ℕ
action_name actions within n = action_name_in within (find (λ a. a.action == n) actions)

abbrev pub named_table : List PlaneAction → PlacedTable → NamedTable
named_table actions t = record {
  control = t.control;
  table = t.number;
  name = ascii_bytes (table_name t);
  action_names = map (λ l. action_name actions t.within l.action) t.table.listed;
  ascii = is_ascii (table_name t);
}

-- the number that a table of an instance has among all
abbrev pub is_table_at : ℕ → ℕ → PlacedTable → Bool
is_table_at instance number t = (t.instance == instance) && (t.number == number)

abbrev pub table_numbers : List PlacedTable → ℕ → ℕ → ℕ → List ℕ
table_numbers tables instance number zero = []
table_numbers tables instance number (suc count) =
    unwrap_or (position (is_table_at instance number) tables) 0 ∷ table_numbers tables instance (number + 1) count

abbrev pub tables_in : Option PlaneControl → List PlaneTable
tables_in None = []
tables_in (Some p) = p.tables

abbrev pub core_instances : List PlaneControl → List PlacedTable → ℕ → List Placed → List CoreInstance
core_instances planes tables i [] = []
core_instances planes tables i (p ∷ ps) = record {
  control = p.control;
  tables = table_numbers tables i 0 (length (tables_in (plane_of planes p.control)));
  children = p.children;
} ∷ core_instances planes tables (i + 1) ps

-- the numbers of the blocks
abbrev pub blocks_at : ℕ → List ℕ → Blocks
blocks_at parser (v ∷ i ∷ e ∷ c ∷ d ∷ []) =
    record { parser = parser; verify = v; ingress = i; egress = e; compute = c; deparser = d }
blocks_at parser _ = record { parser = parser; verify = 0; ingress = 0; egress = 0; compute = 0; deparser = 0 }

-- a control that no block reaches is a top of its own, for names alone
abbrev pub unreached : List PlaneControl → List Placed → List ℕ
unreached [] placed = []
unreached (p ∷ ps) placed =
    if list_any (λ q. q.control == p.control) placed then unreached ps placed else p.control ∷ unreached ps placed

abbrev pub every_instance : List PlaneControl → Option SixNumbers → List Placed
every_instance planes None = all_instances 0 (trees_at planes (unreached planes []))
every_instance planes (Some n) =
    switch_instances planes n
    ++ all_instances (length (switch_instances planes n)) (trees_at planes (unreached planes (switch_instances planes n)))

-- "Control-plane names": where two tables, or two places of one list of actions, have one name, the later is left out
abbrev pub new_name : List (List ℕ) → List ℕ → Span → Checked Bool
new_name seen name place = if list_any (bytes_eq name) seen then fault_at Checking code.Unsupported place else Right true

abbrev pub tables_once : List (List ℕ) → List PlacedTable → Checked Bool
tables_once seen [] = Right true
tables_once seen (t ∷ ts) = beside (new_name seen (table_name t) t.table.place) (tables_once (table_name t ∷ seen) ts)

abbrev pub actions_once : List PlaneAction → List ℕ → List (List ℕ) → List ListedPlace → Checked Bool
actions_once actions within seen [] = Right true
actions_once actions within seen (l ∷ ls) = beside (new_name seen (action_name actions within l.action) l.place)
    (actions_once actions within (action_name actions within l.action ∷ seen) ls)

abbrev pub lists_once : List PlaneAction → List PlacedTable → Checked Bool
lists_once actions [] = Right true
lists_once actions (t ∷ ts) = beside (actions_once actions t.within [] t.table.listed) (lists_once actions ts)

abbrev pub names_once : List PlaneControl → List PlaneAction → Option SixNumbers → Checked Bool
names_once planes actions n =
    let tables = placed_tables planes (every_instance planes n) in beside (tables_once [] tables) (lists_once actions tables)
