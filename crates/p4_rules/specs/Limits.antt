-- The limits of what a source may hold of one kind: what goes past one is refused at the first beyond it.
use Rattle.std.specs.Prelude.{ℕ, ◌-◌, List, [], ◌∷◌, ◌++◌, map, length, Bool, true, Option, None, Some, slice_get}
use Rattle.std.specs.List.{flat_map}
use Rattle.tg_base.specs.declared.place.Span.{Span}
use Rattle.tg_base.specs.declared.place.Code.TheVariants as code
use Rattle.p4_tree.specs.declared.controls.Local.{Local}
use Rattle.p4_tree.specs.declared.controls.Local.TheVariants as local
use Rattle.p4_tree.specs.declared.declarations.DeclarationKind.{DeclarationKind}
use Rattle.p4_tree.specs.declared.declarations.DeclarationKind.TheVariants as kind
use Rattle.p4_tree.specs.declared.declarations.Member.{Member}
use Rattle.p4_tree.specs.declared.declarations.TopPart.{TopPart}
use Rattle.p4_tree.specs.declared.declarations.TopPart.TheVariants as top
use Rattle.p4_tree.specs.declared.parsers.ParserPartKind.{ParserPartKind}
use Rattle.p4_tree.specs.declared.parsers.ParserPartKind.TheVariants as part
use Rattle.p4_tree.specs.declared.parsers.State.{State}
use Rattle.p4_tree.specs.declared.statements.Block.{Block, Block', Row_of-BlockPart, end_of-BlockPart, more_of-BlockPart}
use Rattle.p4_tree.specs.declared.statements.BlockPartKind.{BlockPartKind}
use Rattle.p4_tree.specs.declared.statements.BlockPartKind.TheVariants as block
use Rattle.p4_tree.specs.declared.statements.StatementKind.{StatementKind, end_of-Statement, more_of-Statement, Held-StatementKind-If-2, StatementKind-If-2-None', StatementKind-If-2-Some', Row_of-SwitchCase, end_of-SwitchCase, more_of-SwitchCase}
use Rattle.p4_tree.specs.declared.statements.StatementKind.TheVariants as statement
use Rattle.p4_tree.specs.declared.statements.SwitchCase.{SwitchCase', Held-SwitchCase-body, SwitchCase-body-None', SwitchCase-body-Some'}
use Rattle.p4_tree.specs.declared.tables.Entry.{Entry}
use Rattle.p4_tree.specs.declared.tables.ListedAction.{ListedAction}
use Rattle.p4_tree.specs.declared.tables.PropertyKind.{PropertyKind}
use Rattle.p4_tree.specs.declared.tables.PropertyKind.TheVariants as property
use Rattle.p4_tree.specs.declared.tables.Table.{Table}
use Rattle.p4_tree.specs.declared.tables.TableKey.{TableKey}
use Rattle.p4_rules.specs.declared.faults.Pass.TheVariants.{Checking}
use Rattle.p4_rules.specs.Faults.{Checked, Right, fault_at, beside}
use Rattle.p4_rules.specs.Core.{core_errors}

-- at most so many of each
abbrev pub most_statements : ℕ
most_statements = 2000

abbrev pub most_tables : ℕ
most_tables = 64

abbrev pub most_states : ℕ
most_states = 256

abbrev pub most_entries : ℕ
most_entries = 1024

abbrev pub most_keys : ℕ
most_keys = 16

abbrev pub most_actions : ℕ
most_actions = 64

abbrev pub most_members : ℕ
most_members = 256

-- the first behind as many as there may be
abbrev pub refused_beyond : Option Span → Checked Bool
refused_beyond None = Right true
refused_beyond (Some place) = fault_at Checking code.Limit place

abbrev pub at_most : ℕ → List Span → Checked Bool
at_most most places = refused_beyond (slice_get places most)

abbrev mutual
  -- the places of the statements that have numbers, in their order
  pub statement_places : StatementKind → Span → List Span
  statement_places statement.Empty place = []
  statement_places (statement.Block (Block' count row s)) place = places_of_parts row
  statement_places statement.Exit place = place ∷ []
  statement_places statement.Return place = place ∷ []
  statement_places (statement.If' e one (more_of-Statement k s end_of-Statement) other) place = statement_places k s ++ places_of_else other
  statement_places (statement.Switch' e count row) place = places_of_cases row
  statement_places (statement.Assign target e) place = place ∷ []
  statement_places (statement.Call e) place = place ∷ []

  pub places_of_else : Held-StatementKind-If-2 → List Span
  places_of_else StatementKind-If-2-None' = []
  places_of_else (StatementKind-If-2-Some' one (more_of-Statement k s end_of-Statement)) = statement_places k s

  pub places_of_cases : {n : _} → Row_of-SwitchCase n → List Span
  places_of_cases end_of-SwitchCase = []
  places_of_cases (more_of-SwitchCase (SwitchCase' label body place) rest) = places_of_body body ++ places_of_cases rest

  pub places_of_body : Held-SwitchCase-body → List Span
  places_of_body SwitchCase-body-None' = []
  places_of_body (SwitchCase-body-Some' (Block' count row place)) = places_of_parts row

  pub places_of_parts : {n : _} → Row_of-BlockPart n → List Span
  places_of_parts end_of-BlockPart = []
  places_of_parts (more_of-BlockPart notes k rest) = places_of_part k ++ places_of_parts rest

  pub places_of_part : BlockPartKind → List Span
  places_of_part (block.Statement' k s) = statement_places k s
  places_of_part (block.Constant c) = []
  places_of_part (block.Variable v) = []

abbrev pub places_in_block : Block → List Span
places_in_block (Block' count row place) = places_of_parts row

-- the parts of declarations, in their order
abbrev pub states_of : ParserPartKind → List State
states_of (part.State s) = s ∷ []
states_of _ = []

abbrev pub states_in : DeclarationKind → List State
states_in (kind.Parser p) = flat_map (λ q. states_of q.kind) p.parts
states_in _ = []

abbrev pub tables_of : Local → List Table
tables_of (local.Table t) = t ∷ []
tables_of _ = []

abbrev pub tables_in : DeclarationKind → List Table
tables_in (kind.Control c) = flat_map (λ p. tables_of p.local) c.parts
tables_in _ = []

abbrev pub statements_of_local : Local → List Span
statements_of_local (local.Action a) = places_in_block a.body
statements_of_local _ = []

abbrev pub statements_in : DeclarationKind → List Span
statements_in (kind.Action a) = places_in_block a.body
statements_in (kind.Parser p) = flat_map (λ s. flat_map (λ q. places_of_part q.kind) s.parts) (flat_map (λ q. states_of q.kind) p.parts)
statements_in (kind.Control c) = flat_map (λ p. statements_of_local p.local) c.parts ++ places_in_block c.body
statements_in _ = []

abbrev pub errors_in : DeclarationKind → List Member
errors_in (kind.Errors members) = members
errors_in _ = []

abbrev pub members_in : DeclarationKind → List Member
members_in (kind.Enumeration e) = e.members
members_in _ = []

abbrev pub declarations_of : List TopPart → List DeclarationKind
declarations_of [] = []
declarations_of (top.Empty place ∷ ps) = declarations_of ps
declarations_of (top.Declaration d ∷ ps) = d.kind ∷ declarations_of ps

abbrev pub entries_in : PropertyKind → List Entry
entries_in (property.Entries fixed es) = es
entries_in _ = []

abbrev pub keys_in : PropertyKind → List TableKey
keys_in (property.Key ks) = ks
keys_in _ = []

abbrev pub actions_in : PropertyKind → List ListedAction
actions_in (property.Actions names) = names
actions_in _ = []

abbrev pub table_within : Table → Checked Bool
table_within t = beside (at_most most_keys (flat_map (λ p. map (λ k. k.span) (keys_in p.kind)) t.properties))
    (at_most most_actions (flat_map (λ p. map (λ a. a.name.span) (actions_in p.kind)) t.properties))

abbrev pub tables_within : List Table → Checked Bool
tables_within [] = Right true
tables_within (t ∷ ts) = beside (table_within t) (tables_within ts)

abbrev pub entry_places : List Table → List Span
entry_places ts = flat_map (λ t. flat_map (λ p. map (λ e. e.span) (entries_in p.kind)) t.properties) ts

abbrev pub enumerations_within : List DeclarationKind → Checked Bool
enumerations_within [] = Right true
enumerations_within (d ∷ ds) = beside (at_most most_members (map (λ m. m.name.span) (members_in d))) (enumerations_within ds)

-- the errors of core.p4 are counted with those of the source
abbrev pub errors_within : List DeclarationKind → Checked Bool
errors_within ds = at_most (most_members - length core_errors) (map (λ m. m.name.span) (flat_map errors_in ds))

abbrev pub declarations_within : List DeclarationKind → Checked Bool
declarations_within ds =
    beside (at_most most_statements (flat_map statements_in ds))
    (beside (at_most most_states (map (λ s. s.span) (flat_map states_in ds)))
    (beside (at_most most_tables (map (λ t. t.span) (flat_map tables_in ds)))
    (beside (at_most most_entries (entry_places (flat_map tables_in ds)))
    (beside (tables_within (flat_map tables_in ds))
    (beside (enumerations_within ds) (errors_within ds))))))

-- a source within the limits
abbrev pub within_limits : List TopPart → Checked Bool
within_limits ps = declarations_within (declarations_of ps)
