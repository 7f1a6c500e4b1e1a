-- Well-formed programs.
use Rattle.std.specs.Prelude.{ℕ, ◌≡◌, ◌≢◌, ◌+◌, ◌≤◌, ◌<◌, List, [], ◌∷◌, ◌++◌, length, map, flat_map, sum_by, Option, Some, None, option_map, option_and_then, slice_get, All, AllPairs, IsSomeAnd, IsPermutation}
use Rattle.std.specs.Option.{option_map_or}
use Rattle.p4_program.specs.declared.program.TheConstants.{MAX_STATEMENTS}
use Rattle.p4_program.specs.declared.typed.callables.Direction.{Direction}
use Rattle.p4_program.specs.declared.typed.callables.Direction.TheVariants.{In, Out, InOut}
use Rattle.p4_program.specs.declared.typed.callables.Parameter.{Parameter}
use Rattle.p4_program.specs.declared.typed.limits.TheConstants.{MAX_CALL_DEPTH, MAX_CONSTANT_ENTRIES, MAX_PATHS, MAX_STATES, MAX_TABLES}
use Rattle.p4_program.specs.declared.typed.instances.Instance.{Instance}
use Rattle.p4_program.specs.declared.typed.instances.NamedTable.{NamedTable}
use Rattle.p4_program.specs.declared.typed.types.ValueType.{ValueType}
use Rattle.p4_program.specs.declared.typed.types.ValueType.TheVariants.{Struct}
use Rattle.p4_program.specs.Numbered.{numbers_from}
use Rattle.p4_program.specs.Placed.{PlaceFits}
use Rattle.p4_program.specs.Syntax.Callables.{CoreTable, CoreAction, CoreControl, CoreParser, CoreCallable, OfAction, OfParser, OfControl}
use Rattle.p4_program.specs.Syntax.Lookup.{table_in, tables_in, control_at}
use Rattle.p4_program.specs.Syntax.Numbering.{statements_numbered}
use Rattle.p4_program.specs.Syntax.Programs.{CoreProgram}
use Rattle.p4_program.specs.Syntax.Statements.{NoStatements}
use Rattle.p4_program.specs.WellFormed.Callables.{CallableStands}
use Rattle.p4_program.specs.WellFormed.Chains.{calls_at, ChainsWithin}
use Rattle.p4_program.specs.WellFormed.Statements.{HoldsHeaders}
use Rattle.p4_program.specs.WellFormed.Stores.{paths_of, locals_of}
use Rattle.p4_program.specs.WellFormed.Types.{TypesFit, standard_metadata}

-- "The P4 core library": the action that does nothing
abbrev pub no_action : CoreAction
no_action = record { within = None; parameters = []; variables = []; body = NoStatements }

-- ---- instances and their tables

-- the control and the table of a named table
abbrev pub table_named : NamedTable → ℕ × ℕ
table_named t = (t.control, t.table)

-- the tables of an instance are those of its control, in order
pub record InstanceTables (p : CoreProgram) (i : Instance) (c : CoreControl) : Type 0 where
  pub as_many : length i.tables ≡ length c.tables
  pub named : (k t : ℕ) → slice_get i.tables k ≡ Some t → option_map table_named (slice_get p.tables t) ≡ Some (i.control, k)

-- the control of an instance
abbrev pub control_of_instance : CoreProgram → ℕ → Option ℕ
control_of_instance p n = option_map (λ i. i.control) (slice_get p.instances n)

pub record InstanceFits (p : CoreProgram) (n : ℕ) (i : Instance) (c : CoreControl) : Type 0 where
  pub tables_fit : InstanceTables p i c
  pub children_are : map (control_of_instance p) i.children ≡ map (λ k. Some k) c.children
  pub children_earlier : All (λ k. k < n) i.children

-- no two tables or actions of one list have one name
pub record NamesFit (names : List (List ℕ)) (t : CoreTable) : Type 0 where
  pub as_many : length names ≡ length t.actions
  pub different : AllPairs (λ a b. a ≢ b) names

-- the numbers of the instances that are blocks
abbrev pub block_instances : CoreProgram → List ℕ
block_instances p = p.blocks.verify ∷ p.blocks.ingress ∷ p.blocks.egress ∷ p.blocks.compute ∷ p.blocks.deparser ∷ []

pub record InstancesFit (p : CoreProgram) : Type 0 where
  pub each_fits :
      (n : ℕ) (i : Instance) → slice_get p.instances n ≡ Some i → IsSomeAnd (control_at p i.control) (InstanceFits p n i)
  -- each instance is a block or the child of one instance
  pub each_once : IsPermutation (block_instances p ++ flat_map (λ i. i.children) p.instances) (numbers_from 0 (length p.instances))
  pub tables_once : IsPermutation (flat_map (λ i. i.tables) p.instances) (numbers_from 0 (length p.tables))
  pub names_fit : All (λ t. IsSomeAnd (table_in p.callables t) (NamesFit t.action_names)) p.tables
  pub names_different : AllPairs (λ t u. t.name ≢ u.name) p.tables

-- ---- the blocks (v1model.p4, `V1Switch`)

-- the directions and types of parameters
abbrev pub signature : List Parameter → List (Direction × ValueType)
signature ps = map (λ p. (p.direction, p.value_type)) ps

abbrev pub signature_of : CoreCallable → List (Direction × ValueType)
signature_of (OfAction a) = signature a.parameters
signature_of (OfParser q) = signature q.parameters
signature_of (OfControl c) = signature c.parameters

abbrev pub as_parser : CoreCallable → Option CoreParser
as_parser (OfAction a) = None
as_parser (OfParser q) = Some q
as_parser (OfControl c) = None

abbrev pub parser_at : CoreProgram → ℕ → Option CoreParser
parser_at p n = option_and_then as_parser (slice_get p.callables n)

-- the control of the instance of this number
abbrev pub control_here : CoreProgram → ℕ → Option CoreControl
control_here p n = option_and_then (control_at p) (control_of_instance p n)

-- the instance has this signature
abbrev pub BlockHas : CoreProgram → ℕ → List (Direction × ValueType) → Type 0
BlockHas p n list = option_map (λ c. signature c.parameters) (control_here p n) ≡ Some list

-- The headers are a struct of headers alone; the blocks share them, the metadata and the standard metadata.
pub record BlocksFit (p : CoreProgram) : Type 0 where
  pub headers : ℕ
  pub metadata : ValueType
  pub headers_alone : HoldsHeaders (length p.structs) p (Struct headers)
  pub parser :
      option_map (λ q. signature q.parameters) (parser_at p p.blocks.parser) ≡
      Some ((Out, Struct headers) ∷ (InOut, metadata) ∷ (InOut, standard_metadata) ∷ [])
  pub verify : BlockHas p p.blocks.verify ((InOut, Struct headers) ∷ (InOut, metadata) ∷ [])
  pub ingress : BlockHas p p.blocks.ingress ((InOut, Struct headers) ∷ (InOut, metadata) ∷ (InOut, standard_metadata) ∷ [])
  pub egress : BlockHas p p.blocks.egress ((InOut, Struct headers) ∷ (InOut, metadata) ∷ (InOut, standard_metadata) ∷ [])
  pub compute : BlockHas p p.blocks.compute ((InOut, Struct headers) ∷ (InOut, metadata) ∷ [])
  pub deparser : BlockHas p p.blocks.deparser ((In, Struct headers) ∷ [])
  -- the limit of a store: headers, metadata and the variables of one parser or control
  pub few_paths :
      (n : ℕ) (c : CoreCallable) → slice_get p.callables n ≡ Some c →
      paths_of p (Struct headers) + paths_of p metadata + sum_by (paths_of p) (locals_of p n c) ≤ MAX_PATHS

-- ---- the whole

abbrev pub states_in : CoreCallable → ℕ
states_in c = option_map_or (λ q. length q.states) (as_parser c) 0

abbrev pub constant_entries_of : CoreTable → ℕ
constant_entries_of t = option_map_or length t.entries 0

abbrev pub constant_entries_in : CoreCallable → ℕ
constant_entries_in c = sum_by constant_entries_of (tables_in c)

-- Tables, states and constant entries are counted as they are declared, and calls in what nothing calls too.
pub record WithinLimits (p : CoreProgram) : Type 0 where
  pub tables : sum_by (λ c. length (tables_in c)) p.callables ≤ MAX_TABLES
  pub states : sum_by states_in p.callables ≤ MAX_STATES
  pub constant_entries : sum_by constant_entries_in p.callables ≤ MAX_CONSTANT_ENTRIES
  pub statements : length (statements_numbered p) ≤ MAX_STATEMENTS
  pub chains : (n : ℕ) → n < length p.callables → ChainsWithin p MAX_CALL_DEPTH (calls_at p n)

pub record WellFormed (p : CoreProgram) : Type 0 where
  pub types_fit : TypesFit p
  pub no_action_first : slice_get p.callables 0 ≡ Some (OfAction no_action)
  pub callables_stand : (n : ℕ) (c : CoreCallable) → slice_get p.callables n ≡ Some c → CallableStands p n c
  pub instances_fit : InstancesFit p
  pub blocks_fit : BlocksFit p
  -- statements are numbered from 1 in the order of the text
  pub numbered : map (λ s. s.number) (statements_numbered p) ≡ numbers_from 1 (length (statements_numbered p))
  pub placed : All (λ s. PlaceFits s.place) (statements_numbered p)
  pub main_placed : PlaceFits p.main
  pub within_limits : WithinLimits p
