-- Which entries a table takes (P4-16, "Tables", and the P4Runtime specification, "TableEntry").
use Rattle.std.specs.Prelude.{ℕ, ◌≡◌, ◌≢◌, ◌≤◌, ◌-◌, ◌^◌, ◌%◌, bit_and, List, IsNone, IsSomeAnd, Bool, true, false, slice_get, length}
use Rattle.std.specs.List.{AllZip}
use Rattle.bits_core.specs.declared.number.Bits.{Bits}
use Rattle.p4_program.specs.declared.typed.callables.Parameter.{Parameter}
use Rattle.p4_program.specs.declared.typed.input.Entry.{Entry}
use Rattle.p4_program.specs.declared.typed.input.TheConstants.{MAX_PRIORITY}
use Rattle.p4_program.specs.declared.typed.tables.ListedAction.{ListedAction}
use Rattle.p4_program.specs.declared.typed.tables.MatchKind.{MatchKind}
use Rattle.p4_program.specs.declared.typed.tables.MatchKind.TheVariants as kind
use Rattle.p4_program.specs.declared.typed.tables.Pattern.{Pattern}
use Rattle.p4_program.specs.declared.typed.tables.Pattern.TheVariants.{Exact, Prefix, Masked}
use Rattle.p4_program.specs.declared.typed.tables.TableKey.{TableKey}
use Rattle.p4_program.specs.declared.typed.types.Scalar.TheVariants.{Sized}
use Rattle.p4_program.specs.declared.typed.types.ValueType.TheVariants.{Simple}
use Rattle.p4_program.specs.Syntax.Callables.{CoreKey, CoreTable}
use Rattle.p4_program.specs.Syntax.Lookup.{table_at, is_ordered, ordered_at, action_at}
use Rattle.p4_program.specs.Syntax.Programs.{CoreProgram}

-- a prefix is no longer than the key, and the bits behind it are 0
pub record PrefixFits (width : ℕ) (b : Bits) (count : ℕ) : Type 0 where
  pub width_is : b.width ≡ width
  pub at_most_all : count ≤ width
  pub rest : b.value % 2 ^ (width - count) ≡ 0

-- the bits outside the mask are 0
pub record MaskFits (width : ℕ) (b mask : Bits) : Type 0 where
  pub width_is : b.width ≡ width
  pub mask_width_is : mask.width ≡ width
  pub rest : bit_and b.value mask.value ≡ b.value

-- what a key of this kind and width is matched with
abbrev pub PatternFits : MatchKind → ℕ → Pattern → Type 0
PatternFits kind.Exact width (Exact b) = b.width ≡ width
PatternFits kind.Lpm width (Prefix b count) = PrefixFits width b count
PatternFits kind.Ternary width (Masked b mask) = MaskFits width b mask
PatternFits _ width _ = ⊥

-- one pattern for each key
abbrev pub PatternsFit : List CoreKey → List Pattern → Type 0
PatternsFit ks ps = AllZip (λ k p. PatternFits k.match_kind k.width p) ks ps

-- what a key is matched with, before its expression is read
abbrev pub KeyFits : TableKey → Pattern → Type 0
KeyFits k p = PatternFits k.match_kind k.width p

-- a number of the parameter's width
abbrev pub ArgumentFits : Parameter → Bits → Type 0
ArgumentFits p b = p.value_type ≡ Simple (Sized b.width)

-- one number for each parameter
abbrev pub ArgumentsFit : List Parameter → List Bits → Type 0
ArgumentsFit ps bs = AllZip ArgumentFits ps bs

-- priorities are numbers from 1 on in an ordered table, and 0 in any other
abbrev pub PriorityFits : Bool → ℕ → Type 0
PriorityFits true priority = (1 ≤ priority) × (priority ≤ MAX_PRIORITY)
PriorityFits false priority = priority ≡ 0

-- an action that an entry may name, with arguments for its parameters
pub record ActionFits (p : CoreProgram) (listed : ListedAction) (arguments : List Bits) : Type 0 where
  pub not_default_only : listed.default_only ≡ false
  pub arguments_fit : IsSomeAnd (action_at p listed.action) (λ a. ArgumentsFit a.parameters arguments)

-- the entry names an action of the table's list
abbrev pub NamesAction : CoreProgram → Entry → CoreTable → Type 0
NamesAction p e t = IsSomeAnd (slice_get t.actions e.action) (λ listed. ActionFits p listed e.arguments)

-- the control plane puts entries into the table
pub record TakesEntries (t : CoreTable) : Type 0 where
  pub some_key : 1 ≤ length t.keys
  pub not_constant : IsNone t.entries

-- an entry of this table of the program
pub record FitsTable (p : CoreProgram) (e : Entry) (t : CoreTable) : Type 0 where
  pub takes : TakesEntries t
  pub priority : PriorityFits (is_ordered t) e.priority
  pub keys : PatternsFit t.keys e.keys
  pub action : NamesAction p e t

-- an entry of some table of the program
abbrev pub EntryFits : CoreProgram → Entry → Type 0
EntryFits p e = IsSomeAnd (table_at p e.table) (FitsTable p e)

-- Two entries of one table may not be mistaken for each other: they have different priorities in an ordered table, and
-- different keys in any other.
abbrev pub Differ : Bool → Entry → Entry → Type 0
Differ true d e = d.priority ≢ e.priority
Differ false d e = d.keys ≢ e.keys

pub record Apart (p : CoreProgram) (d e : Entry) : Type 0 where
  pub differ : d.table ≡ e.table → Differ (ordered_at p d.table) d e
