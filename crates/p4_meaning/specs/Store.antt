-- What the blocks of a run work on. Headers and the user's metadata have no field so far.
use Rattle.std.specs.Prelude.{ℕ, List, []}
use Rattle.p4_program.specs.declared.bounds.Bounds.{Bounds}
use Rattle.p4_program.specs.declared.input.Input.{Input}
use Rattle.p4_program.specs.declared.program.Program.{Program}
use Rattle.p4_meaning.specs.V1modelMetadata.{Metadata, starting_metadata}

-- What stays as it is in a run.
pub record Environment : Type 0 where
  pub program : Program
  pub bounds : Bounds
  pub input : Input

-- The standard metadata, how many bytes of the packet the parser has taken (P4-16, "Data extraction"), and the bytes that
-- the deparser has emitted ("Data insertion into packets").
pub record Store : Type 0 where
  pub metadata : Metadata
  pub cursor : ℕ
  pub emitted : List ℕ

-- where a run starts
abbrev pub starting_store : Environment → Store
starting_store env = record { metadata = starting_metadata; cursor = 0; emitted = [] }

-- a store with another metadata
abbrev pub with_metadata : Metadata → Store → Store
with_metadata metadata store = record { metadata = metadata; cursor = store.cursor; emitted = store.emitted }
