-- Inputs of a typed program within the bounds.
use Rattle.std.specs.Prelude.{ℕ, ◌<◌, ◌≤◌, ◌==◌, List, [], length, All, AllPairs, count_by, replicate, min}
use Rattle.p4_program.specs.declared.bounds.Bounds.{Bounds}
use Rattle.p4_program.specs.declared.input.TheConstants.{MAX_PORT, OPENING_BYTES}
use Rattle.p4_program.specs.declared.typed.input.Entry.{Entry}
use Rattle.p4_program.specs.declared.typed.input.Input.{Input}
use Rattle.p4_program.specs.Entries.{EntryFits, Apart}
use Rattle.p4_program.specs.Syntax.Programs.{CoreProgram}

-- how many of the entries are of this table
abbrev pub entries_of : ℕ → List Entry → ℕ
entries_of table es = count_by (λ e. e.table == table) es

-- the table of the entry has at most so many
pub record HasFew (limit : ℕ) (es : List Entry) (e : Entry) : Type 0 where
  pub few : entries_of e.table es ≤ limit

-- Each is an entry of some table, each table has at most so many, and no two of one table may be mistaken for each other.
pub record BoundedEntries (p : CoreProgram) (limit : ℕ) (es : List Entry) : Type 0 where
  pub each_fits : All (EntryFits p) es
  pub few : All (HasFew limit es) es
  pub apart : AllPairs (Apart p) es

-- The port is one that does not stand for a drop, and the packet is of bytes: at least one, and no more than the bounds
-- allow.
pub record BoundedPacket (b : Bounds) (x : Input) : Type 0 where
  pub port : x.port ≤ MAX_PORT
  pub bytes : All (λ byte. byte < 256) x.packet
  pub some_byte : 1 ≤ length x.packet
  pub most_bytes : length x.packet ≤ b.bytes

pub record BoundedInput (p : CoreProgram) (b : Bounds) (x : Input) : Type 0 where
  pub packet : BoundedPacket b x
  pub entries : BoundedEntries p b.entries x.entries

-- The opening input: port 0, as many zero bytes as an Ethernet header has, or as the bounds allow, and no entries.
abbrev pub opening : Bounds → Input
opening b = record { port = 0; packet = replicate (min b.bytes OPENING_BYTES) 0; entries = [] }
