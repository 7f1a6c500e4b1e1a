-- A forwarder of IPv4 packets: a parser of two headers, a table on the destination by longest prefix, and a checksum.
use Rattle.std.specs.Prelude.{ℕ, false, List, [], ◌∷◌, ◌++◌, None}
use Rattle.std.proofs.Common.{lit≤}
use Rattle.bits_core.specs.declared.number.Bits.{Bits}
use Rattle.bits_core.specs.declared.operator.Op.TheVariants as op
use Rattle.p4_program.specs.declared.typed.callables.Direction.TheVariants as direction
use Rattle.p4_program.specs.declared.typed.callables.Target.TheVariants as target
use Rattle.p4_program.specs.declared.typed.expressions.Operator.TheVariants.{Plain}
use Rattle.p4_program.specs.declared.typed.input.Entry.{Entry}
use Rattle.p4_program.specs.declared.typed.input.Input.{Input}
use Rattle.p4_program.specs.declared.typed.paths.Path.{Path}
use Rattle.p4_program.specs.declared.typed.paths.Step.TheVariants.{Field}
use Rattle.p4_program.specs.declared.typed.statements.Algorithm.TheVariants.{Csum16}
use Rattle.p4_program.specs.declared.typed.tables.MatchKind.TheVariants.{Lpm}
use Rattle.p4_program.specs.declared.typed.tables.Pattern.TheVariants.{Exact, Prefix, Masked}
use Rattle.p4_program.specs.declared.typed.types.ValueType.TheVariants.{Header, Struct}
use Rattle.p4_program.specs.Syntax.Callables.{CoreTable, CoreState, To, Select}
use Rattle.p4_program.specs.Syntax.Expressions.{CoreExpression, Read, IsValid}
use Rattle.p4_program.specs.Syntax.Statements.{Assign, ApplyTable, Extract, Emit, MarkToDrop, UpdateChecksum}
use Rattle.p4_program.specs.WellFormed.Types.{bits}
use Rattle.p4_meaning.specs.Runs.Examples.{lowest, Parts, around, ingress_of, action, parameter, row, statement, somewhere, number, operation, field, local, egress_spec_path}
use Rattle.p4_meaning.specs.Runs.StatementExamples.{when, nine}

-- the lowest bits of a number: of a type, of an IPv4 address, of the address of a station
abbrev pub type_bits : ℕ → Bits
type_bits value = lowest 16 (lit≤ {m = 1} {n = 16} tt) (lit≤ {m = 16} {n = 128} tt) value

abbrev pub address : ℕ → Bits
address value = lowest 32 (lit≤ {m = 1} {n = 32} tt) (lit≤ {m = 32} {n = 128} tt) value

abbrev pub station : ℕ → Bits
station value = lowest 48 (lit≤ {m = 1} {n = 48} tt) (lit≤ {m = 48} {n = 128} tt) value

-- the two headers, and their fields
abbrev pub ethernet : Path
ethernet = field 0 (Field 0 ∷ []) (Header 0)

abbrev pub ipv4 : Path
ipv4 = field 0 (Field 1 ∷ []) (Header 1)

abbrev pub of_ethernet : ℕ → ℕ → Path
of_ethernet n width = field 0 (Field 0 ∷ Field n ∷ []) (bits width)

abbrev pub of_ipv4 : ℕ → ℕ → Path
of_ipv4 n width = field 0 (Field 1 ∷ Field n ∷ []) (bits width)

-- `start` extracts Ethernet, and goes on to IPv4 by the type of what follows
abbrev pub states : List CoreState
states =
    record {
      statements = row (statement 1 (Extract ethernet) ∷ []);
      transition = Select (Read (of_ethernet 2 16) ∷ [])
          (record { place = somewhere; keys = Exact (type_bits 0x800) ∷ []; target = target.State 1 }
          ∷ record { place = somewhere; keys = Masked (type_bits 0) (type_bits 0) ∷ []; target = target.Accept } ∷ []);
    }
    ∷ record { statements = row (statement 2 (Extract ipv4) ∷ []); transition = To target.Accept }
    ∷ []

-- the actions are callables 6 and 7; `drop` is the default
abbrev pub by_destination : CoreTable
by_destination = record {
  keys = record { value = Read (of_ipv4 11 32); match_kind = Lpm; width = 32; name = [] } ∷ [];
  actions = record { action = 7; default_only = false } ∷ record { action = 6; default_only = false } ∷ record { action = 0; default_only = false } ∷ [];
  default_action = 6;
  default_arguments = [];
  entries = None;
}

-- the fields that the checksum is over: all but the sum
abbrev pub summed : List CoreExpression
summed = Read (of_ipv4 0 4) ∷ Read (of_ipv4 1 4) ∷ Read (of_ipv4 2 8) ∷ Read (of_ipv4 3 16) ∷ Read (of_ipv4 4 16) ∷ Read (of_ipv4 5 3)
    ∷ Read (of_ipv4 6 13) ∷ Read (of_ipv4 7 8) ∷ Read (of_ipv4 8 8) ∷ Read (of_ipv4 10 32) ∷ Read (of_ipv4 11 32) ∷ []

abbrev pub forwards : Parts
forwards =
    let ingress = ingress_of (row (when (IsValid ipv4) (statement 8 (ApplyTable 0) ∷ []) ∷ [])) in
    record (around (record ingress { tables = by_destination ∷ [] })) {
      header_types = record { widths = 48 ∷ 48 ∷ 16 ∷ [] }
          ∷ record { widths = 4 ∷ 4 ∷ 8 ∷ 16 ∷ 16 ∷ 3 ∷ 13 ∷ 8 ∷ 8 ∷ 16 ∷ 32 ∷ 32 ∷ [] } ∷ [];
      header_fields = Header 0 ∷ Header 1 ∷ [];
      states = states;
      actions =
          -- `drop`
          action [] (row (statement 3 (MarkToDrop (field 2 [] (Struct 0))) ∷ []))
          -- `ipv4_forward`
          ∷ action (parameter direction.In (bits 48) ∷ parameter direction.In (bits 9) ∷ [])
          (row (statement 4 (Assign egress_spec_path (Read (local 1 (bits 9))))
          ∷ statement 5 (Assign (of_ethernet 1 48) (Read (of_ethernet 0 48)))
          ∷ statement 6 (Assign (of_ethernet 0 48) (Read (local 0 (bits 48))))
          ∷ statement 7 (Assign (of_ipv4 7 8) (operation (Read (of_ipv4 7 8)) (Plain op.Sub) (number 8 1))) ∷ []))
          ∷ [];
      ingress_tables = 0 ∷ [];
      compute = row (statement 9 (UpdateChecksum (IsValid ipv4) summed (of_ipv4 9 16) Csum16) ∷ []);
      deparser = row (statement 10 (Emit (Read ethernet)) ∷ statement 11 (Emit (Read ipv4)) ∷ []);
    }

-- ---- inputs

abbrev pub packet_at : ℕ → List ℕ → Input
packet_at n bytes = record { port = n; packet = bytes; entries = [] }

-- a packet whose type says IPv4, and an IPv4 header
abbrev pub ethernet_bytes : List ℕ
ethernet_bytes = 0 ∷ 0 ∷ 0 ∷ 0 ∷ 0 ∷ 1 ∷ 0 ∷ 0 ∷ 0 ∷ 0 ∷ 0 ∷ 2 ∷ 8 ∷ 0 ∷ []

abbrev pub ipv4_bytes : List ℕ
ipv4_bytes = 0x45 ∷ 0 ∷ 0 ∷ 0x73 ∷ 0 ∷ 0 ∷ 0x40 ∷ 0 ∷ 0x40 ∷ 0x11 ∷ 0xb8 ∷ 0x61 ∷ 0xc0 ∷ 0xa8 ∷ 0 ∷ 1 ∷ 0xc0 ∷ 0xa8 ∷ 0 ∷ 0xc7 ∷ []

-- what the switch makes of them: the address of the next station, its own, one hop less, and the sum anew
abbrev pub forwarded_bytes : List ℕ
forwarded_bytes = 0 ∷ 0 ∷ 0 ∷ 0 ∷ 0 ∷ 0xbb ∷ 0 ∷ 0 ∷ 0 ∷ 0 ∷ 0 ∷ 1 ∷ 8 ∷ 0 ∷ 0x45 ∷ 0 ∷ 0 ∷ 0x73 ∷ 0 ∷ 0 ∷ 0x40 ∷ 0 ∷ 0x3f ∷ 0x11 ∷ 0xb9 ∷ 0x61
    ∷ 0xc0 ∷ 0xa8 ∷ 0 ∷ 1 ∷ 0xc0 ∷ 0xa8 ∷ 0 ∷ 0xc7 ∷ []

-- everything is dropped, but for a network, and of that a host goes elsewhere
abbrev pub routes : List Entry
routes =
    record { table = 0; priority = 0; keys = Prefix (address 0) 0 ∷ []; action = 1; arguments = [] }
    ∷ record { table = 0; priority = 0; keys = Prefix (address 0xc0a80000) 16 ∷ []; action = 0; arguments = station 0xaa ∷ nine 2 ∷ [] }
    ∷ record { table = 0; priority = 0; keys = Prefix (address 0xc0a800c7) 32 ∷ []; action = 0; arguments = station 0xbb ∷ nine 3 ∷ [] }
    ∷ []

abbrev pub with_routes : Input
with_routes = record { port = 1; packet = ethernet_bytes ++ ipv4_bytes; entries = routes }
