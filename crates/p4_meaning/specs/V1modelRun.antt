-- The order of a run on the switch (v1model.p4; BMv2, docs/simple_switch.md, what happens to a packet after ingress and after
-- egress): parser, checksum check, ingress, drop decision, egress, checksum update, deparser, payload.
use Rattle.std.specs.Prelude.{◌≡◌, ◌≢◌, ◌⊎◌, ℕ, List, [], ◌++◌, drop}
use Rattle.p4_program.specs.Blocks.{statements_of}
use Rattle.p4_program.specs.declared.v1model.Block.{Block}
use Rattle.p4_program.specs.declared.v1model.Block.TheVariants.{Verify, Ingress, Egress, Compute, Deparser}
use Rattle.p4_program.specs.declared.v1model.TheConstants.{DROP_PORT}
use Rattle.p4_program.specs.declared.outcome.Outcome.{Outcome}
use Rattle.p4_program.specs.declared.outcome.Outcome.TheVariants.{Sent, Dropped, Overrun}
use Rattle.p4_meaning.specs.Execution.{End}
use Rattle.p4_meaning.specs.Parser.{Parses, Ended, Overran}
use Rattle.p4_meaning.specs.Reads.{Read}
use Rattle.p4_meaning.specs.Statements.{ExecAll}
use Rattle.p4_meaning.specs.Store.{Environment, Store, starting_store, with_metadata}

-- how a run goes on from a store: what it reads, what it begins, and its outcome
abbrev pub Onward : Type 1
Onward = Store → List Read → List ℕ → Outcome → Type 0

-- a block runs, however it ends, and then the run goes on
pub record BlockThen (env : Environment) (block : Block) (Rest : Onward) (old : Store)
    (reads : List Read) (marks : List ℕ) (outcome : Outcome) : Type 0 where
  pub after : Store
  pub end : End
  pub block_reads : List Read
  pub block_marks : List ℕ
  pub runs : ExecAll env (statements_of env.program block) old after block_reads block_marks end
  pub rest_reads : List Read
  pub rest_marks : List ℕ
  pub rest : Rest after rest_reads rest_marks outcome
  pub all_reads : reads ≡ block_reads ++ rest_reads
  pub all_marks : marks ≡ block_marks ++ rest_marks

-- the packet is dropped, and nothing more is read or begun
pub record Drops (reads : List Read) (marks : List ℕ) (outcome : Outcome) : Type 0 where
  pub no_read : reads ≡ []
  pub no_mark : marks ≡ []
  pub dropped : outcome ≡ Dropped

-- the packet is dropped in such stores, and in others the run goes on
abbrev pub DropsOr : (Store → Type 0) → Onward → Onward
DropsOr IsDropped Rest store reads marks outcome =
    (IsDropped store × Drops reads marks outcome) ⊎ ((IsDropped store → ⊥) × Rest store reads marks outcome)

-- the packet leaves at the port: what was emitted, and then what the parser has not taken
pub record Leaves (env : Environment) (port : ℕ) (store : Store)
    (reads : List Read) (marks : List ℕ) (outcome : Outcome) : Type 0 where
  pub no_read : reads ≡ []
  pub no_mark : marks ≡ []
  pub sent : outcome ≡ Sent port (store.emitted ++ drop store.cursor env.input.packet)

-- a packet for the drop port is dropped
abbrev pub IsForDropPort : Store → Type 0
IsForDropPort store = store.metadata.egress_spec ≡ DROP_PORT

-- after ingress a packet for a multicast group is dropped too, since there are no groups
abbrev pub IsDroppedAfterIngress : Store → Type 0
IsDroppedAfterIngress store = (store.metadata.mcast_grp ≢ 0) ⊎ IsForDropPort store

-- as egress begins, `egress_port` is the port, and `egress_spec` is 0
abbrev pub entering_egress : Store → Store
entering_egress store =
    with_metadata (record store.metadata { egress_port = store.metadata.egress_spec; egress_spec = 0 }) store

-- after egress: the drop port again, the checksum update and the deparser
abbrev pub AfterEgress : Environment → ℕ → Onward
AfterEgress env port = DropsOr IsForDropPort (BlockThen env Compute (BlockThen env Deparser (Leaves env port)))

-- egress, for the port that ingress chose
abbrev pub FromEgress : Environment → Onward
FromEgress env store = BlockThen env Egress (AfterEgress env store.metadata.egress_spec) (entering_egress store)

-- the drop decision
abbrev pub DropDecision : Environment → Onward
DropDecision env = DropsOr IsDroppedAfterIngress (FromEgress env)

-- after the parser: the checksum check, ingress and the drop decision
abbrev pub AfterParser : Environment → Onward
AfterParser env = BlockThen env Verify (BlockThen env Ingress (DropDecision env))

-- the parser ends, whatever its error was, and the packet goes on
pub record Parsed (env : Environment) (reads : List Read) (marks : List ℕ) (outcome : Outcome) : Type 0 where
  pub after : Store
  pub error : ℕ
  pub parser_reads : List Read
  pub parser_marks : List ℕ
  pub parses : Parses env (starting_store env) after parser_reads parser_marks (Ended error)
  pub rest_reads : List Read
  pub rest_marks : List ℕ
  pub rest : AfterParser env (with_metadata (record after.metadata { parser_error = error }) after) rest_reads rest_marks outcome
  pub all_reads : reads ≡ parser_reads ++ rest_reads
  pub all_marks : marks ≡ parser_marks ++ rest_marks

-- the parser would enter too many states; such a run counts as having begun nothing
pub record RunOverran (env : Environment) (reads : List Read) (marks : List ℕ) (outcome : Outcome) : Type 0 where
  pub after : Store
  pub parser_marks : List ℕ
  pub parses : Parses env (starting_store env) after reads parser_marks Overran
  pub no_mark : marks ≡ []
  pub overrun : outcome ≡ Overrun

-- a run of the switch
abbrev pub SwitchRuns : Environment → List Read → List ℕ → Outcome → Type 0
SwitchRuns env reads marks outcome = Parsed env reads marks outcome ⊎ RunOverran env reads marks outcome
