-- The order of a run on the switch (v1model.p4, `V1Switch`; BMv2, docs/simple_switch.md): parser, checksum check, ingress, drop
-- decision, egress, checksum update, deparser, payload.
use Rattle.std.specs.Prelude.{ℕ, ◌/◌, ◌==◌, not, ◌||◌, Bool, true, false, List, [], ◌∷◌, ◌++◌, take, drop, length, slice_get, Option, Some, None}
use Rattle.std.specs.Option.{option_map_or}
use Rattle.p4_program.specs.declared.typed.callables.Parameter.{Parameter}
use Rattle.p4_program.specs.declared.typed.types.ValueType.{ValueType}
use Rattle.p4_program.specs.declared.v1model.TheConstants.{DROP_PORT}
use Rattle.p4_program.specs.Syntax.Callables.{CoreParser}
use Rattle.p4_program.specs.Syntax.Statements.{NoStatements}
use Rattle.p4_program.specs.WellFormed.Programs.{parser_at}
use Rattle.p4_program.specs.declared.outcome.Outcome.{Outcome}
use Rattle.p4_program.specs.declared.outcome.Outcome.TheVariants.{Sent, Dropped, Overrun}
use Rattle.p4_meaning.specs.Runs.Acts.{Environment, Store}
use Rattle.p4_meaning.specs.Runs.Bodies.{reach_of, controls_of}
use Rattle.p4_meaning.specs.Runs.Calls.{callee_of}
use Rattle.p4_meaning.specs.Runs.Contents.{Content, bits, nothing, uninitialised, all_uninitialised}
use Rattle.p4_meaning.specs.Runs.Courses.{Course, Ends, ◌>>=◌}
use Rattle.p4_meaning.specs.Runs.Expressions.{Callee}
use Rattle.p4_meaning.specs.Runs.Metadata.{egress_spec, egress_port, mcast_grp, checksum_error, parser_error, starting_metadata, with_field, field_of, error_of}
use Rattle.p4_meaning.specs.Runs.Parser.{ParserEnd, Ended, Overran, parses, parser_end}

-- What the blocks share, without copies between them: the headers, the user's metadata and the standard metadata, the parser's
-- cursor and what was emitted.
pub record Shared : Type 0 where
  pub headers : Content
  pub metadata : Content
  pub standard : Content
  pub cursor : ℕ
  pub emitted : List ℕ

-- the outcome, and the user's metadata afterwards
pub record Finished : Type 0 where
  pub outcome : Outcome
  pub metadata : Content

-- ---- blocks

-- the first parameters of a block: of headers, metadata and standard metadata as many as it has
abbrev pub handed : ℕ → Shared → List Content
handed count shared = take count (shared.headers ∷ shared.metadata ∷ shared.standard ∷ [])

abbrev pub handed_back : List Content → Shared → Shared
handed_back (h ∷ m ∷ s ∷ []) shared = record shared { headers = h; metadata = m; standard = s }
handed_back (h ∷ m ∷ []) shared = record shared { headers = h; metadata = m }
handed_back (h ∷ []) shared = record shared { headers = h }
handed_back _ shared = shared

-- v1model.p4, `verify_checksum`: a sum that was found wrong sets `checksum_error`
abbrev pub with_wrong_sum : Bool → Shared → Shared
with_wrong_sum true shared = record shared { standard = with_field checksum_error (bits 1 1) shared.standard }
with_wrong_sum false shared = shared

abbrev pub store_for : Environment → List Parameter → List ValueType → Shared → Store
store_for env parameters variables shared = record {
  block = handed (length parameters) shared ++ all_uninitialised env.program variables;
  action = [];
  cursor = shared.cursor;
  emitted = shared.emitted;
  wrong_sum = false;
}

-- what is shared after a block with so many parameters has left this store
abbrev pub shared_after : ℕ → Store → Shared → Shared
shared_after count store shared = with_wrong_sum store.wrong_sum
    (handed_back (take count store.block) (record shared { cursor = store.cursor; emitted = store.emitted }))

-- A control block runs, and the run goes on whether its body came to its end, returned or exited.
abbrev pub runs_block : Environment → Callee → Shared → Course Shared
runs_block env block shared =
    block.body (store_for env block.parameters block.variables shared)
    >>= λ after. Ends (shared_after (length block.parameters) after.store shared)

abbrev pub block_of : Environment → ℕ → Callee
block_of env instance = callee_of (controls_of env) instance

-- ---- from the end of a run to its beginning

abbrev pub finishes : Outcome → Shared → Course Finished
finishes outcome shared = Ends (record { outcome = outcome; metadata = shared.metadata })

-- the packet leaves at the port: what was emitted, and then what the parser has not taken
abbrev pub leaves : Environment → ℕ → Shared → Course Finished
leaves env port shared = finishes (Sent port (shared.emitted ++ drop (shared.cursor / 8) env.input.packet)) shared

-- where it is dropped, nothing more runs
abbrev pub drops_or : Bool → (Shared → Course Finished) → Shared → Course Finished
drops_or true goes_on shared = finishes Dropped shared
drops_or false goes_on shared = goes_on shared

-- the checksum update, the deparser and the payload
abbrev pub to_deparser : Environment → ℕ → Shared → Course Finished
to_deparser env port shared =
    runs_block env (block_of env env.program.blocks.compute) shared >>= λ computed.
    runs_block env (block_of env env.program.blocks.deparser) computed >>= λ emitted.
    leaves env port emitted

-- after egress the packet is dropped at the drop port, and else leaves at the port that ingress chose
abbrev pub after_egress : Environment → ℕ → Shared → Course Finished
after_egress env port shared =
    field_of egress_spec shared.standard >>= λ spec. drops_or (spec == DROP_PORT) (to_deparser env port) shared

-- as egress begins, `egress_port` is the port, and `egress_spec` is 0
abbrev pub entering_egress : ℕ → Shared → Shared
entering_egress port shared =
    record shared { standard = with_field egress_spec (bits 9 0) (with_field egress_port (bits 9 port) shared.standard) }

abbrev pub from_egress : Environment → ℕ → Shared → Course Finished
from_egress env port shared =
    runs_block env (block_of env env.program.blocks.egress) (entering_egress port shared) >>= λ after. after_egress env port after

-- The drop decision: there are no multicast groups, so that a packet for one is dropped, and so is one for the drop port.
abbrev pub drop_decision : Environment → Shared → Course Finished
drop_decision env shared =
    field_of mcast_grp shared.standard >>= λ group. field_of egress_spec shared.standard >>= λ port.
    drops_or (not (group == 0) || (port == DROP_PORT)) (from_egress env port) shared

-- the checksum check, ingress and the drop decision
abbrev pub after_parser : Environment → Shared → Course Finished
after_parser env shared =
    runs_block env (block_of env env.program.blocks.verify) shared >>= λ checked.
    runs_block env (block_of env env.program.blocks.ingress) checked >>= λ done.
    drop_decision env done

-- ---- the parser

abbrev pub no_parser : CoreParser
no_parser = record { parameters = []; variables = []; beginning = NoStatements; states = []; start = 0 }

abbrev pub found_parser : Option CoreParser → CoreParser
found_parser (Some q) = q
found_parser None = no_parser

abbrev pub parser_of : Environment → CoreParser
parser_of env = found_parser (parser_at env.program env.program.blocks.parser)

-- the parser's end, whatever its error was, is stored, and the packet goes on
abbrev pub with_end : Environment → Shared → ParserEnd → Course Finished
with_end env shared (Ended error) = after_parser env
    (record shared { standard = with_field parser_error (error_of env.program.errors error) shared.standard })
with_end env shared Overran = finishes Overrun shared

abbrev pub runs_parser : Environment → CoreParser → Shared → Course Finished
runs_parser env q shared =
    parses env.bounds.steps (reach_of env []) q (store_for env q.parameters q.variables shared)
    >>= λ after. with_end env (shared_after (length q.parameters) after.store shared) (parser_end after.result)

-- ---- the whole

-- what is uninitialised, of the type of the parser's parameter of this number
abbrev pub uninitialised_parameter : CoreParser → ℕ → Environment → Content
uninitialised_parameter q n env = option_map_or (λ p. uninitialised env.program p.value_type) (slice_get q.parameters n) nothing

-- As a run starts, all headers are invalid.
abbrev pub starting_shared : Environment → (metadata : Content) → Shared
starting_shared env metadata = record {
  headers = uninitialised_parameter (parser_of env) 0 env;
  metadata = metadata;
  standard = starting_metadata env.program.errors env.input;
  cursor = 0;
  emitted = [];
}

-- the user's metadata as a run starts: unspecified
abbrev pub unspecified_metadata : Environment → Content
unspecified_metadata env = uninitialised_parameter (parser_of env) 1 env

-- a run from this content of the user's metadata
abbrev pub runs_switch : Environment → Content → Course Finished
runs_switch env start = runs_parser env (parser_of env) (starting_shared env start)
