-- What core.p4 and v1model.p4 declare before each source.
use Rattle.std.specs.Prelude.{ℕ, List, [], ◌∷◌, ◌++◌, map, true, codes, Ok}
use Rattle.p4_rules.specs.Chains.{no_depths}
use Rattle.p4_rules.specs.declared.faults.Pass.TheVariants.{Checking}
use Rattle.p4_rules.specs.declared.types.SourceType.{SourceType}
use Rattle.p4_rules.specs.declared.types.FieldOf.{FieldOf}
use Rattle.p4_rules.specs.declared.types.Object.TheVariants.{PacketIn, PacketOut, Counter, DirectCounter, Meter, Register, Package}
use Rattle.p4_rules.specs.declared.types.SourceType.TheVariants.{Bit, Error, Enumeration, Structure, Opaque}
use Rattle.p4_rules.specs.declared.scopes.Allowed.{Allowed}
use Rattle.p4_rules.specs.declared.scopes.Function.{Function}
use Rattle.p4_rules.specs.declared.scopes.Function.TheVariants.{Verify, MarkToDrop, VerifyChecksum, UpdateChecksum, LogMsg, Random, LeftOut}
use Rattle.p4_rules.specs.declared.scopes.Here.TheVariants.{AtTop}
use Rattle.p4_rules.specs.Scopes.{Scope, Meaning, TypeOf, ConstantOf, ActionOf, FunctionOf, Names}

abbrev pub bits_field : List ℕ → ℕ → FieldOf
bits_field name w = record { name = name; type_of = Bit w }

-- v1model.p4: the metadata of the switch
abbrev pub standard_metadata : List FieldOf
standard_metadata =
    bits_field (codes "ingress_port") 9
    ∷ bits_field (codes "egress_spec") 9
    ∷ bits_field (codes "egress_port") 9
    ∷ bits_field (codes "instance_type") 32
    ∷ bits_field (codes "packet_length") 32
    ∷ bits_field (codes "enq_timestamp") 32
    ∷ bits_field (codes "enq_qdepth") 19
    ∷ bits_field (codes "deq_timedelta") 32
    ∷ bits_field (codes "deq_qdepth") 19
    ∷ bits_field (codes "ingress_global_timestamp") 48
    ∷ bits_field (codes "egress_global_timestamp") 48
    ∷ bits_field (codes "mcast_grp") 16
    ∷ bits_field (codes "egress_rid") 16
    ∷ bits_field (codes "checksum_error") 1
    ∷ record { name = codes "parser_error"; type_of = Error }
    ∷ bits_field (codes "priority") 3
    ∷ []

-- v1model.p4: the algorithms of checksums that are kept, and the kinds of counters and of meters
abbrev pub algorithms : List (List ℕ × Meaning)
algorithms = (codes "csum16", ConstantOf (Enumeration 0) 0) ∷ (codes "xor16", ConstantOf (Enumeration 0) 1) ∷ []

abbrev pub counter_types : List (List ℕ × Meaning)
counter_types =
    (codes "packets", ConstantOf (Enumeration 1) 0)
    ∷ (codes "bytes", ConstantOf (Enumeration 1) 1)
    ∷ (codes "packets_and_bytes", ConstantOf (Enumeration 1) 2)
    ∷ []

abbrev pub meter_types : List (List ℕ × Meaning)
meter_types = (codes "packets", ConstantOf (Enumeration 2) 0) ∷ (codes "bytes", ConstantOf (Enumeration 2) 1) ∷ []

-- core.p4: the errors that each source has
abbrev pub core_errors : List (List ℕ)
core_errors = codes "NoError" ∷ codes "PacketTooShort" ∷ codes "NoMatch" ∷ codes "StackOutOfBounds" ∷ codes "HeaderTooShort"
    ∷ codes "ParserTimeout" ∷ codes "ParserInvalidArgument" ∷ []

abbrev pub named_types : List (List ℕ × SourceType)
named_types =
    (codes "packet_in", Opaque PacketIn)
    ∷ (codes "packet_out", Opaque PacketOut)
    ∷ (codes "standard_metadata_t", Structure 0)
    ∷ (codes "V1Switch", Opaque Package)
    ∷ (codes "counter", Opaque Counter)
    ∷ (codes "direct_counter", Opaque DirectCounter)
    ∷ (codes "meter", Opaque Meter)
    ∷ (codes "register", Opaque Register)
    ∷ (codes "HashAlgorithm", Enumeration 0)
    ∷ (codes "CounterType", Enumeration 1)
    ∷ (codes "MeterType", Enumeration 2)
    ∷ []

abbrev pub functions : List (List ℕ × Function)
functions =
    (codes "verify", Verify)
    ∷ (codes "mark_to_drop", MarkToDrop)
    ∷ (codes "verify_checksum", VerifyChecksum)
    ∷ (codes "update_checksum", UpdateChecksum)
    ∷ (codes "log_msg", LogMsg)
    ∷ (codes "random", Random)
    ∷ []

-- the functions that this profile leaves out
abbrev pub left_out : List (List ℕ)
left_out =
    codes "clone" ∷ codes "clone3" ∷ codes "clone_preserving_field_list" ∷ codes "resubmit"
    ∷ codes "resubmit_preserving_field_list" ∷ codes "recirculate" ∷ codes "recirculate_preserving_field_list"
    ∷ codes "digest" ∷ codes "truncate" ∷ codes "hash" ∷ codes "assert" ∷ codes "assume"
    ∷ codes "verify_checksum_with_payload" ∷ codes "update_checksum_with_payload" ∷ []

-- the names at the top before a source: types, functions, and the action `NoAction`, which has the number 0
abbrev pub core_names : Names
core_names = (codes "NoAction", Ok (ActionOf 0))
    ∷ (map (λ t. (t.0, Ok (TypeOf t.1))) named_types
    ++ (map (λ f. (f.0, Ok (FunctionOf f.1))) functions
    ++ map (λ name. (name, Ok (FunctionOf LeftOut))) left_out))

-- every call may stand where nothing forbids it
abbrev pub all_allowed : Allowed
all_allowed = record { verify_checksum = true; update_checksum = true; emit = true }

-- the scope before a source that has so many errors
abbrev pub core_scope : ℕ → Scope
core_scope error_count = record {
  structs = standard_metadata ∷ [];
  headers = [];
  enumerations = algorithms ∷ counter_types ∷ meter_types ∷ [];
  errors = core_errors;
  error_count = error_count;
  top = core_names;
  inner = [];
  shapes = (0, []) ∷ [];
  table_actions = [];
  depths = no_depths;
  pass = Checking;
  here = AtTop;
  allowed = all_allowed;
  statement = 1;
  variable = 0;
  callable = 1;
  table = 0;
  child = 0;
}
