-- The standard metadata of the switch (v1model.p4, `standard_metadata_t`): a struct of 16 fields, and those of them that the
-- switch itself reads or writes.
use Rattle.std.specs.Prelude.{ℕ, [], ◌∷◌, length, None}
use Rattle.p4_program.specs.declared.typed.paths.Step.TheVariants.{Field}
use Rattle.p4_program.specs.declared.typed.types.Scalar.TheVariants.{Sized, Members}
use Rattle.p4_program.specs.declared.typed.input.Input.{Input}
use Rattle.p4_program.specs.declared.v1model.TheConstants.{DROP_PORT}
use Rattle.p4_meaning.specs.Runs.Acts.{no_error, value_of}
use Rattle.p4_meaning.specs.Runs.Courses.{Course, Ends, ◌>>=◌}
use Rattle.p4_meaning.specs.Runs.Contents.{Content, Cell, StructOf, contents_of, bits, number_in}
use Rattle.p4_meaning.specs.Runs.Paths.{part, with_part, copied_over}
use Rattle.std.specs.Prelude.{Some}

-- the numbers of fields
abbrev pub egress_spec : ℕ
egress_spec = 1

abbrev pub egress_port : ℕ
egress_port = 2

abbrev pub mcast_grp : ℕ
mcast_grp = 11

abbrev pub checksum_error : ℕ
checksum_error = 13

abbrev pub parser_error : ℕ
parser_error = 14

abbrev pub unspecified_bits : ℕ → Content
unspecified_bits width = Cell (Sized width) None

-- The member of this number, of so many errors.
abbrev pub error_of : ℕ → ℕ → Content
error_of errors error = Cell (Members errors) (Some error)

-- As a run starts: the port and the length in bytes are those of the input; the three timestamps, the two depths of queues
-- and the time in the queue are unspecified; all other fields are 0, and there was no error.
abbrev pub starting_metadata : (errors : ℕ) → Input → Content
starting_metadata errors x = StructOf (contents_of (
    bits 9 x.port  -- ingress_port
    ∷ bits 9 0  -- egress_spec
    ∷ bits 9 0  -- egress_port
    ∷ bits 32 0  -- instance_type
    ∷ bits 32 (length x.packet)  -- packet_length
    ∷ unspecified_bits 32  -- enq_timestamp
    ∷ unspecified_bits 19  -- enq_qdepth
    ∷ unspecified_bits 32  -- deq_timedelta
    ∷ unspecified_bits 19  -- deq_qdepth
    ∷ unspecified_bits 48  -- ingress_global_timestamp
    ∷ unspecified_bits 48  -- egress_global_timestamp
    ∷ bits 16 0  -- mcast_grp
    ∷ bits 16 0  -- egress_rid
    ∷ bits 1 0  -- checksum_error
    ∷ error_of errors no_error  -- parser_error
    ∷ bits 3 0  -- priority
    ∷ []))

-- the metadata with this field so
abbrev pub with_field : ℕ → Content → Content → Content
with_field n value metadata = with_part (Field n) (copied_over value) metadata

abbrev pub field_of : ℕ → Content → Course ℕ
field_of n metadata = value_of (part (Field n) metadata) >>= λ value. Ends (number_in value)

-- v1model.p4, `mark_to_drop`: the drop port, and no multicast group; the other fields stay as they are and are not read
abbrev pub marked_to_drop : Content → Content
marked_to_drop metadata = with_field mcast_grp (bits 16 0) (with_field egress_spec (bits 9 DROP_PORT) metadata)
