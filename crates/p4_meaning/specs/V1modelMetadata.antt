-- The standard metadata of the switch (v1model.p4, `standard_metadata_t`), so far the fields that it writes itself or that
-- a program can reach.
use Rattle.std.specs.Prelude.{ℕ}
use Rattle.p4_program.specs.declared.v1model.TheConstants.{DROP_PORT}

pub record Metadata : Type 0 where
  pub egress_spec : ℕ
  pub egress_port : ℕ
  pub mcast_grp : ℕ
  pub parser_error : ℕ

-- the number of the error `NoError`, the first of core.p4
abbrev pub no_error : ℕ
no_error = 0

-- at the start of a run all of these are 0, and there was no error
abbrev pub starting_metadata : Metadata
starting_metadata = record { egress_spec = 0; egress_port = 0; mcast_grp = 0; parser_error = no_error }

-- after a call of `mark_to_drop` (v1model.p4)
abbrev pub marked_to_drop : Metadata → Metadata
marked_to_drop m = record m { egress_spec = DROP_PORT; mcast_grp = 0 }
