-- What unspecified reads give (P4-16, "Reading uninitialized values and writing fields of invalid headers"). No program
-- makes such a read so far.
use Rattle.std.specs.Prelude.{ℕ}

-- the values among which a read gives one: all of this many bits, or, for an error or an enum without a width, its
-- members, of which there are this many
pub data ReadKind : Type 0 where
  OfWidth : (width : ℕ) → ReadKind
  OfMembers : (count : ℕ) → ReadKind

-- a read: among which values, and the one that it gave
pub record Read : Type 0 where
  pub kind : ReadKind
  pub value : ℕ
