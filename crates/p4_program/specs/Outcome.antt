-- How runs end.
use Rattle.std.specs.Prelude.{length}
use Rattle.p4_program.specs.declared.outcome.Outcome.{Outcome}
use Rattle.p4_program.specs.declared.outcome.Outcome.TheVariants as outcome
use Rattle.p4_program.specs.declared.outcome.Shape.{Shape}
use Rattle.p4_program.specs.declared.outcome.Shape.TheVariants as shape

-- the kind of an outcome, and for a packet its port and length
abbrev pub shape_of : Outcome → Shape
shape_of (outcome.Sent port bytes) = shape.Sent port (length bytes)
shape_of outcome.Dropped = shape.Dropped
shape_of outcome.Overrun = shape.Overrun
