-- The list has grown up to the place.
use Rattle.std.proofs.Common.{◌≡◌, false, length}
use Rattle.query_engine.specs.Blank.{Pads}
use Rattle.query_engine.proofs.point.add_input.Given as goal

abbrev pub invariant-loop-place : goal.invariant-loop-place
invariant-loop-place l = (length l.inputs ≡ l._place) × Pads (λ bit. bit ≡ false) l.fn.inputs l.inputs
