-- The list has grown up to the place.
use Rattle.std.proofs.Common.{◌≡◌, length}
use Rattle.query_engine.specs.Blank.{Pads}
use Rattle.query_engine.proofs.point.add_read.Given as goal

abbrev pub invariant-loop-place : goal.invariant-loop-place
invariant-loop-place l = (length l.reads ≡ l._place) × Pads (λ x. x.width ≡ 1) l.fn.reads l.reads
