-- The number of the bits so far, which fits as many bits.
use Rattle.std.proofs.Common.{◌≡◌, ◌-◌, ◌<◌, ◌^◌, Bool, List, reverse}
use Rattle.std.specs.Prelude.{slice_range}
use Rattle.bits_core.specs.BitList.{number_of}
use Rattle.term_dag.specs.Substitution.{Overlays}
use Rattle.term_dag.proofs.fixed.Fixed.run_number.Given as goal

abbrev pub invariant-loop-at : goal.invariant-loop-at
invariant-loop-at l =
    (l.number < 2 ^ (l.at - l.from)) × ((under over : List Bool) → Overlays l.self.inputs under over
    → l.number ≡ number_of (reverse (slice_range over l.from l.at)))
