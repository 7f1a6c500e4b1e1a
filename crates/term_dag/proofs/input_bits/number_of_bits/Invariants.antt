-- The number of the bits so far.
use Rattle.std.proofs.Common.{◌≡◌, reverse, take}
use Rattle.bits_core.specs.BitList.{number_of}
use Rattle.term_dag.proofs.input_bits.number_of_bits.Given as goal

abbrev pub invariant-loop-bit : goal.invariant-loop-bit
invariant-loop-bit l = l.number ≡ number_of (reverse (take l.bit-index l.bits))
