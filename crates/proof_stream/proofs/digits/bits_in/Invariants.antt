use Rattle.std.proofs.Common.{◌≡◌, [], drop}
use Rattle.proof_stream.specs.Reading.{bits_onto}
use Rattle.proof_stream.proofs.digits.bits_in.Given as goal

abbrev pub invariant-loop-c : goal.invariant-loop-c
invariant-loop-c l = bits_onto l.bits (drop l.c-index l.word) ≡ bits_onto [] l.word
