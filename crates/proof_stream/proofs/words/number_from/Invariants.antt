use Rattle.std.proofs.Common.{◌≡◌, drop}
use Rattle.proof_stream.specs.Reading.{number_from}
use Rattle.proof_stream.proofs.words.number_from.Given as goal

abbrev pub invariant-loop-c : goal.invariant-loop-c
invariant-loop-c l = number_from l.value (drop l.c-index l.digits) ≡ number_from 0 l.digits
