use Rattle.std.proofs.Common.{◌≡◌, ◌<◌, ◌^◌, drop}
use Rattle.proof_stream.specs.Reading.{hex_from}
use Rattle.proof_stream.proofs.digits.hex_from.Given as goal

abbrev pub invariant-loop-c : goal.invariant-loop-c
invariant-loop-c l = (hex_from l.value (drop l.c-index l.digits) ≡ hex_from 0 l.digits) × (l.value < 16 ^ l.c-index)
