use Rattle.std.proofs.Common.{◌≡◌, ◌<◌, ◌≤◌, ◌^◌, ◌++◌, string_bytes}
use Rattle.proof_stream.specs.Words.{hex_digits}
use Rattle.proof_stream.proofs.writing.push_digits.Given as goal

abbrev pub invariant-loop-places : goal.invariant-loop-places
invariant-loop-places l =
    (string_bytes l.text ++ hex_digits l.places l.rest ≡ string_bytes l.initial.text ++ hex_digits l.fn.h.digits l.fn.h.value)
    × (l.rest < 16 ^ l.places) × (l.places ≤ 32)

abbrev pub decreases-loop-places : goal.decreases-loop-places
decreases-loop-places l = l.places
