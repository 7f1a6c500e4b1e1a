use Rattle.std.proofs.Common.{◌≡◌, ◌++◌, drop, string_bytes}
use Rattle.proof_stream.specs.Words.{bits_word}
use Rattle.proof_stream.proofs.writing.push_bits.Given as goal

abbrev pub invariant-loop-bit : goal.invariant-loop-bit
invariant-loop-bit l = string_bytes l.text ++ bits_word (drop l.bit-index l.bits) ≡ string_bytes l.initial.text ++ bits_word l.bits
