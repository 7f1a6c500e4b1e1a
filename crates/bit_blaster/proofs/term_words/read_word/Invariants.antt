-- The wires so far.
use Rattle.std.proofs.Common.{take}
use Rattle.bit_blaster.specs.TermWord.{AreWiresOf, read_bits}
use Rattle.bit_blaster.proofs.term_words.read_word.Given as goal

abbrev pub invariant-loop-place : goal.invariant-loop-place
invariant-loop-place l = AreWiresOf l.variables l.word.items (take l.place (read_bits l.read 0 l.width))
