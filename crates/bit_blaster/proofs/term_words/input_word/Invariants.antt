-- The wires so far.
use Rattle.std.proofs.Common.{take}
use Rattle.bit_blaster.specs.TermWord.{AreWiresOf, input_bits}
use Rattle.bit_blaster.proofs.term_words.input_word.Given as goal

abbrev pub invariant-loop-place : goal.invariant-loop-place
invariant-loop-place l = AreWiresOf l.variables l.word.items (take l.place (input_bits l.first l.width))
