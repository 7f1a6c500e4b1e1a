-- The bits so far, and then those of what is left.
use Rattle.std.proofs.Common.{◌≡◌, ◌++◌, ◌-◌, map}
use Rattle.bits_core.specs.BitList.{bits_of}
use Rattle.bit_blaster.specs.declared.wire.Wire.TheVariants.{Known}
use Rattle.bit_blaster.proofs.term_words.constant_word.Given as goal

abbrev pub invariant-loop : goal.invariant-loop
invariant-loop l =
    l.word.items ++ map Known (bits_of (l.fn.bits.width - l.counter) l.rest) ≡ map Known (bits_of l.fn.bits.width l.fn.bits.value)
