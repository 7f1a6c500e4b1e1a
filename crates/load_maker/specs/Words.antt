-- The words that a source's numbers are drawn from: the 32-bit outputs of a PCG generator (XSH RR 64/32), in order.
use Rattle.std.specs.Prelude.{ℕ}
use Prim.Native.Nat.{zero, suc}
use Rattle.rand_pcg.specs.Lcg.{Lcg, started, increment_of}
use Rattle.rand_pcg.specs.Pcg.{multiplier_64, pcg32}

-- the generator after so many words
unfoldable pub after_words : ℕ → Lcg → Lcg
after_words zero g = g
after_words (suc count) g = (pcg32 (after_words count g)).1

-- the word after so many
abbrev pub word_at : Lcg → ℕ → ℕ
word_at g count = (pcg32 (after_words count g)).0

-- the generator of a number, on stream 0
abbrev pub generator_of : ℕ → Lcg
generator_of number = started 64 multiplier_64 number (increment_of 64 0)
