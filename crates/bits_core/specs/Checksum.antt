-- The two checksums of 16-bit words that the switch computes (v1model.p4, `HashAlgorithm`: `csum16` and `xor16`).
use Rattle.std.specs.Prelude.{ℕ, zero, suc, ◌+◌, ◌-◌, ◌%◌, List, bit_xor}
use Rattle.std.specs.List.{sum, fold}

-- the largest word
abbrev pub largest_word : ℕ
largest_word = 65535

-- RFC 1071: the sum in ones' complement is the sum as a whole number up to multiples of the largest word, and is 0 for 0
-- alone
abbrev pub ones_complement : ℕ → ℕ
ones_complement zero = 0
ones_complement (suc n) = 1 + n % largest_word

-- the ones' complement of the words' sum in ones' complement
abbrev pub csum16_value : List ℕ → ℕ
csum16_value words = largest_word - ones_complement (sum words)

-- the exclusive or of the words
abbrev pub xor16_value : List ℕ → ℕ
xor16_value words = fold bit_xor 0 words
