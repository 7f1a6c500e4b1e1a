-- Fills, which give the unspecified reads of a replay their values: words of 32 bits, drawn one after another.
use Rattle.std.specs.Prelude.{ℕ, zero, suc, ◌≡◌, ◌+◌, ◌-◌, ◌*◌, ◌/◌, ◌%◌, ◌^◌, List, [], ◌∷◌, ⊤}
use Rattle.p4_program.specs.declared.typed.types.Scalar.{Scalar}
use Rattle.p4_program.specs.Unspecified.{clipped}
use Rattle.p4_program.specs.WellFormed.Types.{width_of}
use Rattle.p4_meaning.specs.Runs.Courses.{Read}

-- how many words a read takes: those of its bits, the last one whole; the number of a member has 8 bits
abbrev pub words_for : Scalar → ℕ
words_for scalar = (width_of scalar + 31) / 32

-- the number that this many words make from a place on, the first in the lowest bits
abbrev pub drawn : (words : ℕ → ℕ) → (first count : ℕ) → ℕ
drawn words first zero = 0
drawn words first (suc count) = words first % 2 ^ 32 + 2 ^ 32 * drawn words (suc first) count

abbrev pub filled_value : (words : ℕ → ℕ) → ℕ → Scalar → ℕ
filled_value words first scalar = clipped scalar (drawn words first (words_for scalar))

-- the reads have the values of the words from a place on
abbrev pub IsFilled : (words : ℕ → ℕ) → ℕ → List Read → Type 0
IsFilled words first [] = ⊤
IsFilled words first (read ∷ reads) =
    (read.value ≡ filled_value words first read.scalar) × IsFilled words (first + words_for read.scalar) reads

-- the fills that are named: all bits 0, and all bits 1
abbrev pub zeros : ℕ → ℕ
zeros place = 0

abbrev pub ones : ℕ → ℕ
ones place = 2 ^ 32 - 1
