-- What the words and replaced names of a source weigh, so that a source whose macros grow without end is refused in bounded
-- memory, also where they stand in annotations that are dropped.
use Rattle.std.specs.Prelude.{ℕ, ◌+◌, ◌-◌, nat_le, List, [], ◌∷◌, length, if◌then◌else◌}
use Rattle.p4_lexer.specs.SourceWords.{Placed}
use Rattle.p4_lexer.specs.Replacement.{Item, Word, Replaced}

abbrev pub word_of : Item → Placed
word_of (Word w) = w
word_of (Replaced w) = w

-- its bytes, and sixteen more
abbrev pub weight : Item → ℕ
weight i = 16 + length (word_of i).cut.bytes

abbrev pub total_weight : List Item → ℕ
total_weight [] = 0
total_weight (i ∷ items) = weight i + total_weight items

-- the first items, as long as they weigh no more than this together
abbrev pub within : ℕ → List Item → List Item
within most [] = []
within most (i ∷ items) = if nat_le (weight i) most then i ∷ within (most - weight i) items else []
