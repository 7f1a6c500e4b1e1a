-- Which of several refusals of a source decides: in a pass the first place in the source, and at one place the lowest number.
-- The first pass that refuses decides over the later ones.
use Rattle.std.specs.Prelude.{◌≡◌, ℕ, ◌<◌, ◌≤◌, ◌⊎◌}
use Rattle.tg_base.specs.declared.place.Refusal.{Refusal}
use Rattle.tg_base.specs.Code.{number_of}

-- the place of one stands before that of the other
abbrev pub StandsBefore : Refusal → Refusal → Type 0
StandsBefore r s = (r.line < s.line) ⊎ ((r.line ≡ s.line) × (r.column < s.column))

-- r stands first in the source, or at the place of s under a number that is not above that of s
abbrev pub DecidesOver : Refusal → Refusal → Type 0
DecidesOver r s = StandsBefore r s ⊎ ((r.line ≡ s.line) × (r.column ≡ s.column) × (number_of r.code ≤ number_of s.code))

-- of the faults that a pass finds, r is the one that decides
pub record IsDeciding (faults : Refusal → Type 0) (r : Refusal) : Type 0 where
  pub found : faults r
  pub first : (s : Refusal) → faults s → DecidesOver r s

-- of the faults of several passes in a row, r decides: no earlier pass finds any, and it decides in its own
abbrev pub IsDecidingOf : (ℕ → Refusal → Type 0) → ℕ → Refusal → Type 0
IsDecidingOf faults pass r = ((earlier : ℕ) (s : Refusal) → earlier < pass → ¬ faults earlier s) × IsDeciding (faults pass) r
