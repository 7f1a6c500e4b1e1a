-- Which entry a table picks, and what a `select` matches (P4-16, "Match kinds", "Entries", "Select expressions"; v1model.p4).
use Rattle.std.specs.Prelude.{ℕ, ◌≡◌, ◌+◌, ◌-◌, ◌/◌, ◌^◌, ◌==◌, nat_lt, ◌&&◌, not, bit_and, Bool, true, false, List, [], ◌∷◌, Contains, find, Option, Some, None}
use Rattle.std.specs.List.{list_all}
use Rattle.bits_core.specs.declared.number.Bits.{Bits}
use Rattle.p4_program.specs.declared.typed.tables.Pattern.{Pattern}
use Rattle.p4_program.specs.declared.typed.tables.Pattern.TheVariants.{Exact, Prefix, Masked}

-- a value is matched: as it is, by its first bits, or by the bits of a mask
abbrev pub matches : Pattern → ℕ → Bool
matches (Exact b) value = value == b.value
matches (Prefix b count) value = value / 2 ^ (b.width - count) == b.value / 2 ^ (b.width - count)
matches (Masked b mask) value = bit_and value mask.value == bit_and b.value mask.value

-- all keys of an entry or of a case match, place by place
abbrev pub all_match : List Pattern → List ℕ → Bool
all_match [] [] = true
all_match (pattern ∷ patterns) (value ∷ values) = matches pattern value && all_match patterns values
all_match _ _ = false

-- An entry of a table: its keys, the place of its action in the table's list, and the action's arguments. The rank is the
-- priority, or of a constant entry its place.
pub record Candidate : Type 0 where
  pub keys : List Pattern
  pub action : ℕ
  pub arguments : List Bits
  pub rank : ℕ

abbrev pub prefix_in : Pattern → ℕ
prefix_in (Prefix b count) = count
prefix_in _ = 0

-- how long the prefix among the keys is; there is one at most
abbrev pub prefix_length : List Pattern → ℕ
prefix_length [] = 0
prefix_length (pattern ∷ patterns) = prefix_in pattern + prefix_length patterns

-- In an ordered table the lesser rank beats, and in any other the longer prefix.
abbrev pub beats : (ordered : Bool) → Candidate → Candidate → Bool
beats true d e = nat_lt d.rank e.rank
beats false d e = nat_lt (prefix_length e.keys) (prefix_length d.keys)

-- the entry matches, and no other entry that matches beats it
pub record Wins (ordered : Bool) (entries : List Candidate) (key : List ℕ) (w : Candidate) : Type 0 where
  pub stands : Contains entries w
  pub match : all_match w.keys key ≡ true
  pub unbeaten : (d : Candidate) → Contains entries d → all_match d.keys key ≡ true → beats ordered d w ≡ false

-- the entry that wins, or none where none matches
abbrev pub Winner : (ordered : Bool) → List Candidate → List ℕ → Option Candidate → Type 0
Winner ordered entries key (Some w) = Wins ordered entries key w
Winner ordered entries key None = (d : Candidate) → Contains entries d → all_match d.keys key ≡ false

-- whether it is such an entry, tried with each other one
abbrev pub wins : (ordered : Bool) → List Candidate → List ℕ → Candidate → Bool
wins ordered entries key w =
    all_match w.keys key && list_all (λ d. not (all_match d.keys key && beats ordered d w)) entries

-- the winner, found by trying each
abbrev pub winner : (ordered : Bool) → List Candidate → List ℕ → Option Candidate
winner ordered entries key = find (wins ordered entries key) entries
