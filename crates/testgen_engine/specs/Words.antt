-- The words of the command line, and the jobs that they ask for.
use Rattle.std.specs.Prelude.{◌≡◌, ◌≢◌, ℕ, false, List, [], ◌∷◌, codes, nat_eq}
use Rattle.std.specs.List.{starts_with}
use Rattle.p4_program.specs.Bounds.{IsDefault}
use Rattle.p4_program.specs.declared.bounds.Bounds.{Bounds}

-- a word that names a file: it is not empty and does not begin as an option does
pub record IsName (word : List ℕ) : Type 0 where
  pub some : word ≢ []
  pub no_option : starts_with nat_eq word (codes "--") ≡ false

-- The words are `gen NAME`: they ask for tests of the source of this name under these bounds, the default ones.
pub record AsksGen (words : List (List ℕ)) (name : List ℕ) (b : Bounds) : Type 0 where
  pub said : words ≡ codes "gen" ∷ name ∷ []
  pub named : IsName name
  pub bounds : IsDefault b

-- the words ask for no job
abbrev pub AsksNothing : List (List ℕ) → Type 0
AsksNothing words = (name : List ℕ) (b : Bounds) → AsksGen words name b → ⊥
