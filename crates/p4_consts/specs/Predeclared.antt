-- Names that are declared one after the other.
use Rattle.std.specs.Prelude.{ℕ, List, [], ◌∷◌, ◌++◌, is_some, if◌then◌else◌}
use Rattle.std.specs.List.{fold}
use Rattle.std.specs.Map.{lookup}
use Rattle.std.specs.Str.{bytes_eq}

-- one more name behind those that are there; a name that is there already keeps what it stands for
abbrev pub with_one_more : {V : Type 0} → List (List ℕ × V) → (List ℕ × V) → List (List ℕ × V)
with_one_more names entry =
    if is_some (lookup (λ other. bytes_eq other entry.0) names) then names else names ++ entry ∷ []

abbrev pub in_order : {V : Type 0} → List (List ℕ × V) → List (List ℕ × V)
in_order entries = fold with_one_more [] entries
