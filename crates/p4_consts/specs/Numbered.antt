-- What has a number, found at once.
use Rattle.std.specs.Prelude.{◌≡◌, ℕ, ◌==◌, List, reverse, Option, None, Some, slice_get, MatchOption}
use Rattle.std.specs.Map.{lookup}

-- the last place at which a number stands, or none where it stands nowhere
abbrev pub IsLatest : {V : Type 0} → List (ℕ × V) → ℕ → Option ℕ → Type 0
IsLatest entries n place = MatchOption place
    (lookup (λ m. m == n) (reverse entries) ≡ None)
    (λ i. (v : _) × (slice_get entries i ≡ Some (n, v)) × (lookup (λ m. m == n) (reverse entries) ≡ Some v))
