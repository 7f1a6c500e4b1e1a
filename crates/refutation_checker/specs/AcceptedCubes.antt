-- The cubes among the lines of a derivation.
use Rattle.std.specs.Prelude.{◌<◌, ◌≢◌, ◌≡◌, ◌↔◌, ◌^◌, ◌∷◌, ℕ, List, [], Contains, Some, length, slice_get}
use Rattle.cnf_core.specs.declared.formula.Lit.{Lit}
use Rattle.cnf_core.specs.declared.derivation.Derived.{Derived}
use Rattle.cnf_core.specs.declared.derivation.Derived.TheVariants.{Cube, Step}
use Rattle.refutation_checker.specs.Derivation.{Derivation}

abbrev pub cubes_of : List Derived → List (List Lit)
cubes_of [] = []
cubes_of (Cube cube ∷ lines) = cube ∷ cubes_of lines
cubes_of (Step step ∷ lines) = cubes_of lines

abbrev pub IsCubeAt : Derivation → ℕ → List Lit → Type 0
IsCubeAt d i cube = slice_get d.derived i ≡ Some (Cube cube)

-- each literal of the one is a literal of the other
abbrev pub IsPartOf : List Lit → List Lit → Type 0
IsPartOf few more = (l : Lit) → Contains few l → Contains more l

-- no cube has all literals of one before it, so that no two have the same
abbrev pub NoCubeIsPart : Derivation → Type 0
NoCubeIsPart d = (i j : ℕ) (b c : List Lit) → i < j → IsCubeAt d i b → IsCubeAt d j c → ¬ IsPartOf b c

abbrev pub AreDistinct : Derivation → Type 0
AreDistinct d = (i j : ℕ) (b c : List Lit) → i < j → IsCubeAt d i b → IsCubeAt d j c → ¬ ((l : Lit) → Contains b l ↔ Contains c l)

abbrev pub NoneIsEmpty : Derivation → Type 0
NoneIsEmpty d = (i : ℕ) (cube : List Lit) → IsCubeAt d i cube → cube ≢ []

-- each input is open, true or false in a cube, and not all are open
abbrev pub AreFew : Derivation → Type 0
AreFew d = length (cubes_of d.derived) < 3 ^ d.inputs
