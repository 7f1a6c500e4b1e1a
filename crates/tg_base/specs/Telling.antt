-- Readings that are of the files tell truly: what the desks in memory show of themselves.
use Rattle.std.specs.Prelude.{◌≡◌, ℕ, Bool, true, false, not, ◌||◌, List, [], ◌∷◌, map, All, Option, None, Some, IsTrue, refl}
use Rattle.std.proofs.Common.{zero, suc, true≢false, sym, ap}
use Rattle.std.proofs.Math.Nat.{not-suc-le-zero, le_of_suc-le-suc}
use Rattle.std.proofs.lemmas.Bool.{and_parts}
use Rattle.std.proofs.lemmas.Slice.Eq.{bytes_eq-Decides}
use Rattle.tg_base.specs.Moment.{IsOfFile, is_end}
use Rattle.tg_base.specs.Reading.{Reading, has_bytes, is_of_file, are_of_files}

of_file : (files : List ℕ → Option (List ℕ)) (reading : Reading) → is_of_file files reading ≡ true → IsOfFile files reading.file
of_file files reading told =
    let parts = and_parts _ _ told in
    record { rest = reading.rest; bytes = has_all (files reading.file.name) _ parts.0; end = ends reading.file.ended reading.rest parts.1 }
  where
    has_all : (file : Option (List ℕ)) (bytes : List ℕ) → has_bytes file bytes ≡ true → file ≡ Some bytes
    has_all None bytes has = absurd (true≢false (sym has))
    has_all (Some own) bytes has = ap Some ((bytes_eq-Decides own bytes).0 has)

    ends : (ended : Bool) (rest : List ℕ) → (not ended || is_end rest) ≡ true → IsTrue ended → rest ≡ []
    ends true [] told is = refl
    ends true (x ∷ rest) told is = absurd (true≢false (sym told))
    ends false rest told is = absurd (true≢false (sym is))

-- readings that are of the files tell truly
pub tells_truly : (files : List ℕ → Option (List ℕ)) (readings : List Reading) → IsTrue (are_of_files files readings)
    → All (IsOfFile files) (map (λ reading. reading.file) readings)
tells_truly files [] told k d within = absurd (not-suc-le-zero within)
tells_truly files (reading ∷ readings) told zero d within = of_file files reading (and_parts _ _ told).0
tells_truly files (reading ∷ readings) told (suc k) d within =
    tells_truly files readings (and_parts _ _ told).1 k d (le_of_suc-le-suc within)
