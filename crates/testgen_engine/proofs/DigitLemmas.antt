-- Lemmas on the digits of bytes and what is expected of them.
use Rattle.std.proofs.Common.{◌≡◌, ℕ, ◌*◌, ◌/◌, ◌%◌, ◌<◌, ◌≤◌, true, IsTrue, List, [], ◌∷◌, Some, length, map, get_or, refl, arith}
use Prim.Native.Nat.{zero, suc}
use Rattle.std.proofs.lemmas.Bool.{eq-eqb, lt-ltb, le-leb}
use Rattle.std.proofs.lemmas.List.{length-map}
use Rattle.std.specs.List.{list_all, slice_get}
use Rattle.p4_meaning.specs.declared.test.Expected.TheVariants.{Packet}
use Rattle.p4_meaning.specs.declared.test.Nibble.TheVariants.{Fixed, Masked, Undecided}
use Rattle.p4_meaning.specs.Expected.{digits_of, is_digit, is_printable, AllowsAll}

-- two digits a byte
pub length-digits_of : (bytes : List ℕ) → length (digits_of bytes) ≡ 2 * length bytes
length-digits_of [] = refl
length-digits_of (byte ∷ bytes) = omega (arith, length-digits_of bytes)

-- each digit of a byte is below 16
digits_fit : (bytes : List ℕ) → ((i : ℕ) → get_or bytes i 0 < 256) → list_all is_digit (map Fixed (digits_of bytes)) ≡ true
digits_fit [] fit = refl
digits_fit (byte ∷ bytes) fit =
    let small : byte < 256 = fit 0 in
    rw (lt-ltb (byte / 16) 16 (omega arith)) (rw (lt-ltb (byte % 16) 16 (omega arith)) (digits_fit bytes (λ i. fit (suc i))))

-- what is expected of a packet at a port that is not the drop port can be printed
pub printable : (port : ℕ) (bytes : List ℕ) → port ≤ 510 → ((i : ℕ) → get_or bytes i 0 < 256) → IsTrue (is_printable (Packet port (map Fixed (digits_of bytes))))
printable port bytes low fit =
    let even : length (map Fixed (digits_of bytes)) % 2 ≡ 0 = omega (arith, length-map (digits_of bytes) Fixed, length-digits_of bytes) in
    rw (le-leb port 510 low) (rw (eq-eqb (length (map Fixed (digits_of bytes)) % 2) 0 even) (digits_fit bytes fit))

-- digits that are to be found as they are
pub AllowsAll-fixed : (digits : List ℕ) → AllowsAll (map Fixed digits) digits
AllowsAll-fixed [] = tt
AllowsAll-fixed (digit ∷ digits) = (refl, AllowsAll-fixed digits)

-- none of them is masked or undecided
pub fixed_not_masked : (digits : List ℕ) (place : ℕ) → slice_get (map Fixed digits) place ≡ Some Masked → ⊥
fixed_not_masked [] place e = cc
fixed_not_masked (digit ∷ digits) zero e = cc
fixed_not_masked (digit ∷ digits) (suc place) e = fixed_not_masked digits place e

pub fixed_not_undecided : (digits : List ℕ) (place : ℕ) → place < length (map Fixed digits) → get_or (map Fixed digits) place Undecided ≡ Undecided → ⊥
fixed_not_undecided [] place within e = absurd (omega arith)
fixed_not_undecided (digit ∷ digits) zero within e = cc
fixed_not_undecided (digit ∷ digits) (suc place) within e = fixed_not_undecided digits place (omega arith) e
