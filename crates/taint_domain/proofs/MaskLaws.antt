-- What values and masks promise; higher crates may cite these.
use Rattle.std.proofs.Common.{◌≡◌, ℕ, ◌<◌, ◌≤◌, ◌^◌, refl, sym, ap, ◌∙◌, subst, arith, ⊎_elim}
use Rattle.std.specs.Int.{bit_at}
use Rattle.std.proofs.lemmas.Bool.{cases_lt}
use Rattle.std.proofs.lemmas.Nat.Bits.{bit_at_above}
use Rattle.bits_core.specs.declared.operator.Op.TheVariants.{Add, Sub, Neg}
use Rattle.bits_core.specs.declared.points.Point.{Point}
use Rattle.bits_core.specs.Operator.{operator_value}
use Rattle.bits_core.specs.Place.{SameBelow}
use Rattle.bits_core.proofs.RowLaws.{operator_value_below}
use Rattle.bits_core.proofs.SameBelowLaws.{bit_at_same_below, same_below_fewer, same_below_add, same_below_subtract, same_below_negate}
use Rattle.taint_domain.specs.declared.tainted.Tainted.{Tainted}
use Rattle.taint_domain.specs.Results.{ResultOf}
use Rattle.taint_domain.specs.Tainted.{StandsFor, IsClear, ReadsAreZero, IsSettledBelow}
use Rattle.taint_domain.proofs.MayBeLemmas.{may_own, clear_may}

pub stands_for_own : (v : Tainted) (p : Point) → StandsFor v p v.number.value
stands_for_own v p = record { may = may_own v; zeros = λ none. refl }

pub stands_under_zeros : (v : Tainted) (p : Point) (x : ℕ) → ReadsAreZero p → StandsFor v p x → x ≡ v.number.value
stands_under_zeros v p x none stands = stands.zeros none

pub stands_if_clear : (v : Tainted) (p : Point) (x : ℕ) → IsClear v → StandsFor v p x → x ≡ v.number.value
stands_if_clear v p x clear stands = clear_may v x clear stands.may

pub same_outside_mask : (v : Tainted) (p q : Point) (x y place : ℕ) → StandsFor v p x → StandsFor v q y →
    bit_at v.mask.value place ≡ 0 → bit_at x place ≡ bit_at y place
same_outside_mask v p q x y place first second clear =
    first.may.outside.bits place clear ∙ sym (second.may.outside.bits place clear)

-- two results that fit the width, and are the same below n so far as that goes, have the same bit below n
same_bit : (w n place z own : ℕ) → z < 2 ^ w → own < 2 ^ w → ((m : ℕ) → m ≤ w → m ≤ n → SameBelow m z own) → place < n →
    bit_at z place ≡ bit_at own place
same_bit w n place z own fits other same below =
    ⊎_elim
    (λ (within : place < w).
    ⊎_elim
    (λ (short : n < w). bit_at_same_below n z own place (same n (omega arith) (omega arith)) below)
    (λ (long : w ≤ n). bit_at_same_below w z own place (same w (omega arith) long) within)
    (cases_lt n w))
    (λ (past : w ≤ place). bit_at_above z w place fits past ∙ sym (bit_at_above own w place other past))
    (cases_lt place w)

pub add_settled : (a b : Tainted) (n place z : ℕ) → a.number.width ≡ b.number.width → IsSettledBelow a n → IsSettledBelow b n →
    place < n → ResultOf Add a b z →
    bit_at z place ≡ bit_at (operator_value Add a.number.width a.number.value b.number.width b.number.value) place
add_settled a b n place z width p q below of =
    let w = a.number.width in
    let u = b.number.width in
    let fits = λ (x y : ℕ) (h : x < 2 ^ w) (k : y < 2 ^ u). operator_value_below Add w x u y width h k in
    ap (λ (r : ℕ). bit_at r place) of.is
    ∙ same_bit w n place (operator_value Add w of.x u of.y) (operator_value Add w a.number.value u b.number.value)
    (fits of.x of.y of.first.fits of.second.fits) (fits a.number.value b.number.value a.number.fits b.number.fits)
    (λ m short few. same_below_add m w of.x a.number.value u of.y b.number.value short
    (same_below_fewer m n of.x a.number.value few (p of.x of.first)) (same_below_fewer m n of.y b.number.value few (q of.y of.second)))
    below

pub subtract_settled : (a b : Tainted) (n place z : ℕ) → a.number.width ≡ b.number.width → IsSettledBelow a n → IsSettledBelow b n →
    place < n → ResultOf Sub a b z →
    bit_at z place ≡ bit_at (operator_value Sub a.number.width a.number.value b.number.width b.number.value) place
subtract_settled a b n place z width p q below of =
    let w = a.number.width in
    let u = b.number.width in
    let narrow = λ (y : ℕ) (h : y < 2 ^ u). subst (λ (k : ℕ). y < 2 ^ k) (sym width) h in
    let fits = λ (x y : ℕ) (h : x < 2 ^ w) (k : y < 2 ^ u). operator_value_below Sub w x u y width h k in
    ap (λ (r : ℕ). bit_at r place) of.is
    ∙ same_bit w n place (operator_value Sub w of.x u of.y) (operator_value Sub w a.number.value u b.number.value)
    (fits of.x of.y of.first.fits of.second.fits) (fits a.number.value b.number.value a.number.fits b.number.fits)
    (λ m short few. same_below_subtract m w of.x a.number.value u of.y b.number.value short
    (narrow of.y of.second.fits) (narrow b.number.value b.number.fits)
    (same_below_fewer m n of.x a.number.value few (p of.x of.first)) (same_below_fewer m n of.y b.number.value few (q of.y of.second)))
    below

pub negate_settled : (a b : Tainted) (n place z : ℕ) → IsSettledBelow a n → place < n → ResultOf Neg a b z →
    bit_at z place ≡ bit_at (operator_value Neg a.number.width a.number.value 0 0) place
negate_settled a b n place z p below of =
    let w = a.number.width in
    let fits = λ (x : ℕ) (h : x < 2 ^ w). operator_value_below Neg w x 0 0 tt h (omega arith) in
    ap (λ (r : ℕ). bit_at r place) of.is
    ∙ same_bit w n place (operator_value Neg w of.x 0 0) (operator_value Neg w a.number.value 0 0)
    (fits of.x of.first.fits) (fits a.number.value a.number.fits)
    (λ m short few. same_below_negate m w of.x a.number.value 0 0 0 short of.first.fits a.number.fits
    (same_below_fewer m n of.x a.number.value few (p of.x of.first)))
    below
