-- What a value may be: its own number, that with one masked bit turned round, and its ends, bit by bit.
use Rattle.std.proofs.Common.{◌≡◌, ◌≢◌, ℕ, ◌-◌, ◌^◌, ◌<◌, ◌≤◌, refl, sym, ap, ◌∙◌, subst, arith, ⊎_elim}
use Rattle.std.specs.Prelude.{min, max, bit_and, bit_or, bit_xor}
use Rattle.std.specs.Int.{bit_at}
use Rattle.std.proofs.lemmas.Bool.{cases_lt}
use Rattle.std.proofs.lemmas.Nat.{xor_lt, or_lt, and_le_l, pow_below}
use Rattle.std.proofs.lemmas.Nat.Bits.{bit_at_above, bit_at_and, bit_at_or, bit_at_xor, bit_at-pow_same, bit_at-pow_other, bit_at-lt, bit_at-zero, same_from_bits}
use Rattle.bits_core.proofs.PlaceLaws.{bit_at_turned}
use Rattle.bits_core.proofs.SameBelowLaws.{le_from_bits}
use Rattle.taint_domain.specs.declared.tainted.Tainted.{Tainted}
use Rattle.taint_domain.specs.Tainted.{IsSameOutside, MayBe}

pub mask_fits : (v : Tainted) → v.mask.value < 2 ^ v.number.width
mask_fits v = subst (λ (w : ℕ). v.mask.value < 2 ^ w) v.one_width v.mask.fits

-- a place with a bit is within the width
pub place_within : (w m i : ℕ) → m < 2 ^ w → bit_at m i ≡ 1 → i < w
place_within w m i fits set =
    ⊎_elim
    (λ (low : i < w). low)
    (λ (high : w ≤ i). absurd (omega (arith, bit_at_above m w i fits high)))
    (cases_lt i w)

pub same_outside : (m n x : ℕ) → x ≡ n → IsSameOutside m n x
same_outside m n x e = record { bits = λ i clear. ap (λ (k : ℕ). bit_at k i) e }

pub may_own : (v : Tainted) → MayBe v v.number.value
may_own v = record { fits = v.number.fits; outside = same_outside v.mask.value v.number.value v.number.value refl }

-- without a masked bit there is no other
pub clear_may : (v : Tainted) (x : ℕ) → v.mask.value ≡ 0 → MayBe v x → x ≡ v.number.value
clear_may v x clear may =
    same_from_bits x v.number.value (λ i. may.outside.bits i (ap (λ (m : ℕ). bit_at m i) clear ∙ bit_at-zero i))

-- the number with one bit turned round
pub flipped : ℕ → ℕ → ℕ
flipped n i = bit_xor n (2 ^ i)

pub flipped_same : (n i : ℕ) → bit_at (flipped n i) i ≡ 1 - bit_at n i
unfolding flipped
flipped_same n i = omega (arith, bit_at_xor n (2 ^ i) i, bit_at-pow_same i)

pub flipped_other : (n i j : ℕ) → j ≢ i → bit_at (flipped n i) j ≡ bit_at n j
unfolding flipped
flipped_other n i j other = omega (arith, bit_at_xor n (2 ^ i) j, bit_at-pow_other i j other)

pub flipped_differs : (n i : ℕ) → bit_at (flipped n i) i ≢ bit_at n i
flipped_differs n i same = absurd (omega (arith, flipped_same n i, bit_at-lt n i))

pub may_flipped : (v : Tainted) (i : ℕ) → bit_at v.mask.value i ≡ 1 → MayBe v (flipped v.number.value i)
unfolding flipped
may_flipped v i set = record {
  fits = xor_lt v.number.width v.number.value (2 ^ i) v.number.fits
      (pow_below i v.number.width (place_within v.number.width v.mask.value i (mask_fits v) set));
  outside = record {
    bits = λ j clear. flipped_other v.number.value i j (λ same. absurd (omega (arith, ap (bit_at v.mask.value) same)));
  };
}

-- any bit may stand at a masked place, and the number's own at another
pub may_have_bit : (v : Tainted) (i b : ℕ) → b < 2 → (bit_at v.mask.value i ≡ 0 → b ≡ bit_at v.number.value i) →
    (x : ℕ) × MayBe v x × (bit_at x i ≡ b)
may_have_bit v i b small own =
    ⊎_elim
    (λ (clear : bit_at v.mask.value i < 1). (v.number.value, may_own v, sym (own (omega arith))))
    (λ (set : 1 ≤ bit_at v.mask.value i).
    let masked : bit_at v.mask.value i ≡ 1 = omega (arith, bit_at-lt v.mask.value i) in
    ⊎_elim
    (λ (less : bit_at v.number.value i < b).
    (flipped v.number.value i, may_flipped v i masked, flipped_same v.number.value i ∙ omega arith))
    (λ (more : b ≤ bit_at v.number.value i).
    ⊎_elim
    (λ (under : b < bit_at v.number.value i).
    (flipped v.number.value i, may_flipped v i masked, flipped_same v.number.value i ∙ omega (arith, bit_at-lt v.number.value i)))
    (λ (same : bit_at v.number.value i ≤ b). (v.number.value, may_own v, omega arith))
    (cases_lt b (bit_at v.number.value i)))
    (cases_lt (bit_at v.number.value i) b))
    (cases_lt (bit_at v.mask.value i) 1)

-- ---- the ends

pub least_of : Tainted → ℕ
least_of v = bit_and v.number.value (2 ^ v.number.width - 1 - v.mask.value)

pub greatest_of : Tainted → ℕ
greatest_of v = bit_or v.number.value v.mask.value

pub least_is : (v : Tainted) → least_of v ≡ bit_and v.number.value (2 ^ v.number.width - 1 - v.mask.value)
unfolding least_of
least_is v = refl

pub greatest_is : (v : Tainted) → greatest_of v ≡ bit_or v.number.value v.mask.value
unfolding greatest_of
greatest_is v = refl

pub bit_at_least : (v : Tainted) (i : ℕ) → bit_at (least_of v) i ≡ min (bit_at v.number.value i) (1 - bit_at v.mask.value i)
unfolding least_of
bit_at_least v i =
    let w = v.number.width in
    let turned = 2 ^ w - 1 - v.mask.value in
    bit_at_and v.number.value turned i
    ∙ ⊎_elim
    (λ (low : i < w). ap (min (bit_at v.number.value i)) (bit_at_turned w v.mask.value i (mask_fits v) low))
    (λ (high : w ≤ i).
    let none : bit_at v.number.value i ≡ 0 = bit_at_above v.number.value w i v.number.fits high in
    let over : bit_at v.mask.value i ≡ 0 = bit_at_above v.mask.value w i (mask_fits v) high in
    omega arith)
    (cases_lt i w)

pub bit_at_greatest : (v : Tainted) (i : ℕ) → bit_at (greatest_of v) i ≡ max (bit_at v.number.value i) (bit_at v.mask.value i)
unfolding greatest_of
bit_at_greatest v i = bit_at_or v.number.value v.mask.value i

least_fits : (v : Tainted) → least_of v < 2 ^ v.number.width
unfolding least_of
least_fits v = omega (arith, v.number.fits, and_le_l v.number.value (2 ^ v.number.width - 1 - v.mask.value))

greatest_fits : (v : Tainted) → greatest_of v < 2 ^ v.number.width
unfolding greatest_of
greatest_fits v = or_lt v.number.width v.number.value v.mask.value v.number.fits (mask_fits v)

pub may_least : (v : Tainted) → MayBe v (least_of v)
may_least v = record {
  fits = least_fits v;
  outside = record { bits = λ i clear. omega (arith, bit_at_least v i, bit_at-lt v.number.value i) };
}

pub may_greatest : (v : Tainted) → MayBe v (greatest_of v)
may_greatest v = record {
  fits = greatest_fits v;
  outside = record { bits = λ i clear. omega (arith, bit_at_greatest v i) };
}

-- each bit of what a value may be lies between those of its ends
pub least_under : (v : Tainted) (x i : ℕ) → MayBe v x → bit_at (least_of v) i ≤ bit_at x i
least_under v x i may =
    ⊎_elim
    (λ (clear : bit_at v.mask.value i < 1). omega (arith, bit_at_least v i, may.outside.bits i (omega arith)))
    (λ (set : 1 ≤ bit_at v.mask.value i). omega (arith, bit_at_least v i))
    (cases_lt (bit_at v.mask.value i) 1)

pub greatest_over : (v : Tainted) (x i : ℕ) → MayBe v x → bit_at x i ≤ bit_at (greatest_of v) i
greatest_over v x i may =
    ⊎_elim
    (λ (clear : bit_at v.mask.value i < 1). omega (arith, bit_at_greatest v i, may.outside.bits i (omega arith)))
    (λ (set : 1 ≤ bit_at v.mask.value i). omega (arith, bit_at_greatest v i, bit_at-lt x i))
    (cases_lt (bit_at v.mask.value i) 1)

pub least_le : (v : Tainted) (x : ℕ) → MayBe v x → least_of v ≤ x
least_le v x may = le_from_bits (least_of v) x (λ i. least_under v x i may)

pub le_greatest : (v : Tainted) (x : ℕ) → MayBe v x → x ≤ greatest_of v
le_greatest v x may = le_from_bits x (greatest_of v) (λ i. greatest_over v x i may)
