-- The masks of products: what zeros at the end settle.
use Rattle.std.proofs.Common.{◌≡◌, ◌≢◌, ℕ, ◌+◌, ◌*◌, ◌%◌, ◌^◌, ◌<◌, ◌≤◌, sym, ap, ◌∙◌, subst, arith, ◌⊎◌, inl, inr, ⊎_elim}
use Rattle.std.specs.Int.{bit_at}
use Rattle.std.proofs.Math.Nat.{mul_comm}
use Rattle.std.proofs.lemmas.Bool.{cases_lt, cases_eq}
use Rattle.std.proofs.lemmas.Nat.Bits.{bit_at_above, bit_at-lt, bit_at-zero}
use Rattle.bits_core.specs.declared.operator.Op.TheVariants.{Mul}
use Rattle.bits_core.specs.Operator.{operator_value}
use Rattle.bits_core.specs.Place.{SameBelow}
use Rattle.bits_core.proofs.PlaceLaws.{bit_at_mod}
use Rattle.bits_core.proofs.RowLaws.{operator_value_below}
use Rattle.bits_core.proofs.SameBelowLaws.{same_below_bits, bit_at_same_below, same_below_fewer, same_below_product_zeros}
use Rattle.taint_domain.specs.declared.tainted.Tainted.{Tainted}
use Rattle.taint_domain.specs.Results.{ResultOf, MasksAll}
use Rattle.taint_domain.specs.Tainted.{IsSameOutside, MayBe, IsSettledBelow, IsZeroBelow}
use Rattle.taint_domain.proofs.MayBeLemmas.{may_own, flipped, flipped_differs, may_flipped, greatest_of, may_greatest, greatest_over}
use Rattle.taint_domain.proofs.ResultsLemmas.{masks_all, same_outside_below}

-- the lowest bit of n is at the place, and there is none where n is 0
pub record IsLowest (n place : ℕ) : Type 0 where
  pub below : (i : ℕ) → i < place → bit_at n i ≡ 0
  pub lowest : n ≢ 0 → bit_at n place ≡ 1
  pub none : n ≡ 0 → place ≡ 128

-- ---- what is settled

unmasked_same : (v : Tainted) (i x : ℕ) → ((j : ℕ) → j < i → bit_at v.mask.value j ≡ 0) → MayBe v x → SameBelow i x v.number.value
unmasked_same v i x clear may = same_below_bits i x v.number.value (λ j below. may.outside.bits j (clear j below))

zeros_of : (v : Tainted) (i x : ℕ) → ((j : ℕ) → j < i → bit_at (greatest_of v) j ≡ 0) → MayBe v x → x % 2 ^ i ≡ 0
zeros_of v i x clear may =
    let none : 0 % 2 ^ i ≡ 0 = omega arith in
    same_below_bits i x 0 (λ j below. omega (arith, greatest_over v x j may, clear j below, bit_at-zero j)) ∙ none

settled_unmasked : (v : Tainted) (i j : ℕ) → IsSettledBelow v i → j < i → bit_at v.mask.value j ≡ 0
settled_unmasked v i j settled below =
    ⊎_elim
    (λ (clear : bit_at v.mask.value j < 1). omega arith)
    (λ (set : 1 ≤ bit_at v.mask.value j).
    let masked : bit_at v.mask.value j ≡ 1 = omega (arith, bit_at-lt v.mask.value j) in
    let x = flipped v.number.value j in
    absurd (flipped_differs v.number.value j
    (bit_at_same_below i x v.number.value j (settled x (may_flipped v j masked)) below)))
    (cases_lt (bit_at v.mask.value j) 1)

zero_bits : (v : Tainted) (i j : ℕ) → IsZeroBelow v i → j < i → bit_at (greatest_of v) j ≡ 0
zero_bits v i j zero below =
    sym (bit_at_mod (greatest_of v) i j below) ∙ ap (λ (n : ℕ). bit_at n j) (zero (greatest_of v) (may_greatest v)) ∙ bit_at-zero j

-- zeros below a place are as many as there are below the lowest bit, or there is no bit
as_many : (n place i : ℕ) → IsLowest n place → ((j : ℕ) → j < i → bit_at n j ≡ 0) → (place ≡ 128) ⊎ (i ≤ place)
as_many n place i lowest zeros =
    ⊎_elim
    (λ (none : n ≡ 0). inl (lowest.none none))
    (λ (some : n ≡ 0 → ⊥).
    inr (⊎_elim
    (λ (less : place < i). absurd (omega (arith, lowest.lowest some, zeros place less)))
    (λ (most : i ≤ place). most)
    (cases_lt place i)))
    (cases_eq n 0)

enough : (place i j s z : ℕ) → place < 128 → place < i + j → (s ≡ 128) ⊎ (i ≤ s) → (z ≡ 128) ⊎ (j ≤ z) → place < s + z
enough place i j s z small below (inl p) q = omega arith
enough place i j s z small below (inr p) (inl q) = omega arith
enough place i j s z small below (inr p) (inr q) = omega arith

-- ---- the mask

-- no bit below the place, and all from it on
pub record IsFrom (m width place : ℕ) : Type 0 where
  pub below : (i : ℕ) → i < place → bit_at m i ≡ 0
  pub above : (i : ℕ) → i < width → place ≤ i → bit_at m i ≡ 1

module _ (a b : Tainted) (m s z t u place : ℕ) (width : a.number.width ≡ b.number.width)
    (first : IsLowest a.mask.value s) (zeros : IsLowest (greatest_of b) z)
    (second : IsLowest b.mask.value t) (ends : IsLowest (greatest_of a) u)
    (from : IsFrom m a.number.width place) where
  abbrev product_of : ℕ → ℕ → ℕ
  product_of x y = operator_value Mul a.number.width x b.number.width y

  product_same : (x y : ℕ) → place ≤ s + z → place ≤ t + u → MayBe a x → MayBe b y →
      SameBelow place (x * y) (a.number.value * b.number.value)
  product_same x y p q may other =
      let n = a.number.value in
      let k = b.number.value in
      let by_first : SameBelow (s + z) (x * y) (n * y) =
      same_below_product_zeros s z x n y (unmasked_same a s x first.below may) (zeros_of b z y zeros.below other) in
      let by_second : SameBelow (t + u) (y * n) (k * n) =
      same_below_product_zeros t u y k n (unmasked_same b t y second.below other) (zeros_of a u n ends.below (may_own a)) in
      same_below_fewer place (s + z) (x * y) (n * y) p by_first
      ∙ ap (λ (r : ℕ). r % 2 ^ place) (mul_comm n y)
      ∙ same_below_fewer place (t + u) (y * n) (k * n) q by_second
      ∙ ap (λ (r : ℕ). r % 2 ^ place) (mul_comm k n)

  pub product_masks_all : place ≤ s + z → place ≤ t + u →
      MasksAll (ResultOf Mul a b) (product_of a.number.value b.number.value) m
  product_masks_all p q =
      let w = a.number.width in
      let n = a.number.value in
      let k = b.number.value in
      let fits = λ (x y : ℕ) (h : x < 2 ^ w) (j : y < 2 ^ b.number.width). operator_value_below Mul w x b.number.width y width h j in
      masks_all (ResultOf Mul a b) (product_of n k) m (λ r of.
      subst (IsSameOutside m (product_of n k)) (sym of.is)
      (same_outside_below w m (product_of n k) (product_of of.x of.y) (fits n k a.number.fits b.number.fits)
      (fits of.x of.y of.first.fits of.second.fits)
      (λ i within clear.
      let low : i < place =
      ⊎_elim (λ (below : i < place). below) (λ (above : place ≤ i). absurd (omega (arith, from.above i within above))) (cases_lt i place) in
      bit_at_mod (of.x * of.y) w i within
      ∙ bit_at_same_below place (of.x * of.y) (n * k) i (product_same of.x of.y p q of.first of.second) low
      ∙ sym (bit_at_mod (n * k) w i within))))

  -- `place` is one of the two sums
  pub product_settled : (place ≡ s + z) ⊎ (place ≡ t + u) → m < 2 ^ a.number.width → (i j k l at : ℕ) → IsSettledBelow a i →
      IsZeroBelow b j → IsSettledBelow b k → IsZeroBelow a l → at < i + j → at < k + l → bit_at m at ≡ 0
  product_settled is fits i j k l at by zero other none below under =
      ⊎_elim
      (λ (within : at < a.number.width).
      let small : at < 128 = omega (arith, a.number.at_most_widest) in
      let by_first = enough at i j s z small below (as_many a.mask.value s i first (λ h lt. settled_unmasked a i h by lt))
      (as_many (greatest_of b) z j zeros (λ h lt. zero_bits b j h zero lt)) in
      let by_second = enough at k l t u small under (as_many b.mask.value t k second (λ h lt. settled_unmasked b k h other lt))
      (as_many (greatest_of a) u l ends (λ h lt. zero_bits a l h none lt)) in
      from.below at (⊎_elim (λ (e : place ≡ s + z). omega arith) (λ (e : place ≡ t + u). omega arith) is))
      (λ (past : a.number.width ≤ at). bit_at_above m a.number.width at fits past)
      (cases_lt at a.number.width)
