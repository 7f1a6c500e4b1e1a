-- The masks of sums and differences: a bit differs where one of an operand does, or where the carry into it does, which is least
-- for the least operands and greatest for the greatest.
use Rattle.std.proofs.Common.{◌≡◌, ◌≢◌, ℕ, zero, suc, ◌+◌, ◌-◌, ◌%◌, ◌^◌, ◌<◌, ◌≤◌, refl, sym, ap, ◌∙◌, subst, arith, ⊎_elim}
use Rattle.std.specs.Prelude.{max, bit_or, bit_xor}
use Rattle.std.specs.Int.{bit_at}
use Rattle.std.proofs.lemmas.Bool.{cases_lt, cases_eq}
use Rattle.std.proofs.lemmas.Nat.{or_lt, xor_lt}
use Rattle.std.proofs.lemmas.Nat.Bits.{bit_at_or, bit_at_xor, bit_at-lt}
use Rattle.bits_core.specs.declared.operator.Op.{Op}
use Rattle.bits_core.specs.declared.operator.Op.TheVariants.{Add, Sub}
use Rattle.bits_core.specs.Operator.{operator_value}
use Rattle.bits_core.specs.Place.{carry_into}
use Rattle.bits_core.proofs.CarryLaws.{carry_into_zero, carry_into_suc, carry_into_below, bit_at_add, bit_at_subtract}
use Rattle.bits_core.proofs.PlaceLaws.{bit_at_turned}
use Rattle.bits_core.proofs.RowLaws.{operator_value_below}
use Rattle.taint_domain.specs.declared.tainted.Tainted.{Tainted}
use Rattle.taint_domain.specs.Results.{ResultOf, CanDiffer, MasksAll, MasksOnly}
use Rattle.taint_domain.specs.Tainted.{IsSameOutside, MayBe}
use Rattle.taint_domain.proofs.MayBeLemmas.{mask_fits, place_within, may_own, flipped, flipped_same, flipped_other, may_flipped, least_of, greatest_of, may_least, may_greatest, least_under, greatest_over}
use Rattle.taint_domain.proofs.ResultsLemmas.{masks_all, same_outside_below}

-- ---- the carry

-- more bits below a place carry no less into it
carry_grows : (i x z y u c : ℕ) → ((j : ℕ) → j < i → bit_at x j ≤ bit_at z j) → ((j : ℕ) → j < i → bit_at y j ≤ bit_at u j) →
    carry_into i x y c ≤ carry_into i z u c
carry_grows zero x z y u c p q = omega (arith, carry_into_zero x y c, carry_into_zero z u c)
carry_grows (suc i) x z y u c p q =
    let before = carry_grows i x z y u c (λ j h. p j (omega arith)) (λ j h. q j (omega arith)) in
    omega (arith, carry_into_suc i x y c, carry_into_suc i z u c, p i (omega arith), q i (omega arith))

carry_same : (i x z y u c : ℕ) → ((j : ℕ) → j < i → bit_at x j ≡ bit_at z j) → ((j : ℕ) → j < i → bit_at y j ≡ bit_at u j) →
    carry_into i x y c ≡ carry_into i z u c
carry_same i x z y u c p q =
    let up = carry_grows i x z y u c (λ j h. omega (arith, p j h)) (λ j h. omega (arith, q j h)) in
    let down = carry_grows i z x u y c (λ j h. omega (arith, p j h)) (λ j h. omega (arith, q j h)) in
    omega arith

-- the bit of a sum at a place
sum_bit : ℕ → ℕ → ℕ → ℕ → ℕ
sum_bit i x y c = (bit_at x i + bit_at y i + carry_into i x y c) % 2

-- three sums whose operands have the same bit at the place, the one between the others there
squeezed : (a b l m h : ℕ) → l ≤ m → m ≤ h → h < 2 → (a + b + l) % 2 ≡ (a + b + h) % 2 → (a + b + m) % 2 ≡ (a + b + l) % 2
squeezed a b l m h p q small same = omega arith

between_same : (i x y c lx ly hx hy : ℕ) → c < 2 →
    ((j : ℕ) → j < i → (bit_at lx j ≤ bit_at x j) × (bit_at x j ≤ bit_at hx j)) →
    ((j : ℕ) → j < i → (bit_at ly j ≤ bit_at y j) × (bit_at y j ≤ bit_at hy j)) →
    bit_at x i ≡ bit_at lx i → bit_at hx i ≡ bit_at lx i → bit_at y i ≡ bit_at ly i → bit_at hy i ≡ bit_at ly i →
    sum_bit i lx ly c ≡ sum_bit i hx hy c → sum_bit i x y c ≡ sum_bit i lx ly c
unfolding sum_bit
between_same i x y c lx ly hx hy small xs ys p q r s same =
    let a = bit_at lx i in
    let b = bit_at ly i in
    let low = carry_grows i lx x ly y c (λ j h. (xs j h).0) (λ j h. (ys j h).0) in
    let high = carry_grows i x hx y hy c (λ j h. (xs j h).1) (λ j h. (ys j h).1) in
    let ends : (a + b + carry_into i lx ly c) % 2 ≡ (a + b + carry_into i hx hy c) % 2 =
    same ∙ ap (λ (n : ℕ). (n + bit_at hy i + carry_into i hx hy c) % 2) q
    ∙ ap (λ (n : ℕ). (a + n + carry_into i hx hy c) % 2) s in
    ap (λ (n : ℕ). (n + bit_at y i + carry_into i x y c) % 2) p
    ∙ ap (λ (n : ℕ). (a + n + carry_into i x y c) % 2) r
    ∙ squeezed a b (carry_into i lx ly c) (carry_into i x y c) (carry_into i hx hy c) low high (carry_into_below i hx hy c small) ends

-- one operand with the bit at the place turned round, and the carry as it was
turned_bit : (a b t c : ℕ) → a < 2 → t ≡ 1 - a → (t + b + c) % 2 ≢ (a + b + c) % 2
turned_bit a b t c small e same = absurd (omega arith)

turned_second : (a b t c : ℕ) → b < 2 → t ≡ 1 - b → (a + t + c) % 2 ≢ (a + b + c) % 2
turned_second a b t c small e same = absurd (omega arith)

-- ---- what adds its first operand, its second one or that turned round, and a carry into the lowest place

-- the second operands `low` and `high` are those that make the sum least and greatest
record IsSum (f : ℕ → ℕ → ℕ) (a b : Tainted) (g : ℕ → ℕ) (c low high : ℕ) : Type 0 where
  small : c < 2
  same_width : b.number.width ≡ a.number.width
  fits : (x y : ℕ) → x < 2 ^ a.number.width → y < 2 ^ b.number.width → f x y < 2 ^ a.number.width
  place : (x y i : ℕ) → y < 2 ^ b.number.width → i < a.number.width → bit_at (f x y) i ≡ sum_bit i x (g y) c
  low_may : MayBe b low
  high_may : MayBe b high
  over_low : (y j : ℕ) → MayBe b y → j < a.number.width → bit_at (g low) j ≤ bit_at (g y) j
  under_high : (y j : ℕ) → MayBe b y → j < a.number.width → bit_at (g y) j ≤ bit_at (g high) j
  same : (y z j : ℕ) → y < 2 ^ b.number.width → z < 2 ^ b.number.width → j < a.number.width → bit_at y j ≡ bit_at z j →
      bit_at (g y) j ≡ bit_at (g z) j
  turned : (y z j : ℕ) → y < 2 ^ b.number.width → z < 2 ^ b.number.width → j < a.number.width → bit_at z j ≡ 1 - bit_at y j →
      bit_at (g z) j ≡ 1 - bit_at (g y) j

sum_mask : (ℕ → ℕ → ℕ) → Tainted → Tainted → ℕ → ℕ → ℕ
sum_mask f a b low high = bit_or (bit_xor (f (least_of a) low) (f (greatest_of a) high)) (bit_or a.mask.value b.mask.value)

module _ {f : ℕ → ℕ → ℕ} {a b : Tainted} {g : ℕ → ℕ} {c low high : ℕ} (sum : IsSum f a b g c low high) where
  bit_at_sum_mask : (i : ℕ) → bit_at (sum_mask f a b low high) i
      ≡ max ((bit_at (f (least_of a) low) i + bit_at (f (greatest_of a) high) i) % 2) (max (bit_at a.mask.value i) (bit_at b.mask.value i))
  unfolding sum_mask
  bit_at_sum_mask i =
      bit_at_or (bit_xor (f (least_of a) low) (f (greatest_of a) high)) (bit_or a.mask.value b.mask.value) i
      ∙ ap (λ (n : ℕ). max n (bit_at (bit_or a.mask.value b.mask.value) i)) (bit_at_xor (f (least_of a) low) (f (greatest_of a) high) i)
      ∙ ap (max ((bit_at (f (least_of a) low) i + bit_at (f (greatest_of a) high) i) % 2)) (bit_at_or a.mask.value b.mask.value i)

  -- at a place without a masked bit, into which the same is carried, all have the bit of the least
  as_least : (x y i : ℕ) → MayBe a x → MayBe b y → i < a.number.width → bit_at a.mask.value i ≡ 0 → bit_at b.mask.value i ≡ 0 →
      bit_at (f (least_of a) low) i ≡ bit_at (f (greatest_of a) high) i → bit_at (f x y) i ≡ bit_at (f (least_of a) low) i
  as_least x y i may other within p q ends =
      let low_fits = sum.low_may.fits in
      let high_fits = sum.high_may.fits in
      let own_low = (may_least a).outside.bits i p in
      sum.place x y i other.fits within
      ∙ between_same i x (g y) c (least_of a) (g low) (greatest_of a) (g high) sum.small
      (λ j h. (least_under a x j may, greatest_over a x j may))
      (λ j h. (sum.over_low y j other (omega arith), sum.under_high y j other (omega arith)))
      (may.outside.bits i p ∙ sym own_low)
      ((may_greatest a).outside.bits i p ∙ sym own_low)
      (sum.same y low i other.fits low_fits within (other.outside.bits i q ∙ sym (sum.low_may.outside.bits i q)))
      (sum.same high low i high_fits low_fits within (sum.high_may.outside.bits i q ∙ sym (sum.low_may.outside.bits i q)))
      (sym (sum.place (least_of a) low i low_fits within) ∙ ends ∙ sum.place (greatest_of a) high i high_fits within)
      ∙ sym (sum.place (least_of a) low i low_fits within)

  sum_outside : (x y : ℕ) → MayBe a x → MayBe b y → IsSameOutside (sum_mask f a b low high) (f a.number.value b.number.value) (f x y)
  sum_outside x y may other =
      same_outside_below a.number.width (sum_mask f a b low high) (f a.number.value b.number.value) (f x y)
      (sum.fits a.number.value b.number.value a.number.fits b.number.fits) (sum.fits x y may.fits other.fits)
      (λ i within clear.
      let bits : max ((bit_at (f (least_of a) low) i + bit_at (f (greatest_of a) high) i) % 2)
      (max (bit_at a.mask.value i) (bit_at b.mask.value i)) ≡ 0 = sym (bit_at_sum_mask i) ∙ clear in
      let ends : bit_at (f (least_of a) low) i ≡ bit_at (f (greatest_of a) high) i =
      omega (arith, bit_at-lt (f (least_of a) low) i, bit_at-lt (f (greatest_of a) high) i) in
      as_least x y i may other within (omega arith) (omega arith) ends
      ∙ sym (as_least a.number.value b.number.value i (may_own a) (may_own b) within (omega arith) (omega arith) ends))

  -- the bit turned round of the first operand, or of the second
  first_differs : (i : ℕ) → i < a.number.width → bit_at a.mask.value i ≡ 1 →
      bit_at (f (flipped a.number.value i) b.number.value) i ≢ bit_at (f a.number.value b.number.value) i
  unfolding sum_bit
  first_differs i within set same =
      let n = a.number.value in
      let k = g b.number.value in
      let x = flipped n i in
      let carry : carry_into i x k c ≡ carry_into i n k c =
      carry_same i x n k k c (λ j h. flipped_other n i j (λ e. absurd (omega arith))) (λ j h. refl) in
      turned_bit (bit_at n i) (bit_at k i) (bit_at x i) (carry_into i n k c) (bit_at-lt n i) (flipped_same n i)
      (ap (λ (m : ℕ). (bit_at x i + bit_at k i + m) % 2) (sym carry)
      ∙ sym (sum.place x b.number.value i b.number.fits within) ∙ same ∙ sum.place n b.number.value i b.number.fits within)

  second_differs : (i : ℕ) → i < a.number.width → bit_at b.mask.value i ≡ 1 →
      bit_at (f a.number.value (flipped b.number.value i)) i ≢ bit_at (f a.number.value b.number.value) i
  unfolding sum_bit
  second_differs i within set same =
      let n = a.number.value in
      let k = b.number.value in
      let y = flipped k i in
      let fits : y < 2 ^ b.number.width = (may_flipped b i set).fits in
      let carry : carry_into i n (g y) c ≡ carry_into i n (g k) c =
      carry_same i n n (g y) (g k) c (λ j h. refl)
      (λ j h. sum.same y k j fits b.number.fits (omega arith) (flipped_other k i j (λ e. absurd (omega arith)))) in
      turned_second (bit_at n i) (bit_at (g k) i) (bit_at (g y) i) (carry_into i n (g k) c) (bit_at-lt (g k) i)
      (sum.turned k y i b.number.fits fits within (flipped_same k i))
      (ap (λ (m : ℕ). (bit_at n i + bit_at (g y) i + m) % 2) (sym carry)
      ∙ sym (sum.place n y i fits within) ∙ same ∙ sum.place n k i b.number.fits within)

-- ---- sums and differences

abbrev pub valued : Op → Tainted → Tainted → ℕ → ℕ → ℕ
valued op a b x y = operator_value op a.number.width x b.number.width y

module _ (op : Op) {a b : Tainted} {g : ℕ → ℕ} {c low high : ℕ} (sum : IsSum (valued op a b) a b g c low high) where
  sum_masks_all : MasksAll (ResultOf op a b) (valued op a b a.number.value b.number.value) (sum_mask (valued op a b) a b low high)
  sum_masks_all =
      masks_all (ResultOf op a b) (valued op a b a.number.value b.number.value) (sum_mask (valued op a b) a b low high) (λ z of.
      subst (IsSameOutside (sum_mask (valued op a b) a b low high) (valued op a b a.number.value b.number.value)) (sym of.is)
      (sum_outside sum of.x of.y of.first of.second))

  sum_mask_fits : sum_mask (valued op a b) a b low high < 2 ^ a.number.width
  unfolding sum_mask
  sum_mask_fits =
      let w = a.number.width in
      let f = valued op a b in
      let second : b.mask.value < 2 ^ w = subst (λ (k : ℕ). b.mask.value < 2 ^ k) sum.same_width (mask_fits b) in
      or_lt w (bit_xor (f (least_of a) low) (f (greatest_of a) high)) (bit_or a.mask.value b.mask.value)
      (xor_lt w (f (least_of a) low) (f (greatest_of a) high) (sum.fits (least_of a) low (may_least a).fits sum.low_may.fits)
      (sum.fits (greatest_of a) high (may_greatest a).fits sum.high_may.fits))
      (or_lt w a.mask.value b.mask.value (mask_fits a) second)

  -- the ends differ from each other, so one differs from the numbers' own
  ends_differ : (i : ℕ) → bit_at (valued op a b (least_of a) low) i ≢ bit_at (valued op a b (greatest_of a) high) i →
      CanDiffer (ResultOf op a b) (valued op a b a.number.value b.number.value) i
  ends_differ i ends =
      let f = valued op a b in
      let own = f a.number.value b.number.value in
      ⊎_elim
      (λ (same : bit_at (f (least_of a) low) i ≡ bit_at own i). record {
        z = f (greatest_of a) high;
        of = record { x = greatest_of a; y = high; first = may_greatest a; second = sum.high_may; is = refl };
        differs = λ other. ends (same ∙ sym other);
      })
      (λ (differs : bit_at (f (least_of a) low) i ≡ bit_at own i → ⊥). record {
        z = f (least_of a) low;
        of = record { x = least_of a; y = low; first = may_least a; second = sum.low_may; is = refl };
        differs = differs;
      })
      (cases_eq (bit_at (f (least_of a) low) i) (bit_at own i))

  sum_masks_only : MasksOnly (ResultOf op a b) (valued op a b a.number.value b.number.value) (sum_mask (valued op a b) a b low high)
  sum_masks_only = record {
    bits = λ i set.
        let f = valued op a b in
        let within : i < a.number.width = place_within a.number.width (sum_mask f a b low high) i sum_mask_fits set in
        let bits : max ((bit_at (f (least_of a) low) i + bit_at (f (greatest_of a) high) i) % 2)
        (max (bit_at a.mask.value i) (bit_at b.mask.value i)) ≡ 1 = sym (bit_at_sum_mask sum i) ∙ set in
        ⊎_elim
        (λ (clear : bit_at a.mask.value i < 1).
        ⊎_elim
        (λ (settled : bit_at b.mask.value i < 1).
        ends_differ i (λ same. absurd (omega (arith, bit_at-lt (f (greatest_of a) high) i))))
        (λ (second : 1 ≤ bit_at b.mask.value i).
        let masked : bit_at b.mask.value i ≡ 1 = omega (arith, bit_at-lt b.mask.value i) in
        record {
          z = f a.number.value (flipped b.number.value i);
          of = record { x = a.number.value; y = flipped b.number.value i; first = may_own a; second = may_flipped b i masked; is = refl };
          differs = second_differs sum i within masked;
        })
        (cases_lt (bit_at b.mask.value i) 1))
        (λ (first : 1 ≤ bit_at a.mask.value i).
        let masked : bit_at a.mask.value i ≡ 1 = omega (arith, bit_at-lt a.mask.value i) in
        record {
          z = f (flipped a.number.value i) b.number.value;
          of = record { x = flipped a.number.value i; y = b.number.value; first = may_flipped a i masked; second = may_own b; is = refl };
          differs = first_differs sum i within masked;
        })
        (cases_lt (bit_at a.mask.value i) 1);
  }

add_sum : (a b : Tainted) → a.number.width ≡ b.number.width → IsSum (valued Add a b) a b (λ y. y) 0 (least_of b) (greatest_of b)
unfolding sum_bit
add_sum a b width = record {
  small = omega arith;
  same_width = sym width;
  fits = λ x y p q. operator_value_below Add a.number.width x b.number.width y width p q;
  place = λ x y i p within. bit_at_add a.number.width x b.number.width y i within;
  low_may = may_least b;
  high_may = may_greatest b;
  over_low = λ y j may within. least_under b y j may;
  under_high = λ y j may within. greatest_over b y j may;
  same = λ y z j p q within e. e;
  turned = λ y z j p q within e. e;
}

sub_sum : (a b : Tainted) → a.number.width ≡ b.number.width →
    IsSum (valued Sub a b) a b (λ y. 2 ^ a.number.width - 1 - y) 1 (greatest_of b) (least_of b)
unfolding sum_bit
sub_sum a b width =
    let w = a.number.width in
    let narrow : (y : ℕ) → y < 2 ^ b.number.width → y < 2 ^ w = λ y p. subst (λ (k : ℕ). y < 2 ^ k) (sym width) p in
    let turned = λ (y j : ℕ) (p : y < 2 ^ b.number.width) (within : j < w). bit_at_turned w y j (narrow y p) within in
    record {
      small = omega arith;
      same_width = sym width;
      fits = λ x y p q. operator_value_below Sub w x b.number.width y width p q;
      place = λ x y i p within.
          bit_at_subtract w x b.number.width y i (narrow y p) within
          ∙ ap (λ (n : ℕ). (bit_at x i + n + carry_into i x (2 ^ w - 1 - y) 1) % 2) (sym (turned y i p within));
      low_may = may_greatest b;
      high_may = may_least b;
      over_low = λ y j may within.
          omega (arith, turned y j may.fits within, turned (greatest_of b) j (may_greatest b).fits within, greatest_over b y j may);
      under_high = λ y j may within.
          omega (arith, turned y j may.fits within, turned (least_of b) j (may_least b).fits within, least_under b y j may);
      same = λ y z j p q within e. turned y j p within ∙ ap (λ (n : ℕ). 1 - n) e ∙ sym (turned z j q within);
      turned = λ y z j p q within e.
          turned z j q within ∙ ap (λ (n : ℕ). 1 - n) (e ∙ sym (turned y j p within));
    }

-- a mask that is made of the two ends, for the ends that make the operator's result least and greatest
pub add_masks_all : (a b : Tainted) (m : ℕ) → a.number.width ≡ b.number.width →
    m ≡ bit_or (bit_xor (valued Add a b (least_of a) (least_of b)) (valued Add a b (greatest_of a) (greatest_of b)))
    (bit_or a.mask.value b.mask.value) →
    MasksAll (ResultOf Add a b) (valued Add a b a.number.value b.number.value) m
unfolding sum_mask
add_masks_all a b m width e =
    subst (MasksAll (ResultOf Add a b) (valued Add a b a.number.value b.number.value)) (sym e) (sum_masks_all Add (add_sum a b width))

pub add_masks_only : (a b : Tainted) (m : ℕ) → a.number.width ≡ b.number.width →
    m ≡ bit_or (bit_xor (valued Add a b (least_of a) (least_of b)) (valued Add a b (greatest_of a) (greatest_of b)))
    (bit_or a.mask.value b.mask.value) →
    MasksOnly (ResultOf Add a b) (valued Add a b a.number.value b.number.value) m
unfolding sum_mask
add_masks_only a b m width e =
    subst (MasksOnly (ResultOf Add a b) (valued Add a b a.number.value b.number.value)) (sym e) (sum_masks_only Add (add_sum a b width))

pub sub_masks_all : (a b : Tainted) (m : ℕ) → a.number.width ≡ b.number.width →
    m ≡ bit_or (bit_xor (valued Sub a b (least_of a) (greatest_of b)) (valued Sub a b (greatest_of a) (least_of b)))
    (bit_or a.mask.value b.mask.value) →
    MasksAll (ResultOf Sub a b) (valued Sub a b a.number.value b.number.value) m
unfolding sum_mask
sub_masks_all a b m width e =
    subst (MasksAll (ResultOf Sub a b) (valued Sub a b a.number.value b.number.value)) (sym e) (sum_masks_all Sub (sub_sum a b width))

pub sub_masks_only : (a b : Tainted) (m : ℕ) → a.number.width ≡ b.number.width →
    m ≡ bit_or (bit_xor (valued Sub a b (least_of a) (greatest_of b)) (valued Sub a b (greatest_of a) (least_of b)))
    (bit_or a.mask.value b.mask.value) →
    MasksOnly (ResultOf Sub a b) (valued Sub a b a.number.value b.number.value) m
unfolding sum_mask
sub_masks_only a b m width e =
    subst (MasksOnly (ResultOf Sub a b) (valued Sub a b a.number.value b.number.value)) (sym e) (sum_masks_only Sub (sub_sum a b width))
