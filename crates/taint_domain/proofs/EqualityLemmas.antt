-- Whether two values may be equal, and whether they may be two numbers.
use Rattle.std.proofs.Common.{◌≡◌, ◌≢◌, ℕ, ◌+◌, ◌-◌, ◌%◌, ◌^◌, ◌<◌, ◌≤◌, Bool, true, false, refl, sym, ap, ◌∙◌, subst, arith, ⊎_elim}
use Rattle.std.specs.Prelude.{◌==◌, min, max, not, bit_and, bit_or, bit_xor}
use Rattle.std.specs.Int.{bit_at}
use Rattle.std.proofs.lemmas.Bool.{cases_lt, cases_eq, eqb-true, eq-eqb}
use Rattle.std.proofs.lemmas.Nat.{xor_lt, or_lt, and_le_r}
use Rattle.std.proofs.lemmas.Nat.Bits.{bit_at_and, bit_at_or, bit_at_xor, bit_at-lt, bit_at-zero, same_from_bits}
use Rattle.bits_core.specs.declared.operator.Op.TheVariants.{Eq}
use Rattle.taint_domain.specs.declared.tainted.Tainted.{Tainted}
use Rattle.taint_domain.specs.Results.{TestOf}
use Rattle.taint_domain.specs.Tainted.{MayBe}
use Rattle.taint_domain.proofs.MayBeLemmas.{mask_fits, may_own, clear_may, least_of, bit_at_least, may_least}

-- the bits in which the numbers differ are all masked
abbrev pub IsOpen : Tainted → Tainted → Type 0
IsOpen a b =
    bit_or (bit_xor a.number.value b.number.value) (bit_or a.mask.value b.mask.value) ≡ bit_or a.mask.value b.mask.value

-- ---- the two may be one number

-- the first one's bits, but the second one's where the first is masked
mixed : Tainted → Tainted → ℕ
mixed a b = bit_or (least_of a) (bit_and b.number.value a.mask.value)

bit_at_mixed : (a b : Tainted) (i : ℕ) → bit_at (mixed a b) i
    ≡ max (min (bit_at a.number.value i) (1 - bit_at a.mask.value i)) (min (bit_at b.number.value i) (bit_at a.mask.value i))
unfolding mixed
bit_at_mixed a b i =
    bit_at_or (least_of a) (bit_and b.number.value a.mask.value) i
    ∙ ap (λ (n : ℕ). max n (bit_at (bit_and b.number.value a.mask.value) i)) (bit_at_least a i)
    ∙ ap (max (min (bit_at a.number.value i) (1 - bit_at a.mask.value i))) (bit_at_and b.number.value a.mask.value i)

mixed_fits : (a b : Tainted) → mixed a b < 2 ^ a.number.width
unfolding mixed
mixed_fits a b =
    or_lt a.number.width (least_of a) (bit_and b.number.value a.mask.value) (may_least a).fits
    (omega (arith, mask_fits a, and_le_r b.number.value a.mask.value))

may_first : (a b : Tainted) → MayBe a (mixed a b)
may_first a b = record {
  fits = mixed_fits a b;
  outside = record { bits = λ i clear. omega (arith, bit_at_mixed a b i, bit_at-lt a.number.value i) };
}

open_bits : (a b : Tainted) (i : ℕ) → IsOpen a b →
    max ((bit_at a.number.value i + bit_at b.number.value i) % 2) (max (bit_at a.mask.value i) (bit_at b.mask.value i))
    ≡ max (bit_at a.mask.value i) (bit_at b.mask.value i)
open_bits a b i is =
    let m = a.mask.value in
    let o = b.mask.value in
    let apart = bit_xor a.number.value b.number.value in
    ap (λ (n : ℕ). max n (max (bit_at m i) (bit_at o i))) (sym (bit_at_xor a.number.value b.number.value i))
    ∙ ap (max (bit_at apart i)) (sym (bit_at_or m o i)) ∙ sym (bit_at_or apart (bit_or m o) i)
    ∙ ap (λ (n : ℕ). bit_at n i) is ∙ bit_at_or m o i

may_second : (a b : Tainted) → a.number.width ≡ b.number.width → IsOpen a b → MayBe b (mixed a b)
may_second a b width is = record {
  fits = subst (λ (w : ℕ). mixed a b < 2 ^ w) width (mixed_fits a b);
  outside = record {
    bits = λ i clear.
        ⊎_elim
        (λ (settled : bit_at a.mask.value i < 1).
        omega (arith, bit_at_mixed a b i, open_bits a b i is, bit_at-lt a.number.value i, bit_at-lt b.number.value i))
        (λ (masked : 1 ≤ bit_at a.mask.value i).
        omega (arith, bit_at_mixed a b i, bit_at-lt a.mask.value i, bit_at-lt b.number.value i))
        (cases_lt (bit_at a.mask.value i) 1);
  };
}

-- ---- one of them may be another number

all_flipped : (v : Tainted) → MayBe v (bit_xor v.number.value v.mask.value)
all_flipped v = record {
  fits = xor_lt v.number.width v.number.value v.mask.value v.number.fits (mask_fits v);
  outside = record { bits = λ i clear. omega (arith, bit_at_xor v.number.value v.mask.value i, bit_at-lt v.number.value i) };
}

xor_moves : (n m : ℕ) → bit_xor n m ≡ n → m ≡ 0
xor_moves n m same = same_from_bits m 0 (λ i.
    omega (arith, bit_at_xor n m i, ap (λ (k : ℕ). bit_at k i) same, bit_at-lt n i, bit_at-lt m i, bit_at-zero i))

not_equal : (x y : ℕ) → x ≢ y → (x == y) ≡ false
not_equal x y apart = by (x == y) refl
  where
    by : (t : Bool) → (x == y) ≡ t → t ≡ false
    by true e = absurd (apart (eqb-true x y e))
    by false e = refl

no_masks : (a b : Tainted) → a.mask.value ≡ 0 → b.mask.value ≡ 0 → bit_or a.mask.value b.mask.value ≡ 0
no_masks a b p q = same_from_bits (bit_or a.mask.value b.mask.value) 0 (λ i.
    omega (arith, bit_at_or a.mask.value b.mask.value i, ap (λ (k : ℕ). bit_at k i) p, ap (λ (k : ℕ). bit_at k i) q, bit_at-zero i))

equal_differs_by : (a b : Tainted) (t : Bool) → a.number.width ≡ b.number.width → IsOpen a b → bit_or a.mask.value b.mask.value ≢ 0 →
    (a.number.value == b.number.value) ≡ t → TestOf Eq a b (not t)
equal_differs_by a b true width is some own =
    let n = a.number.value in
    let k = b.number.value in
    let same : n ≡ k = eqb-true n k own in
    ⊎_elim
    (λ (clear : a.mask.value ≡ 0). record {
      x = n;
      y = bit_xor k b.mask.value;
      first = may_own a;
      second = all_flipped b;
      is = sym (not_equal n (bit_xor k b.mask.value)
          (λ e. some (no_masks a b clear (xor_moves k b.mask.value (sym e ∙ same)))));
    })
    (λ (masked : a.mask.value ≡ 0 → ⊥). record {
      x = bit_xor n a.mask.value;
      y = k;
      first = all_flipped a;
      second = may_own b;
      is = sym (not_equal (bit_xor n a.mask.value) k (λ e. masked (xor_moves n a.mask.value (e ∙ sym same))));
    })
    (cases_eq a.mask.value 0)
equal_differs_by a b false width is some own = record {
  x = mixed a b;
  y = mixed a b;
  first = may_first a b;
  second = may_second a b width is;
  is = sym (eq-eqb (mixed a b) (mixed a b) refl);
}

pub equal_differs : (a b : Tainted) → a.number.width ≡ b.number.width → IsOpen a b → bit_or a.mask.value b.mask.value ≢ 0 →
    TestOf Eq a b (not (a.number.value == b.number.value))
equal_differs a b width is some = equal_differs_by a b (a.number.value == b.number.value) width is some refl

-- ---- what it needs

left_clear : (m o : ℕ) → bit_or m o ≡ 0 → m ≡ 0
left_clear m o none = same_from_bits m 0 (λ i. omega (arith, bit_at_or m o i, ap (λ (k : ℕ). bit_at k i) none, bit_at-zero i))

right_clear : (m o : ℕ) → bit_or m o ≡ 0 → o ≡ 0
right_clear m o none = same_from_bits o 0 (λ i. omega (arith, bit_at_or m o i, ap (λ (k : ℕ). bit_at k i) none, bit_at-zero i))

no_other : (t : Bool) → not t ≡ t → ⊥
no_other true e = absurd (cc)
no_other false e = absurd (cc)

pub equal_needs_mask : (a b : Tainted) → TestOf Eq a b (not (a.number.value == b.number.value)) → bit_or a.mask.value b.mask.value ≢ 0
equal_needs_mask a b other none =
    let first : other.x ≡ a.number.value = clear_may a other.x (left_clear a.mask.value b.mask.value none) other.first in
    let second : other.y ≡ b.number.value = clear_may b other.y (right_clear a.mask.value b.mask.value none) other.second in
    no_other (a.number.value == b.number.value)
    (other.is ∙ ap (λ (n : ℕ). n == other.y) first ∙ ap (λ (n : ℕ). a.number.value == n) second)

agree_by : (a b : Tainted) (t : Bool) (i : ℕ) → (a.number.value == b.number.value) ≡ t → TestOf Eq a b (not t) →
    bit_at a.mask.value i ≡ 0 → bit_at b.mask.value i ≡ 0 → bit_at a.number.value i ≡ bit_at b.number.value i
agree_by a b true i own other p q = ap (λ (n : ℕ). bit_at n i) (eqb-true a.number.value b.number.value own)
agree_by a b false i own other p q =
    sym (other.first.outside.bits i p) ∙ ap (λ (n : ℕ). bit_at n i) (eqb-true other.x other.y (sym other.is))
    ∙ other.second.outside.bits i q

pub equal_needs_open : (a b : Tainted) → TestOf Eq a b (not (a.number.value == b.number.value)) → IsOpen a b
equal_needs_open a b other =
    let m = a.mask.value in
    let o = b.mask.value in
    let apart = bit_xor a.number.value b.number.value in
    same_from_bits (bit_or apart (bit_or m o)) (bit_or m o) (λ i.
    ⊎_elim
    (λ (clear : max (bit_at m i) (bit_at o i) < 1).
    let same = agree_by a b (a.number.value == b.number.value) i refl other (omega arith) (omega arith) in
    omega (arith, bit_at_or apart (bit_or m o) i, bit_at_or m o i, bit_at_xor a.number.value b.number.value i, bit_at-lt b.number.value i))
    (λ (masked : 1 ≤ max (bit_at m i) (bit_at o i)).
    omega (arith, bit_at_or apart (bit_or m o) i, bit_at_or m o i, bit_at-lt apart i, bit_at-lt m i, bit_at-lt o i))
    (cases_lt (max (bit_at m i) (bit_at o i)) 1))
