-- The masks of choices: that of the side which a known flag names, and else both masks and the bits in which the sides differ.
use Rattle.std.proofs.Common.{◌≡◌, ◌≢◌, ℕ, ◌+◌, ◌-◌, ◌%◌, ◌<◌, ◌≤◌, Bool, true, false, refl, sym, ap, ◌∙◌, subst, arith, ⊎_elim}
use Rattle.std.specs.Prelude.{max, bit_or, bit_xor, if◌then◌else◌}
use Rattle.std.specs.Int.{bit_at}
use Rattle.std.proofs.lemmas.Bool.{cases_lt}
use Rattle.std.proofs.lemmas.Nat.Bits.{bit_at_or, bit_at_xor, bit_at-lt}
use Rattle.taint_domain.specs.declared.flag.TaintFlag.{TaintFlag}
use Rattle.taint_domain.specs.declared.tainted.Tainted.{Tainted}
use Rattle.taint_domain.specs.Flag.{FlagMayBe}
use Rattle.taint_domain.specs.Results.{ChoiceOf, CanDiffer, MasksAll, MasksOnly}
use Rattle.taint_domain.specs.Tainted.{IsSameOutside, MayBe}
use Rattle.taint_domain.proofs.MayBeLemmas.{may_own, may_have_bit, flipped, flipped_differs, may_flipped}
use Rattle.taint_domain.proofs.ResultsLemmas.{masks_all}

abbrev pub chosen : Bool → Tainted → Tainted → ℕ
chosen t a b = if t then a.number.value else b.number.value

-- ---- a known flag

named : (f : TaintFlag) (a b : Tainted) (z : ℕ) (t : Bool) → f.may_differ ≡ false → f.truth ≡ t → (of : ChoiceOf f a b z) →
    z ≡ (if t then of.x else of.y)
named f a b z t known truth of = of.is ∙ ap (λ s. if s then of.x else of.y) (of.flag.known known ∙ truth)

own_flag : (f : TaintFlag) → FlagMayBe f f.truth
own_flag f = record { known = λ e. refl }

pub first_masks_all : (f : TaintFlag) (a b : Tainted) → f.may_differ ≡ false → f.truth ≡ true →
    MasksAll (ChoiceOf f a b) (chosen f.truth a b) a.mask.value
first_masks_all f a b known truth =
    subst (λ t. MasksAll (ChoiceOf f a b) (chosen t a b) a.mask.value) (sym truth)
    (masks_all (ChoiceOf f a b) a.number.value a.mask.value (λ z of.
    subst (IsSameOutside a.mask.value a.number.value) (sym (named f a b z true known truth of)) of.first.outside))

pub second_masks_all : (f : TaintFlag) (a b : Tainted) → f.may_differ ≡ false → f.truth ≡ false →
    MasksAll (ChoiceOf f a b) (chosen f.truth a b) b.mask.value
second_masks_all f a b known truth =
    subst (λ t. MasksAll (ChoiceOf f a b) (chosen t a b) b.mask.value) (sym truth)
    (masks_all (ChoiceOf f a b) b.number.value b.mask.value (λ z of.
    subst (IsSameOutside b.mask.value b.number.value) (sym (named f a b z false known truth of)) of.second.outside))

pub first_masks_only : (f : TaintFlag) (a b : Tainted) → f.truth ≡ true →
    MasksOnly (ChoiceOf f a b) (chosen f.truth a b) a.mask.value
first_masks_only f a b truth =
    subst (λ t. MasksOnly (ChoiceOf f a b) (chosen t a b) a.mask.value) (sym truth) (record {
      bits = λ i set.
          let x = flipped a.number.value i in
          record {
            z = x;
            of = record {
              t = f.truth;
              x = x;
              y = b.number.value;
              flag = own_flag f;
              first = may_flipped a i set;
              second = may_own b;
              is = ap (λ t. if t then x else b.number.value) (sym truth);
            };
            differs = flipped_differs a.number.value i;
          };
    })

pub second_masks_only : (f : TaintFlag) (a b : Tainted) → f.truth ≡ false →
    MasksOnly (ChoiceOf f a b) (chosen f.truth a b) b.mask.value
second_masks_only f a b truth =
    subst (λ t. MasksOnly (ChoiceOf f a b) (chosen t a b) b.mask.value) (sym truth) (record {
      bits = λ i set.
          let y = flipped b.number.value i in
          record {
            z = y;
            of = record {
              t = f.truth;
              x = a.number.value;
              y = y;
              flag = own_flag f;
              first = may_own a;
              second = may_flipped b i set;
              is = ap (λ t. if t then a.number.value else y) (sym truth);
            };
            differs = flipped_differs b.number.value i;
          };
    })

-- ---- an unknown flag

choice_mask : Tainted → Tainted → ℕ
choice_mask a b = bit_or (bit_or a.mask.value b.mask.value) (bit_xor a.number.value b.number.value)

bit_at_choice_mask : (a b : Tainted) (i : ℕ) → bit_at (choice_mask a b) i
    ≡ max (max (bit_at a.mask.value i) (bit_at b.mask.value i)) ((bit_at a.number.value i + bit_at b.number.value i) % 2)
unfolding choice_mask
bit_at_choice_mask a b i =
    bit_at_or (bit_or a.mask.value b.mask.value) (bit_xor a.number.value b.number.value) i
    ∙ ap (λ (m : ℕ). max m (bit_at (bit_xor a.number.value b.number.value) i)) (bit_at_or a.mask.value b.mask.value i)
    ∙ ap (max (max (bit_at a.mask.value i) (bit_at b.mask.value i))) (bit_at_xor a.number.value b.number.value i)

either_bit : (t : Bool) (x y i m : ℕ) → bit_at x i ≡ m → bit_at y i ≡ m → bit_at (if t then x else y) i ≡ m
either_bit true x y i m p q = p
either_bit false x y i m p q = q

open_masks_all : (f : TaintFlag) (a b : Tainted) → MasksAll (ChoiceOf f a b) (chosen f.truth a b) (choice_mask a b)
open_masks_all f a b =
    let n = a.number.value in
    let k = b.number.value in
    masks_all (ChoiceOf f a b) (chosen f.truth a b) (choice_mask a b) (λ z of.
    subst (IsSameOutside (choice_mask a b) (chosen f.truth a b)) (sym of.is) (record {
      bits = λ i clear.
          let masks : max (max (bit_at a.mask.value i) (bit_at b.mask.value i)) ((bit_at n i + bit_at k i) % 2) ≡ 0 =
          sym (bit_at_choice_mask a b i) ∙ clear in
          let agree : bit_at k i ≡ bit_at n i = omega (arith, bit_at-lt n i, bit_at-lt k i) in
          either_bit of.t of.x of.y i (bit_at n i)
          (of.first.outside.bits i (omega arith)) (of.second.outside.bits i (omega arith) ∙ agree)
          ∙ sym (either_bit f.truth n k i (bit_at n i) refl agree);
    }))

any_flag : (f : TaintFlag) (t : Bool) → f.may_differ ≡ true → FlagMayBe f t
any_flag f t unknown = record { known = λ e. absurd (cc) }

from_first : (f : TaintFlag) (a b : Tainted) (i : ℕ) → f.may_differ ≡ true → (x : ℕ) → MayBe a x →
    bit_at x i ≢ bit_at (chosen f.truth a b) i → CanDiffer (ChoiceOf f a b) (chosen f.truth a b) i
from_first f a b i unknown x may differs = record {
  z = x;
  of = record { t = true; x = x; y = b.number.value; flag = any_flag f true unknown; first = may; second = may_own b; is = refl };
  differs = differs;
}

from_second : (f : TaintFlag) (a b : Tainted) (i : ℕ) → f.may_differ ≡ true → (y : ℕ) → MayBe b y →
    bit_at y i ≢ bit_at (chosen f.truth a b) i → CanDiffer (ChoiceOf f a b) (chosen f.truth a b) i
from_second f a b i unknown y may differs = record {
  z = y;
  of = record { t = false; x = a.number.value; y = y; flag = any_flag f false unknown; first = may_own a; second = may; is = refl };
  differs = differs;
}

-- the side that zeros do not choose
other_side : (f : TaintFlag) (a b : Tainted) (i : ℕ) → f.may_differ ≡ true → bit_at a.number.value i ≢ bit_at b.number.value i →
    CanDiffer (ChoiceOf f a b) (chosen f.truth a b) i
other_side f a b i unknown apart = by f.truth refl
  where
    by : (t : Bool) → f.truth ≡ t → CanDiffer (ChoiceOf f a b) (chosen f.truth a b) i
    by true e = from_second f a b i unknown b.number.value (may_own b)
        (λ same. apart (sym (same ∙ ap (λ t. bit_at (chosen t a b) i) e)))
    by false e = from_first f a b i unknown a.number.value (may_own a)
        (λ same. apart (same ∙ ap (λ t. bit_at (chosen t a b) i) e))

open_masks_only : (f : TaintFlag) (a b : Tainted) → f.may_differ ≡ true →
    MasksOnly (ChoiceOf f a b) (chosen f.truth a b) (choice_mask a b)
open_masks_only f a b unknown = record {
  bits = λ i set.
      let own = bit_at (chosen f.truth a b) i in
      let small : own < 2 = bit_at-lt (chosen f.truth a b) i in
      let masks : max (max (bit_at a.mask.value i) (bit_at b.mask.value i)) ((bit_at a.number.value i + bit_at b.number.value i) % 2) ≡ 1 =
      sym (bit_at_choice_mask a b i) ∙ set in
      ⊎_elim
      (λ (clear : bit_at a.mask.value i < 1).
      ⊎_elim
      (λ (settled : bit_at b.mask.value i < 1). other_side f a b i unknown (λ same. absurd (omega arith)))
      (λ (masked : 1 ≤ bit_at b.mask.value i).
      let y = may_have_bit b i (1 - own) (omega arith) (λ none. absurd (omega arith)) in
      from_second f a b i unknown y.0 y.1 (λ same. absurd (omega (arith, y.2))))
      (cases_lt (bit_at b.mask.value i) 1))
      (λ (masked : 1 ≤ bit_at a.mask.value i).
      let x = may_have_bit a i (1 - own) (omega arith) (λ none. absurd (omega arith)) in
      from_first f a b i unknown x.0 x.1 (λ same. absurd (omega (arith, x.2))))
      (cases_lt (bit_at a.mask.value i) 1);
}

pub either_masks_all : (f : TaintFlag) (a b : Tainted) (m : ℕ) →
    m ≡ bit_or (bit_or a.mask.value b.mask.value) (bit_xor a.number.value b.number.value) →
    MasksAll (ChoiceOf f a b) (chosen f.truth a b) m
unfolding choice_mask
either_masks_all f a b m e = subst (MasksAll (ChoiceOf f a b) (chosen f.truth a b)) (sym e) (open_masks_all f a b)

pub either_masks_only : (f : TaintFlag) (a b : Tainted) (m : ℕ) → f.may_differ ≡ true →
    m ≡ bit_or (bit_or a.mask.value b.mask.value) (bit_xor a.number.value b.number.value) →
    MasksOnly (ChoiceOf f a b) (chosen f.truth a b) m
unfolding choice_mask
either_masks_only f a b m unknown e = subst (MasksOnly (ChoiceOf f a b) (chosen f.truth a b)) (sym e) (open_masks_only f a b unknown)
