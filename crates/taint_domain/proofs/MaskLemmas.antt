-- From the mask of a row of the table to what is promised of it.
use Rattle.std.proofs.Common.{◌≡◌, ◌≢◌, ℕ, zero, suc, ◌+◌, ◌-◌, ◌%◌, ◌^◌, ◌<◌, ◌≤◌, Bool, true, false, refl, sym, ap, ◌∙◌, subst, arith, ◌⊎◌, ⊎_elim}
use Rattle.std.specs.Prelude.{◌↔◌, IsTrue, not, if◌then◌else◌}
use Rattle.std.specs.Int.{bit_at}
use Rattle.std.proofs.lemmas.Bool.{cases_lt, cases_eq}
use Rattle.std.proofs.lemmas.Nat.Bits.{bit_at_above, bit_at_lowest, bit_at-lt, bit_at-zero, same_from_bits}
use Rattle.bits_core.specs.declared.operator.Op.{Op}
use Rattle.bits_core.specs.declared.operator.Op.TheVariants.{Sub, Mul, AddSatU, SubSatU, AddSatS, SubSatS, Not, Neg, Shl, ShrU, ShrS}
use Rattle.bits_core.specs.declared.operator.OpShape.TheVariants.{Same, Shift, Test}
use Rattle.bits_core.specs.Operator.{WidthsFit, shape_of, result_width, operator_value, test_value}
use Rattle.bits_core.proofs.RowLaws.{operator_value_below, operator_value_test}
use Rattle.taint_domain.specs.declared.tainted.Tainted.{Tainted}
use Rattle.taint_domain.specs.Masks.{HasLeastMask, IsMaskOf}
use Rattle.taint_domain.specs.Results.{ResultOf, TestOf, MasksAll, MasksOnly}
use Rattle.taint_domain.specs.Tainted.{MayBe, IsClear, IsSettledBelow, IsZeroBelow}
use Rattle.taint_domain.proofs.MayBeLemmas.{may_own, clear_may}
use Rattle.taint_domain.proofs.MovedLemmas.{moved_masks_all, moved_masks_only, not_moved, shl_moved, shr_unsigned_moved, shr_signed_moved, shifted_masks_all, shifted_masks_only}
use Rattle.taint_domain.proofs.ResultsLemmas.{masks_all, same_outside_ones}

abbrev pub valued : Op → Tainted → Tainted → ℕ
valued op a b = operator_value op a.number.width a.number.value b.number.width b.number.value

-- ---- clear operands have one result

clear_result : (op : Op) (a b : Tainted) (z : ℕ) → IsClear a → IsClear b → ResultOf op a b z → z ≡ valued op a b
clear_result op a b z p q of =
    of.is ∙ ap (λ (x : ℕ). operator_value op a.number.width x b.number.width of.y) (clear_may a of.x p of.first)
    ∙ ap (operator_value op a.number.width a.number.value b.number.width) (clear_may b of.y q of.second)

no_bits : (m : ℕ) → ((i : ℕ) → bit_at m i ≢ 1) → m ≡ 0
no_bits m none = same_from_bits m 0 (λ i. grind (arith, none i, bit_at-lt m i, bit_at-zero i))

clear_mask : (op : Op) (a b : Tainted) (m : ℕ) → MasksOnly (ResultOf op a b) (valued op a b) m → IsClear a → IsClear b → m ≡ 0
clear_mask op a b m only p q =
    no_bits m (λ i set. let can = only.bits i set in can.differs (ap (λ (n : ℕ). bit_at n i) (clear_result op a b can.z p q can.of)))

-- ---- the ways to a mask

pub least_mask : (op : Op) (a b : Tainted) (m : ℕ) → op ≢ Mul → MasksAll (ResultOf op a b) (valued op a b) m →
    MasksOnly (ResultOf op a b) (valued op a b) m → IsMaskOf op a b m
least_mask op a b m other all only = record {
  all = all;
  only = λ least. only;
  clear = clear_mask op a b m only;
  product = λ is. absurd (other is);
}

pub loose_mask : (op : Op) (a b : Tainted) (m : ℕ) → op ≢ Mul → (HasLeastMask op b → ⊥) →
    MasksAll (ResultOf op a b) (valued op a b) m → (IsClear a → IsClear b → m ≡ 0) → IsMaskOf op a b m
loose_mask op a b m other loose all clear = record {
  all = all;
  only = λ least. absurd (loose least);
  clear = clear;
  product = λ is. absurd (other is);
}

same_below_all : (m n : ℕ) → m ≡ n → (p : ℕ) → m % p ≡ n % p
same_below_all m n e p = ap (λ (k : ℕ). k % p) e

pub product_mask : (a b : Tainted) (m : ℕ) → MasksAll (ResultOf Mul a b) (valued Mul a b) m →
    ((i j k l place : ℕ) → IsSettledBelow a i → IsZeroBelow b j → IsSettledBelow b k → IsZeroBelow a l
    → place < i + j → place < k + l → bit_at m place ≡ 0) → IsMaskOf Mul a b m
product_mask a b m all settled = record {
  all = all;
  only = λ least. absurd least;
  clear = λ p q. same_from_bits m 0 (λ i.
      settled (suc i) 0 (suc i) 0 i (λ x may. same_below_all x a.number.value (clear_may a x p may) (2 ^ suc i)) (λ x may. omega arith)
      (λ x may. same_below_all x b.number.value (clear_may b x q may) (2 ^ suc i)) (λ x may. omega arith) (omega arith) (omega arith)
      ∙ sym (bit_at-zero i));
  product = λ is. settled;
}

-- ---- one operand

pub not_mask : (a b : Tainted) → IsMaskOf Not a b a.mask.value
not_mask a b =
    least_mask Not a b a.mask.value (λ e. absurd (cc))
    (record {
      bits = λ i can. (moved_masks_all (not_moved a)).bits i
          (record { z = can.z; of = record { x = can.of.x; may = can.of.first; is = can.of.is }; differs = can.differs });
    })
    (record {
      bits = λ i set.
          let can = (moved_masks_only (not_moved a)).bits i set in
          record {
            z = can.z;
            of = record { x = can.of.x; y = b.number.value; first = can.of.may; second = may_own b; is = can.of.is };
            differs = can.differs;
          };
    })

-- a negation is what 0 is less the operand
pub neg_mask : (none a b : Tainted) (m : ℕ) → none.number.width ≡ a.number.width → none.number.value ≡ 0 → IsClear none →
    MasksAll (ResultOf Sub none a) (valued Sub none a) m → MasksOnly (ResultOf Sub none a) (valued Sub none a) m → IsMaskOf Neg a b m
neg_mask none a b m width value clear all only =
    let w = a.number.width in
    let own : valued Sub none a ≡ valued Neg a b =
    ap (λ (n : ℕ). operator_value Sub none.number.width n a.number.width a.number.value) value
    ∙ ap (λ (k : ℕ). operator_value Neg k a.number.value b.number.width b.number.value) width in
    let result = λ (x y : ℕ) (may : MayBe none x).
    ap (λ (n : ℕ). operator_value Sub none.number.width n a.number.width y) (clear_may none x clear may ∙ value)
    ∙ ap (λ (k : ℕ). operator_value Neg k y b.number.width b.number.value) width in
    least_mask Neg a b m (λ e. absurd (cc))
    (record {
      bits = λ i can. all.bits i (record {
        z = can.z;
        of = record {
          x = none.number.value;
          y = can.of.x;
          first = may_own none;
          second = can.of.first;
          is = can.of.is ∙ sym (result none.number.value can.of.x (may_own none));
        };
        differs = λ same. can.differs (same ∙ ap (λ (n : ℕ). bit_at n i) own);
      });
    })
    (record {
      bits = λ i set.
          let can = only.bits i set in
          record {
            z = can.z;
            of = record {
              x = can.of.y;
              y = b.number.value;
              first = can.of.second;
              second = may_own b;
              is = can.of.is ∙ result can.of.x can.of.y can.of.first;
            };
            differs = λ same. can.differs (same ∙ ap (λ (n : ℕ). bit_at n i) (sym own));
          };
    })

-- ---- every bit, and shifts

every_masks_all : (op : Op) (a b : Tainted) (m : ℕ) → WidthsFit (shape_of op) a.number.width b.number.width →
    result_width (shape_of op) a.number.width b.number.width ≡ a.number.width → m ≡ 2 ^ a.number.width - 1 →
    MasksAll (ResultOf op a b) (valued op a b) m
every_masks_all op a b m fits width e =
    let w = a.number.width in
    let bound = λ (x y : ℕ) (h : x < 2 ^ w) (k : y < 2 ^ b.number.width).
    subst (λ (n : ℕ). operator_value op w x b.number.width y < 2 ^ n) width (operator_value_below op w x b.number.width y fits h k) in
    subst (MasksAll (ResultOf op a b) (valued op a b)) (sym e)
    (masks_all (ResultOf op a b) (valued op a b) (2 ^ w - 1) (λ z of.
    same_outside_ones w (valued op a b) z (bound a.number.value b.number.value a.number.fits b.number.fits)
    (subst (λ (n : ℕ). n < 2 ^ w) (sym of.is) (bound of.x of.y of.first.fits of.second.fits))))

-- a mask with no bit where the operands are clear, and with every bit else
pub record IsAllOrNone (a b : Tainted) (m : ℕ) : Type 0 where
  pub clear : IsClear a → IsClear b → m ≡ 0
  pub every : ¬ (IsClear a × IsClear b) → m ≡ 2 ^ a.number.width - 1

all_or_none_masks_all : (op : Op) (a b : Tainted) (m : ℕ) → WidthsFit (shape_of op) a.number.width b.number.width →
    result_width (shape_of op) a.number.width b.number.width ≡ a.number.width → IsAllOrNone a b m →
    MasksAll (ResultOf op a b) (valued op a b) m
all_or_none_masks_all op a b m fits width is =
    ⊎_elim
    (λ (p : IsClear a).
    ⊎_elim
    (λ (q : IsClear b).
    masks_all (ResultOf op a b) (valued op a b) m (λ z of.
    record { bits = λ i clear. ap (λ (n : ℕ). bit_at n i) (clear_result op a b z p q of) }))
    (λ (q : IsClear b → ⊥). every_masks_all op a b m fits width (is.every (λ both. q both.1)))
    (cases_eq b.mask.value 0))
    (λ (p : IsClear a → ⊥). every_masks_all op a b m fits width (is.every (λ both. p both.0)))
    (cases_eq a.mask.value 0)

pub saturating_mask : (op : Op) (a b : Tainted) (m : ℕ) → WidthsFit (shape_of op) a.number.width b.number.width →
    shape_of op ≡ Same → op ≢ Mul → (HasLeastMask op b → ⊥) → IsAllOrNone a b m → IsMaskOf op a b m
saturating_mask op a b m fits shape other loose is =
    loose_mask op a b m other loose
    (all_or_none_masks_all op a b m fits (ap (λ s. result_width s a.number.width b.number.width) shape) is) is.clear

pub known_shift_mask : (op : Op) (a b : Tainted) (m : ℕ) → shape_of op ≡ Shift → IsClear b →
    m ≡ operator_value op a.number.width a.mask.value b.number.width b.number.value → IsMaskOf op a b m
known_shift_mask Shl a b m shape clear e =
    subst (IsMaskOf Shl a b) (sym e)
    (least_mask Shl a b _ (λ e. absurd (cc)) (shifted_masks_all Shl a b clear (shl_moved a b)) (shifted_masks_only Shl a b (shl_moved a b)))
known_shift_mask ShrU a b m shape clear e =
    subst (IsMaskOf ShrU a b) (sym e)
    (least_mask ShrU a b _ (λ e. absurd (cc)) (shifted_masks_all ShrU a b clear (shr_unsigned_moved a b))
    (shifted_masks_only ShrU a b (shr_unsigned_moved a b)))
known_shift_mask ShrS a b m shape clear e =
    subst (IsMaskOf ShrS a b) (sym e)
    (least_mask ShrS a b _ (λ e. absurd (cc)) (shifted_masks_all ShrS a b clear (shr_signed_moved a b))
    (shifted_masks_only ShrS a b (shr_signed_moved a b)))
known_shift_mask op a b m shape clear e = absurd (cc)

pub open_shift_mask : (op : Op) (a b : Tainted) (m : ℕ) → shape_of op ≡ Shift → ¬ IsClear b → m ≡ 2 ^ a.number.width - 1 → IsMaskOf op a b m
open_shift_mask Shl a b m shape masked e =
    loose_mask Shl a b m (λ e. absurd (cc)) masked (every_masks_all Shl a b m tt refl e) (λ p q. absurd (masked q))
open_shift_mask ShrU a b m shape masked e =
    loose_mask ShrU a b m (λ e. absurd (cc)) masked (every_masks_all ShrU a b m tt refl e) (λ p q. absurd (masked q))
open_shift_mask ShrS a b m shape masked e =
    loose_mask ShrS a b m (λ e. absurd (cc)) masked (every_masks_all ShrS a b m tt refl e) (λ p q. absurd (masked q))
open_shift_mask op a b m shape masked e = absurd (cc)

-- ---- tests, whose number has one bit

number_of_test : Bool → ℕ
number_of_test t = if t then 1 else 0

bit_of_test : (t : Bool) → bit_at (number_of_test t) 0 ≡ number_of_test t
unfolding number_of_test
bit_of_test true = omega arith
bit_of_test false = omega arith

no_bit_of_test : (t : Bool) (i : ℕ) → 1 ≤ i → bit_at (number_of_test t) i ≡ 0
unfolding number_of_test
no_bit_of_test true i some = bit_at_above 1 1 i (omega arith) some
no_bit_of_test false i some = bit_at_above 0 1 i (omega arith) some

test_is : (op : Op) (w x v y : ℕ) → shape_of op ≡ Test → operator_value op w x v y ≡ number_of_test (test_value op w x y)
unfolding number_of_test
test_is op w x v y shape = operator_value_test op w x v y shape

other_test : (s t : Bool) → number_of_test s ≢ number_of_test t → s ≡ not t
unfolding number_of_test
other_test true true differs = absurd (differs refl)
other_test true false differs = refl
other_test false true differs = refl
other_test false false differs = absurd (differs refl)

one_if : (r : Bool) (m : ℕ) → m ≡ number_of_test r → r ≡ true → m ≡ 1
unfolding number_of_test
one_if r m e is = e ∙ ap (λ s. if s then 1 else 0) is

not_same : (t : Bool) → number_of_test (not t) ≢ number_of_test t
unfolding number_of_test
not_same true e = absurd (omega arith)
not_same false e = absurd (omega arith)

set_if : (r : Bool) (m i : ℕ) → m ≡ number_of_test r → bit_at m i ≡ 1 → (r ≡ true) × (i ≡ 0)
unfolding number_of_test
set_if true m zero e set = (refl, refl)
set_if true m (suc i) e set = absurd (omega (arith, no_bit_of_test true (suc i) (omega arith), ap (λ (n : ℕ). bit_at n (suc i)) e))
set_if false m i e set = absurd (omega (arith, bit_at-zero i, ap (λ (n : ℕ). bit_at n i) e))

test_mask_by : (op : Op) (a b : Tainted) (m : ℕ) (r : Bool) → shape_of op ≡ Test → op ≢ Mul → m ≡ number_of_test r →
    (IsTrue r ↔ TestOf op a b (not (test_value op a.number.width a.number.value b.number.value))) → IsMaskOf op a b m
test_mask_by op a b m r shape other e told =
    let w = a.number.width in
    let own = test_value op w a.number.value b.number.value in
    let own_is : valued op a b ≡ number_of_test own = test_is op w a.number.value b.number.width b.number.value shape in
    least_mask op a b m other
    (record {
      bits = λ i can.
          let u = test_value op w can.of.x can.of.y in
          let z_is : can.z ≡ number_of_test u = can.of.is ∙ test_is op w can.of.x b.number.width can.of.y shape in
          let differs : number_of_test u ≢ number_of_test own =
          λ same. can.differs (ap (λ (n : ℕ). bit_at n i) (z_is ∙ same ∙ sym own_is)) in
          let is : r ≡ true = told.1 (record {
            x = can.of.x;
            y = can.of.y;
            first = can.of.first;
            second = can.of.second;
            is = sym (other_test u own differs);
          }) in
          ⊎_elim
          (λ (low : i < 1). omega (arith, one_if r m e is, bit_at_lowest m, place_zero m i low))
          (λ (high : 1 ≤ i).
          absurd (can.differs (ap (λ (n : ℕ). bit_at n i) z_is ∙ no_bit_of_test u i high
          ∙ sym (ap (λ (n : ℕ). bit_at n i) own_is ∙ no_bit_of_test own i high))))
          (cases_lt i 1);
    })
    (record {
      bits = λ i set.
          let is = set_if r m i e set in
          let of = told.0 is.0 in
          let u = test_value op w of.x of.y in
          let z_is : operator_value op w of.x b.number.width of.y ≡ number_of_test (not own) =
          test_is op w of.x b.number.width of.y shape ∙ ap number_of_test (sym of.is) in
          record {
            z = operator_value op w of.x b.number.width of.y;
            of = record { x = of.x; y = of.y; first = of.first; second = of.second; is = refl };
            differs = λ same. not_same own
                (sym (ap (λ (n : ℕ). bit_at n i) z_is ∙ ap (bit_at (number_of_test (not own))) is.1 ∙ bit_of_test (not own))
                ∙ same ∙ ap (λ (n : ℕ). bit_at n i) own_is ∙ ap (bit_at (number_of_test own)) is.1 ∙ bit_of_test own);
          };
    })
  where
    place_zero : (m i : ℕ) → i < 1 → bit_at m i ≡ bit_at m 0
    place_zero m i low = ap (bit_at m) (let e : i ≡ 0 = omega arith in e)

pub test_mask : (op : Op) (a b : Tainted) (m : ℕ) (r : Bool) → shape_of op ≡ Test → op ≢ Mul → m ≡ (if r then 1 else 0) →
    (IsTrue r ↔ TestOf op a b (not (test_value op a.number.width a.number.value b.number.value))) → IsMaskOf op a b m
unfolding number_of_test
test_mask op a b m r shape other e told = test_mask_by op a b m r shape other e told

pub no_product : (op : Op) → shape_of op ≡ Test → op ≢ Mul
no_product Mul shape e = absurd (cc)
no_product op shape e = absurd (cc)

pub saturating_row : (op : Op) (a b : Tainted) (m : ℕ) → WidthsFit (shape_of op) a.number.width b.number.width →
    (op ≡ AddSatU) ⊎ ((op ≡ SubSatU) ⊎ ((op ≡ AddSatS) ⊎ (op ≡ SubSatS))) → IsAllOrNone a b m → IsMaskOf op a b m
saturating_row op a b m fits row is =
    let P : Op → Type 0 = λ o. WidthsFit (shape_of o) a.number.width b.number.width → IsMaskOf o a b m in
    let of = λ (o : Op) (shape : shape_of o ≡ Same) (other : o ≢ Mul) (loose : HasLeastMask o b → ⊥) (e : op ≡ o).
    subst P (sym e) (λ h. saturating_mask o a b m h shape other loose is) fits in
    ⊎_elim (of AddSatU refl (λ e. absurd (cc)) (λ h. h))
    (⊎_elim (of SubSatU refl (λ e. absurd (cc)) (λ h. h))
    (⊎_elim (of AddSatS refl (λ e. absurd (cc)) (λ h. h)) (of SubSatS refl (λ e. absurd (cc)) (λ h. h))))
    row
