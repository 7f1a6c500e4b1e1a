-- Operations that move bits, or turn them round, move the mask with them.
use Rattle.std.proofs.Common.{◌≡◌, ℕ, ◌+◌, ◌-◌, ◌^◌, ◌<◌, ◌≤◌, Bool, true, false, min, refl, sym, ap, ◌∙◌, subst, arith, ⊎_elim}
use Rattle.std.specs.Prelude.{pos, nat_lt, if◌then◌else◌}
use Rattle.std.specs.Int.{bit_at}
use Rattle.std.proofs.lemmas.Bool.{cases_lt}
use Rattle.std.proofs.lemmas.Nat.{pow_pos, mod_below}
use Rattle.std.proofs.lemmas.Nat.Bits.{bit_at_cat_low, bit_at_cat_high, bit_at-lt}
use Rattle.bits_core.specs.declared.operator.Op.{Op}
use Rattle.bits_core.specs.declared.operator.Op.TheVariants.{Not, Shl, ShrU, ShrS, Cat}
use Rattle.bits_core.specs.Number.{slice_value, extend_value, signed_value}
use Rattle.bits_core.specs.Operator.{operator_value}
use Rattle.bits_core.proofs.PlaceLaws.{bit_at_turned, bit_at_slice_value, bit_at_extend_value_unsigned, bit_at_extend_value_signed, bit_at_shl, bit_at_shr, bit_at_shr_signed}
use Rattle.bits_core.proofs.RowLaws.{operator_value_below}
use Rattle.bits_core.proofs.WidthLaws.{wrapped_below}
use Rattle.taint_domain.specs.declared.tainted.Tainted.{Tainted}
use Rattle.taint_domain.specs.Results.{ResultOf, ImageOf, MasksAll, MasksOnly}
use Rattle.taint_domain.specs.Tainted.{IsSameOutside, MayBe, IsClear}
use Rattle.taint_domain.proofs.MayBeLemmas.{mask_fits, place_within, may_own, clear_may, flipped, flipped_differs, may_flipped}
use Rattle.taint_domain.proofs.ResultsLemmas.{masks_all, same_outside_below}

-- f gives at each of its places below `out` what h gives of the operand's bit at one place, and the mask has the bit of that place
pub record IsMoved (f : ℕ → ℕ) (v : Tainted) (mask out : ℕ) (from : ℕ → ℕ) (h : ℕ → ℕ) : Type 0 where
  pub fits : (z : ℕ) → z < 2 ^ v.number.width → f z < 2 ^ out
  pub place : (z i : ℕ) → z < 2 ^ v.number.width → i < out → bit_at (f z) i ≡ h (bit_at z (from i))
  pub masked : (i : ℕ) → i < out → bit_at mask i ≡ bit_at v.mask.value (from i)
  pub mask_fits : mask < 2 ^ out
  pub differs : (b c : ℕ) → b < 2 → c < 2 → h b ≡ h c → b ≡ c

pub moved_masks_all : {f : ℕ → ℕ} {v : Tainted} {mask out : ℕ} {from h : ℕ → ℕ} → IsMoved f v mask out from h →
    MasksAll (ImageOf f v) (f v.number.value) mask
moved_masks_all {f} {v} {mask} {out} {from} {h} moved =
    masks_all (ImageOf f v) (f v.number.value) mask (λ z of.
    subst (IsSameOutside mask (f v.number.value)) (sym of.is)
    (same_outside_below out mask (f v.number.value) (f of.x) (moved.fits v.number.value v.number.fits) (moved.fits of.x of.may.fits)
    (λ i within clear.
    moved.place of.x i of.may.fits within
    ∙ ap h (of.may.outside.bits (from i) (sym (moved.masked i within) ∙ clear))
    ∙ sym (moved.place v.number.value i v.number.fits within))))

pub moved_masks_only : {f : ℕ → ℕ} {v : Tainted} {mask out : ℕ} {from h : ℕ → ℕ} → IsMoved f v mask out from h →
    MasksOnly (ImageOf f v) (f v.number.value) mask
moved_masks_only {f} {v} {mask} {out} {from} {h} moved = record {
  bits = λ i set.
      let n = v.number.value in
      let within : i < out = place_within out mask i moved.mask_fits set in
      let bit : bit_at v.mask.value (from i) ≡ 1 = sym (moved.masked i within) ∙ set in
      let x = flipped n (from i) in
      let may : MayBe v x = may_flipped v (from i) bit in
      record {
        z = f x;
        of = record { x = x; may = may; is = refl };
        differs = λ same.
            flipped_differs n (from i)
            (moved.differs (bit_at x (from i)) (bit_at n (from i)) (bit_at-lt x (from i)) (bit_at-lt n (from i))
            (sym (moved.place x i may.fits within) ∙ same ∙ moved.place n i v.number.fits within));
      };
}

unchanged : (b c : ℕ) → b < 2 → c < 2 → b ≡ c → b ≡ c
unchanged b c p q e = e

-- ---- parts of a value

pub not_moved : (v : Tainted) → IsMoved (λ x. operator_value Not v.number.width x 0 0) v v.mask.value v.number.width (λ i. i) (λ b. 1 - b)
not_moved v = record {
  fits = λ z h. omega (arith, pow_pos v.number.width);
  place = λ z i h within. bit_at_turned v.number.width z i h within;
  masked = λ i within. refl;
  mask_fits = mask_fits v;
  differs = λ b c p q e. omega arith;
}

pub slice_moved : (v : Tainted) (high low : ℕ) →
    IsMoved (λ x. slice_value x high low) v (slice_value v.mask.value high low) (high - low + 1) (λ i. low + i) (λ b. b)
slice_moved v high low =
    let n = high - low + 1 in
    record {
      fits = λ z h. mod_below _ (2 ^ n) (pow_pos n);
      place = λ z i h within. bit_at_slice_value z high low i within;
      masked = λ i within. bit_at_slice_value v.mask.value high low i within;
      mask_fits = mod_below _ (2 ^ n) (pow_pos n);
      differs = unchanged;
    }

abbrev pub extended_from : Bool → ℕ → ℕ → ℕ
extended_from signed w i = if signed then min i (w - 1) else i

pub extend_moved : (signed : Bool) (v : Tainted) (width : ℕ) →
    IsMoved (λ x. extend_value signed v.number.width x width) v (extend_value signed v.number.width v.mask.value width) width
    (extended_from signed v.number.width) (λ b. b)
extend_moved true v width =
    let w = v.number.width in
    record {
      fits = λ z h. wrapped_below width (signed_value w z);
      place = λ z i h within. bit_at_extend_value_signed w z width i v.number.some_bit h within;
      masked = λ i within. bit_at_extend_value_signed w v.mask.value width i v.number.some_bit (mask_fits v) within;
      mask_fits = wrapped_below width (signed_value w v.mask.value);
      differs = unchanged;
    }
extend_moved false v width =
    let w = v.number.width in
    record {
      fits = λ z h. wrapped_below width (pos z);
      place = λ z i h within. bit_at_extend_value_unsigned w z width i within;
      masked = λ i within. bit_at_extend_value_unsigned w v.mask.value width i within;
      mask_fits = wrapped_below width (pos v.mask.value);
      differs = unchanged;
    }

-- ---- shifts by a known amount

abbrev pub shifted_value : Op → Tainted → Tainted → ℕ → ℕ
shifted_value op a b x = operator_value op a.number.width x b.number.width b.number.value

pub shl_moved : (a b : Tainted) → IsMoved (shifted_value Shl a b) a (shifted_value Shl a b a.mask.value) a.number.width
    (λ i. if nat_lt i (min b.number.value a.number.width) then a.number.width else (i - min b.number.value a.number.width)) (λ n. n)
shl_moved a b =
    let w = a.number.width in
    let m = min b.number.value w in
    record {
      fits = λ z h. operator_value_below Shl w z b.number.width b.number.value tt h b.number.fits;
      place = λ z i h within. bit_at_shl w z m i h within;
      masked = λ i within. bit_at_shl w a.mask.value m i (mask_fits a) within;
      mask_fits = operator_value_below Shl w a.mask.value b.number.width b.number.value tt (mask_fits a) b.number.fits;
      differs = unchanged;
    }

pub shr_unsigned_moved : (a b : Tainted) → IsMoved (shifted_value ShrU a b) a (shifted_value ShrU a b a.mask.value) a.number.width
    (λ i. min b.number.value a.number.width + i) (λ n. n)
shr_unsigned_moved a b =
    let w = a.number.width in
    let m = min b.number.value w in
    record {
      fits = λ z h. operator_value_below ShrU w z b.number.width b.number.value tt h b.number.fits;
      place = λ z i h within. bit_at_shr z m i;
      masked = λ i within. bit_at_shr a.mask.value m i;
      mask_fits = operator_value_below ShrU w a.mask.value b.number.width b.number.value tt (mask_fits a) b.number.fits;
      differs = unchanged;
    }

pub shr_signed_moved : (a b : Tainted) → IsMoved (shifted_value ShrS a b) a (shifted_value ShrS a b a.mask.value) a.number.width
    (λ i. min (min b.number.value a.number.width + i) (a.number.width - 1)) (λ n. n)
shr_signed_moved a b =
    let w = a.number.width in
    let m = min b.number.value w in
    record {
      fits = λ z h. operator_value_below ShrS w z b.number.width b.number.value tt h b.number.fits;
      place = λ z i h within. bit_at_shr_signed w z m i a.number.some_bit h within;
      masked = λ i within. bit_at_shr_signed w a.mask.value m i a.number.some_bit (mask_fits a) within;
      mask_fits = operator_value_below ShrS w a.mask.value b.number.width b.number.value tt (mask_fits a) b.number.fits;
      differs = unchanged;
    }

-- where the second operand is clear, a result is an image of the first
pub image_of_result : (op : Op) (a b : Tainted) (z : ℕ) → IsClear b → ResultOf op a b z → ImageOf (shifted_value op a b) a z
image_of_result op a b z clear of = record {
  x = of.x;
  may = of.first;
  is = of.is ∙ ap (λ (y : ℕ). operator_value op a.number.width of.x b.number.width y) (clear_may b of.y clear of.second);
}

pub result_of_image : (op : Op) (a b : Tainted) (z : ℕ) → ImageOf (shifted_value op a b) a z → ResultOf op a b z
result_of_image op a b z of = record { x = of.x; y = b.number.value; first = of.may; second = may_own b; is = of.is }

pub shifted_masks_all : (op : Op) (a b : Tainted) {mask out : ℕ} {from h : ℕ → ℕ} → IsClear b →
    IsMoved (shifted_value op a b) a mask out from h → MasksAll (ResultOf op a b) (shifted_value op a b a.number.value) mask
shifted_masks_all op a b clear moved = record {
  bits = λ i can. (moved_masks_all moved).bits i
      (record { z = can.z; of = image_of_result op a b can.z clear can.of; differs = can.differs });
}

pub shifted_masks_only : (op : Op) (a b : Tainted) {mask out : ℕ} {from h : ℕ → ℕ} →
    IsMoved (shifted_value op a b) a mask out from h → MasksOnly (ResultOf op a b) (shifted_value op a b a.number.value) mask
shifted_masks_only op a b moved = record {
  bits = λ i set.
      let can = (moved_masks_only moved).bits i set in
      record { z = can.z; of = result_of_image op a b can.z can.of; differs = can.differs };
}

-- ---- joins

abbrev pub joined : Tainted → Tainted → ℕ → ℕ → ℕ
joined a b x y = operator_value Cat a.number.width x b.number.width y

pub cat_masks_all : (a b : Tainted) →
    MasksAll (ResultOf Cat a b) (joined a b a.number.value b.number.value) (joined a b a.mask.value b.mask.value)
cat_masks_all a b =
    let v = b.number.width in
    let n = a.number.value in
    let k = b.number.value in
    masks_all (ResultOf Cat a b) (joined a b n k) (joined a b a.mask.value b.mask.value) (λ z of.
    subst (IsSameOutside (joined a b a.mask.value b.mask.value) (joined a b n k)) (sym of.is)
    (record {
      bits = λ i clear.
          ⊎_elim
          (λ (low : i < v).
          bit_at_cat_low of.x v of.y i low
          ∙ of.second.outside.bits i (sym (bit_at_cat_low a.mask.value v b.mask.value i low) ∙ clear)
          ∙ sym (bit_at_cat_low n v k i low))
          (λ (high : v ≤ i).
          bit_at_cat_high of.x v of.y i of.second.fits high
          ∙ of.first.outside.bits (i - v) (sym (bit_at_cat_high a.mask.value v b.mask.value i (mask_fits b) high) ∙ clear)
          ∙ sym (bit_at_cat_high n v k i b.number.fits high))
          (cases_lt i v);
    }))

pub cat_masks_only : (a b : Tainted) →
    MasksOnly (ResultOf Cat a b) (joined a b a.number.value b.number.value) (joined a b a.mask.value b.mask.value)
cat_masks_only a b = record {
  bits = λ i set.
      let v = b.number.width in
      let n = a.number.value in
      let k = b.number.value in
      ⊎_elim
      (λ (low : i < v).
      let y = flipped k i in
      let may : MayBe b y = may_flipped b i (sym (bit_at_cat_low a.mask.value v b.mask.value i low) ∙ set) in
      record {
        z = joined a b n y;
        of = record { x = n; y = y; first = may_own a; second = may; is = refl };
        differs = λ same. flipped_differs k i (sym (bit_at_cat_low n v y i low) ∙ same ∙ bit_at_cat_low n v k i low);
      })
      (λ (high : v ≤ i).
      let x = flipped n (i - v) in
      let may : MayBe a x = may_flipped a (i - v) (sym (bit_at_cat_high a.mask.value v b.mask.value i (mask_fits b) high) ∙ set) in
      record {
        z = joined a b x k;
        of = record { x = x; y = k; first = may; second = may_own b; is = refl };
        differs = λ same.
            flipped_differs n (i - v)
            (sym (bit_at_cat_high x v k i b.number.fits high) ∙ same ∙ bit_at_cat_high n v k i b.number.fits high);
      })
      (cases_lt i v);
}
