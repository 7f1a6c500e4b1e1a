-- The masks of operators that work bit by bit: a bit of a conjunction is masked where both operands may be 1 and one of them
-- may differ, and a disjunction is a conjunction with all turned round.
use Rattle.std.proofs.Common.{◌≡◌, ◌≢◌, ℕ, ◌+◌, ◌-◌, ◌%◌, ◌^◌, ◌<◌, ◌≤◌, refl, sym, ap, ◌∙◌, subst, arith, ◌⊎◌, inl, inr, ⊎_elim}
use Rattle.std.specs.Prelude.{min, max, bit_and, bit_or, bit_xor}
use Rattle.std.specs.Int.{bit_at}
use Rattle.std.proofs.lemmas.Bool.{cases_lt}
use Rattle.std.proofs.lemmas.Nat.{pow_pos, and_le_l, or_lt}
use Rattle.std.proofs.lemmas.Nat.Bits.{bit_at_above, bit_at_and, bit_at_or, bit_at_xor, bit_at-lt, same_from_bits_below}
use Rattle.bits_core.specs.declared.operator.Op.TheVariants.{And, Or, Xor}
use Rattle.bits_core.proofs.PlaceLaws.{bit_at_turned}
use Rattle.taint_domain.specs.declared.tainted.Tainted.{Tainted}
use Rattle.taint_domain.specs.Results.{ResultOf, CanDiffer, MasksAll, MasksOnly}
use Rattle.taint_domain.specs.Tainted.{IsSameOutside, MayBe}
use Rattle.taint_domain.proofs.MayBeLemmas.{may_own, may_have_bit, flipped, flipped_same, may_flipped}
use Rattle.taint_domain.proofs.ResultsLemmas.{masks_all}

-- ---- exclusive or

pub xor_masks_all : (a b : Tainted) →
    MasksAll (ResultOf Xor a b) (bit_xor a.number.value b.number.value) (bit_or a.mask.value b.mask.value)
xor_masks_all a b =
    let n = a.number.value in
    let k = b.number.value in
    let mask = bit_or a.mask.value b.mask.value in
    masks_all (ResultOf Xor a b) (bit_xor n k) mask (λ z of.
    subst (IsSameOutside mask (bit_xor n k)) (sym of.is) (record {
      bits = λ i clear.
          let masks : max (bit_at a.mask.value i) (bit_at b.mask.value i) ≡ 0 = sym (bit_at_or a.mask.value b.mask.value i) ∙ clear in
          let p : bit_at of.x i ≡ bit_at n i = of.first.outside.bits i (omega arith) in
          let q : bit_at of.y i ≡ bit_at k i = of.second.outside.bits i (omega arith) in
          bit_at_xor of.x of.y i ∙ ap (λ (b : ℕ). (b + bit_at of.y i) % 2) p ∙ ap (λ (b : ℕ). (bit_at n i + b) % 2) q
          ∙ sym (bit_at_xor n k i);
    }))

pub xor_masks_only : (a b : Tainted) →
    MasksOnly (ResultOf Xor a b) (bit_xor a.number.value b.number.value) (bit_or a.mask.value b.mask.value)
xor_masks_only a b = record {
  bits = λ i set.
      let n = a.number.value in
      let k = b.number.value in
      let masks : max (bit_at a.mask.value i) (bit_at b.mask.value i) ≡ 1 = sym (bit_at_or a.mask.value b.mask.value i) ∙ set in
      ⊎_elim
      (λ (clear : bit_at a.mask.value i < 1). record {
        z = bit_xor n (flipped k i);
        of = record { x = n; y = flipped k i; first = may_own a; second = may_flipped b i (omega arith); is = refl };
        differs = λ same.
            absurd (omega (arith, bit_at_xor n (flipped k i) i, bit_at_xor n k i, flipped_same k i, bit_at-lt n i, bit_at-lt k i));
      })
      (λ (masked : 1 ≤ bit_at a.mask.value i). record {
        z = bit_xor (flipped n i) k;
        of = record {
          x = flipped n i;
          y = k;
          first = may_flipped a i (omega (arith, bit_at-lt a.mask.value i));
          second = may_own b;
          is = refl;
        };
        differs = λ same.
            absurd (omega (arith, bit_at_xor (flipped n i) k i, bit_at_xor n k i, flipped_same n i, bit_at-lt n i, bit_at-lt k i));
      })
      (cases_lt (bit_at a.mask.value i) 1);
}

-- ---- conjunction

pub and_mask : Tainted → Tainted → ℕ
and_mask a b =
    bit_and (bit_or a.mask.value b.mask.value)
    (bit_and (bit_or a.number.value a.mask.value) (bit_or b.number.value b.mask.value))

pub and_mask_is : (a b : Tainted) → and_mask a b
    ≡ bit_and (bit_or a.mask.value b.mask.value)
    (bit_and (bit_or a.number.value a.mask.value) (bit_or b.number.value b.mask.value))
unfolding and_mask
and_mask_is a b = refl

bit_at_and_mask : (a b : Tainted) (i : ℕ) → bit_at (and_mask a b) i
    ≡ min (max (bit_at a.mask.value i) (bit_at b.mask.value i))
    (min (max (bit_at a.number.value i) (bit_at a.mask.value i)) (max (bit_at b.number.value i) (bit_at b.mask.value i)))
unfolding and_mask
bit_at_and_mask a b i =
    let n = a.number.value in
    let k = b.number.value in
    let m = a.mask.value in
    let o = b.mask.value in
    bit_at_and (bit_or m o) (bit_and (bit_or n m) (bit_or k o)) i
    ∙ ap (λ (p : ℕ). min p (bit_at (bit_and (bit_or n m) (bit_or k o)) i)) (bit_at_or m o i)
    ∙ ap (min (max (bit_at m i) (bit_at o i)))
    (bit_at_and (bit_or n m) (bit_or k o) i
    ∙ ap (λ (p : ℕ). min p (bit_at (bit_or k o) i)) (bit_at_or n m i)
    ∙ ap (min (max (bit_at n i) (bit_at m i))) (bit_at_or k o i))

-- the bits at one place: x is n where m is clear, y is k where o is
settled_place : (m n x o k y : ℕ) → (m ≡ 1) ⊎ (x ≡ n) → (o ≡ 1) ⊎ (y ≡ k) → x < 2 → y < 2 →
    min (max m o) (min (max n m) (max k o)) ≡ 0 → min x y ≡ min n k
settled_place m n x o k y (inl p) (inl q) b c clear = omega arith
settled_place m n x o k y (inl p) (inr q) b c clear = omega arith
settled_place m n x o k y (inr p) (inl q) b c clear = omega arith
settled_place m n x o k y (inr p) (inr q) b c clear = ap (λ (z : ℕ). min z y) p ∙ ap (min n) q

masked_or_same : (m n x i : ℕ) → IsSameOutside m n x → (bit_at m i ≡ 1) ⊎ (bit_at x i ≡ bit_at n i)
masked_or_same m n x i same =
    ⊎_elim
    (λ (clear : bit_at m i < 1). inr (same.bits i (omega arith)))
    (λ (set : 1 ≤ bit_at m i). inl (omega (arith, bit_at-lt m i)))
    (cases_lt (bit_at m i) 1)

pub and_masks_all : (a b : Tainted) → MasksAll (ResultOf And a b) (bit_and a.number.value b.number.value) (and_mask a b)
and_masks_all a b =
    let n = a.number.value in
    let k = b.number.value in
    masks_all (ResultOf And a b) (bit_and n k) (and_mask a b) (λ z of.
    subst (IsSameOutside (and_mask a b) (bit_and n k)) (sym of.is) (record {
      bits = λ i clear.
          bit_at_and of.x of.y i
          ∙ settled_place _ _ _ _ _ _ (masked_or_same a.mask.value n of.x i of.first.outside)
          (masked_or_same b.mask.value k of.y i of.second.outside) (bit_at-lt of.x i) (bit_at-lt of.y i)
          (sym (bit_at_and_mask a b i) ∙ clear)
          ∙ sym (bit_at_and n k i);
    }))

-- a place where the masked operand gets the bit p, and the other one q, of which the conjunction is not that of the numbers
and_other : (a b : Tainted) (i p q : ℕ) → p < 2 → q < 2 → (bit_at a.mask.value i ≡ 0 → p ≡ bit_at a.number.value i) →
    (bit_at b.mask.value i ≡ 0 → q ≡ bit_at b.number.value i) →
    min p q ≢ min (bit_at a.number.value i) (bit_at b.number.value i) →
    CanDiffer (ResultOf And a b) (bit_and a.number.value b.number.value) i
and_other a b i p q sp sq own other differs =
    let first = may_have_bit a i p sp own in
    let second = may_have_bit b i q sq other in
    record {
      z = bit_and first.0 second.0;
      of = record { x = first.0; y = second.0; first = first.1; second = second.1; is = refl };
      differs = λ same.
          differs
          (ap (λ (n : ℕ). min n q) (sym first.2) ∙ ap (min (bit_at first.0 i)) (sym second.2)
          ∙ sym (bit_at_and first.0 second.0 i) ∙ same ∙ bit_at_and a.number.value b.number.value i);
    }

pub and_masks_only : (a b : Tainted) → MasksOnly (ResultOf And a b) (bit_and a.number.value b.number.value) (and_mask a b)
and_masks_only a b = record {
  bits = λ i set.
      let n = bit_at a.number.value i in
      let k = bit_at b.number.value i in
      let m = bit_at a.mask.value i in
      let o = bit_at b.mask.value i in
      let bits : min (max m o) (min (max n m) (max k o)) ≡ 1 = sym (bit_at_and_mask a b i) ∙ set in
      let small : (n < 2) × (k < 2) × (m < 2) × (o < 2) =
      (bit_at-lt a.number.value i, bit_at-lt b.number.value i, bit_at-lt a.mask.value i, bit_at-lt b.mask.value i) in
      ⊎_elim
      (λ (zero : min n k < 1).
      and_other a b i 1 1 (omega arith) (omega arith) (λ clear. omega (arith, small.0)) (λ clear. omega (arith, small.1))
      (λ same. absurd (omega arith)))
      (λ (one : 1 ≤ min n k).
      ⊎_elim
      (λ (clear : m < 1).
      and_other a b i n 0 small.0 (omega arith) (λ none. refl) (λ none. absurd (omega arith)) (λ same. absurd (omega arith)))
      (λ (masked : 1 ≤ m).
      and_other a b i 0 k (omega arith) small.1 (λ none. absurd (omega arith)) (λ none. refl) (λ same. absurd (omega arith)))
      (cases_lt m 1))
      (cases_lt (min n k) 1);
}

-- ---- disjunction

turn : ℕ → ℕ → ℕ
turn w z = 2 ^ w - 1 - z

-- one value is the other with each bit turned round
pub record IsComplement (v c : Tainted) : Type 0 where
  pub width : c.number.width ≡ v.number.width
  pub value : c.number.value ≡ 2 ^ v.number.width - 1 - v.number.value
  pub mask : c.mask ≡ v.mask

turn_turn : (w z : ℕ) → z < 2 ^ w → turn w (turn w z) ≡ z
unfolding turn
turn_turn w z fits = omega arith

turn_fits : (w z : ℕ) → turn w z < 2 ^ w
unfolding turn
turn_fits w z = omega (arith, pow_pos w)

bit_at_turn : (w z i : ℕ) → z < 2 ^ w → i < w → bit_at (turn w z) i ≡ 1 - bit_at z i
unfolding turn
bit_at_turn w z i fits within = bit_at_turned w z i fits within

turn_same : (w z u i : ℕ) → z < 2 ^ w → u < 2 ^ w → bit_at z i ≡ bit_at u i → bit_at (turn w z) i ≡ bit_at (turn w u) i
turn_same w z u i p q same =
    ⊎_elim
    (λ (within : i < w). bit_at_turn w z i p within ∙ ap (λ (b : ℕ). 1 - b) same ∙ sym (bit_at_turn w u i q within))
    (λ (above : w ≤ i). bit_at_above (turn w z) w i (turn_fits w z) above ∙ sym (bit_at_above (turn w u) w i (turn_fits w u) above))
    (cases_lt i w)

own_turn : (v c : Tainted) → IsComplement v c → c.number.value ≡ turn v.number.width v.number.value
unfolding turn
own_turn v c complement = complement.value

may_turn : (v c : Tainted) (x : ℕ) → IsComplement v c → MayBe v x → MayBe c (turn v.number.width x)
may_turn v c x complement may =
    let w = v.number.width in
    record {
      fits = subst (λ (k : ℕ). turn w x < 2 ^ k) (sym complement.width) (turn_fits w x);
      outside = record {
        bits = λ i clear.
            let open_bit : bit_at v.mask.value i ≡ 0 = sym (ap (λ m. bit_at m.value i) complement.mask) ∙ clear in
            turn_same w x v.number.value i may.fits v.number.fits (may.outside.bits i open_bit)
            ∙ ap (λ (n : ℕ). bit_at n i) (sym (own_turn v c complement));
      };
    }

complement_back : (v c : Tainted) → IsComplement v c → IsComplement c v
complement_back v c complement =
    let same : 2 ^ c.number.width ≡ 2 ^ v.number.width = ap (λ (w : ℕ). 2 ^ w) complement.width in
    record {
      width = sym complement.width;
      value = omega (arith, v.number.fits);
      mask = sym complement.mask;
    }

or_is_turned : (w x y : ℕ) → x < 2 ^ w → y < 2 ^ w → bit_or x y ≡ turn w (bit_and (turn w x) (turn w y))
or_is_turned w x y p q =
    let both = bit_and (turn w x) (turn w y) in
    let small : both < 2 ^ w = omega (arith, turn_fits w x, and_le_l (turn w x) (turn w y)) in
    same_from_bits_below w (bit_or x y) (turn w both) (or_lt w x y p q) (turn_fits w both)
    (λ i within.
    bit_at_or x y i
    ∙ most_turned (bit_at x i) (bit_at y i) (bit_at-lt x i) (bit_at-lt y i)
    ∙ ap (λ (b : ℕ). 1 - min b (1 - bit_at y i)) (sym (bit_at_turn w x i p within))
    ∙ ap (λ (b : ℕ). 1 - min (bit_at (turn w x) i) b) (sym (bit_at_turn w y i q within))
    ∙ ap (λ (b : ℕ). 1 - b) (sym (bit_at_and (turn w x) (turn w y) i))
    ∙ sym (bit_at_turn w both i small within))
  where
    most_turned : (x y : ℕ) → x < 2 → y < 2 → max x y ≡ 1 - min (1 - x) (1 - y)
    most_turned x y p q = omega arith

-- what a disjunction may be is what the conjunction of the complements may be, turned round, and the same bits differ
module _ (a b c d : Tainted) (width : a.number.width ≡ b.number.width) (first : IsComplement a c) (second : IsComplement b d) where
  abbrev w_of : ℕ
  w_of = a.number.width

  second_fits : (y : ℕ) → y < 2 ^ b.number.width → y < 2 ^ w_of
  second_fits y h = subst (λ (k : ℕ). y < 2 ^ k) (sym width) h

  own_turned : bit_or a.number.value b.number.value ≡ turn w_of (bit_and c.number.value d.number.value)
  own_turned =
      or_is_turned w_of a.number.value b.number.value a.number.fits (second_fits b.number.value b.number.fits)
      ∙ ap (λ (n : ℕ). turn w_of (bit_and n (turn w_of b.number.value))) (sym (own_turn a c first))
      ∙ ap (λ (n : ℕ). turn w_of (bit_and c.number.value n))
      (ap (λ (k : ℕ). turn k b.number.value) width ∙ sym (own_turn b d second))

  both_fit : (u v : ℕ) → u < 2 ^ c.number.width → bit_and u v < 2 ^ w_of
  both_fit u v h = let e : 2 ^ c.number.width ≡ 2 ^ w_of = ap (λ (k : ℕ). 2 ^ k) first.width in omega (arith, and_le_l u v)

  pub or_masks_all : (m : ℕ) → MasksAll (ResultOf And c d) (bit_and c.number.value d.number.value) m →
      MasksAll (ResultOf Or a b) (bit_or a.number.value b.number.value) m
  or_masks_all m all = record {
    bits = λ i can.
        let x = can.of.x in
        let y = can.of.y in
        let u = bit_and (turn w_of x) (turn w_of y) in
        let fx : MayBe c (turn w_of x) = may_turn a c x first can.of.first in
        let fy : MayBe d (turn w_of y) = subst (λ (k : ℕ). MayBe d (turn k y)) (sym width) (may_turn b d y second can.of.second) in
        all.bits i (record {
          z = u;
          of = record { x = turn w_of x; y = turn w_of y; first = fx; second = fy; is = refl };
          differs = λ same.
              can.differs
              (ap (λ (n : ℕ). bit_at n i) (can.of.is ∙ or_is_turned w_of x y can.of.first.fits (second_fits y can.of.second.fits))
              ∙ turn_same w_of u (bit_and c.number.value d.number.value) i
              (both_fit (turn w_of x) (turn w_of y) fx.fits) (both_fit c.number.value d.number.value c.number.fits) same
              ∙ ap (λ (n : ℕ). bit_at n i) (sym own_turned));
        });
  }

  pub or_masks_only : (m : ℕ) → MasksOnly (ResultOf And c d) (bit_and c.number.value d.number.value) m →
      MasksOnly (ResultOf Or a b) (bit_or a.number.value b.number.value) m
  or_masks_only m only = record {
    bits = λ i set.
        let can = only.bits i set in
        let x = can.of.x in
        let y = can.of.y in
        let fits_x : x < 2 ^ w_of = subst (λ (k : ℕ). x < 2 ^ k) first.width can.of.first.fits in
        let fits_y : y < 2 ^ w_of = second_fits y (subst (λ (k : ℕ). y < 2 ^ k) second.width can.of.second.fits) in
        let fx : MayBe a (turn w_of x) =
        subst (λ (k : ℕ). MayBe a (turn k x)) first.width (may_turn c a x (complement_back a c first) can.of.first) in
        let fy : MayBe b (turn w_of y) =
        subst (λ (k : ℕ). MayBe b (turn k y)) (second.width ∙ sym width) (may_turn d b y (complement_back b d second) can.of.second) in
        let u = bit_and x y in
        let back : bit_or (turn w_of x) (turn w_of y) ≡ turn w_of u =
        or_is_turned w_of (turn w_of x) (turn w_of y) (turn_fits w_of x) (turn_fits w_of y)
        ∙ ap (λ (n : ℕ). turn w_of (bit_and n (turn w_of (turn w_of y)))) (turn_turn w_of x fits_x)
        ∙ ap (λ (n : ℕ). turn w_of (bit_and x n)) (turn_turn w_of y fits_y) in
        let small : u < 2 ^ w_of = both_fit x y can.of.first.fits in
        let own_small = both_fit c.number.value d.number.value c.number.fits in
        record {
          z = turn w_of u;
          of = record { x = turn w_of x; y = turn w_of y; first = fx; second = fy; is = sym back };
          differs = λ same.
              let own = bit_and c.number.value d.number.value in
              can.differs
              (ap (λ (n : ℕ). bit_at n i) (can.of.is ∙ sym (turn_turn w_of u small))
              ∙ turn_same w_of (turn w_of u) (turn w_of own) i (turn_fits w_of u) (turn_fits w_of own)
              (same ∙ ap (λ (n : ℕ). bit_at n i) own_turned)
              ∙ ap (λ (n : ℕ). bit_at n i) (turn_turn w_of own own_small));
        };
  }
