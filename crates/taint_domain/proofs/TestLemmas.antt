-- Which tests may come out otherwise: orders from the ends of the operands, signed ones with the sign bits turned round, equality
-- from the bits in which the numbers differ.
use Rattle.std.proofs.Common.{◌≡◌, ◌≢◌, ℕ, ℤ, pos, ◌+◌, ◌-◌, ◌*◌, ◌%◌, ◌^◌, ◌<◌, ◌≤◌, Bool, true, false, refl, sym, ap, ◌∙◌, subst, arith, ⊎_elim}
use Rattle.std.specs.Prelude.{◌↔◌, ◌+ℤ◌, ◌-ℤ◌, not, IsTrue, nat_lt, nat_le, bit_xor}
use Rattle.std.specs.Int.{bit_at}
use Rattle.std.proofs.lemmas.Bool.{cases_lt, ltb-true, ltb-false, lt-ltb, le-ltb}
use Rattle.std.proofs.lemmas.Int.{ints}
use Rattle.std.proofs.lemmas.Nat.{pow_pos, xor_lt, pow_below}
use Rattle.std.proofs.lemmas.Nat.Bits.{bit_at_above, bit_at_xor, bit_at_cat_low, bit_at_cat_high, bit_at-pow_other, bit_at-lt, same_from_bits}
use Rattle.bits_core.specs.declared.operator.Op.{Op}
use Rattle.bits_core.specs.declared.operator.Op.TheVariants.{Eq, LtU, LeU, LtS, LeS}
use Rattle.bits_core.specs.declared.operator.OpShape.TheVariants.{Test}
use Rattle.bits_core.specs.Number.{signed_value}
use Rattle.bits_core.specs.Operator.{shape_of, test_value}
use Rattle.bits_core.proofs.SignLaws.{half_twice, signed_value_low, signed_value_high, int_lt_biased, int_le_biased}
use Rattle.taint_domain.specs.declared.tainted.Tainted.{Tainted}
use Rattle.taint_domain.specs.Results.{TestOf}
use Rattle.taint_domain.specs.Tainted.{MayBe}
use Rattle.taint_domain.proofs.MayBeLemmas.{may_own, least_of, greatest_of, may_least, may_greatest, least_le, le_greatest}

-- ---- less

pub less_differs : (a b : Tainted) → least_of a < greatest_of b → least_of b ≤ greatest_of a →
    TestOf LtU a b (not (nat_lt a.number.value b.number.value))
less_differs a b may may_not = by (nat_lt a.number.value b.number.value)
  where
    by : (t : Bool) → TestOf LtU a b (not t)
    by true = record {
      x = greatest_of a;
      y = least_of b;
      first = may_greatest a;
      second = may_least b;
      is = sym (le-ltb (greatest_of a) (least_of b) may_not);
    }
    by false = record {
      x = least_of a;
      y = greatest_of b;
      first = may_least a;
      second = may_greatest b;
      is = sym (lt-ltb (least_of a) (greatest_of b) may);
    }

less_needs_by : (a b : Tainted) (t : Bool) → nat_lt a.number.value b.number.value ≡ t → TestOf LtU a b (not t) →
    (least_of a < greatest_of b) × (least_of b ≤ greatest_of a)
less_needs_by a b true own other =
    let less = ltb-true a.number.value b.number.value own in
    let no = ltb-false other.x other.y (sym other.is) in (
      omega (arith, least_le a a.number.value (may_own a), le_greatest b b.number.value (may_own b)),
      omega (arith, least_le b other.y other.second, le_greatest a other.x other.first),
    )
less_needs_by a b false own other =
    let less = ltb-true other.x other.y (sym other.is) in
    let no = ltb-false a.number.value b.number.value own in (
      omega (arith, least_le a other.x other.first, le_greatest b other.y other.second),
      omega (arith, least_le b b.number.value (may_own b), le_greatest a a.number.value (may_own a)),
    )

pub less_needs : (a b : Tainted) → TestOf LtU a b (not (nat_lt a.number.value b.number.value)) →
    (least_of a < greatest_of b) × (least_of b ≤ greatest_of a)
less_needs a b other = less_needs_by a b (nat_lt a.number.value b.number.value) refl other

-- ---- signed order

-- one value is the other with the sign bit turned round
pub record IsSignTurned (v c : Tainted) : Type 0 where
  pub width : c.number.width ≡ v.number.width
  pub value : c.number.value ≡ bit_xor v.number.value (2 ^ (v.number.width - 1))
  pub mask : c.mask ≡ v.mask

xor_twice : (x h : ℕ) → bit_xor (bit_xor x h) h ≡ x
xor_twice x h = same_from_bits (bit_xor (bit_xor x h) h) x (λ i.
    omega (arith, bit_at_xor (bit_xor x h) h i, bit_at_xor x h i, bit_at-lt x i, bit_at-lt h i))

xor_adds : (k x : ℕ) → x < 2 ^ k → bit_xor x (2 ^ k) ≡ 1 * 2 ^ k + x
xor_adds k x fits = same_from_bits (bit_xor x (2 ^ k)) (1 * 2 ^ k + x) (λ i.
    ⊎_elim
    (λ (low : i < k).
    omega (arith, bit_at_xor x (2 ^ k) i, bit_at-pow_other k i (λ e. absurd (omega arith)), bit_at_cat_low 1 k x i low, bit_at-lt x i))
    (λ (high : k ≤ i).
    let none : bit_at x i ≡ 0 = bit_at_above x k i fits high in
    let power : bit_at (2 ^ k) i ≡ bit_at 1 (i - k) = whole k i high in
    omega (arith, bit_at_xor x (2 ^ k) i, bit_at_cat_high 1 k x i fits high, bit_at-lt (2 ^ k) i))
    (cases_lt i k))
  where
    whole : (k i : ℕ) → k ≤ i → bit_at (2 ^ k) i ≡ bit_at 1 (i - k)
    whole k i high =
        let sum : 1 * 2 ^ k + 0 ≡ 2 ^ k = omega arith in
        ap (λ (n : ℕ). bit_at n i) (sym sum) ∙ bit_at_cat_high 1 k 0 i (pow_pos k) high

biased_low : (x h : ℕ) → pos (1 * h + x) ≡ pos x +ℤ pos h
biased_low x h = omega (arith, ints)

biased_high : (x r h p : ℕ) → 2 * h ≡ p → x ≡ 1 * h + r → pos r ≡ (pos x -ℤ pos p) +ℤ pos h
biased_high x r h p twice e = omega (arith, ints)

-- the number with its sign bit turned round has the order of the signed value
sign_turned_is : (w x : ℕ) → 1 ≤ w → x < 2 ^ w → pos (bit_xor x (2 ^ (w - 1))) ≡ signed_value w x +ℤ pos (2 ^ (w - 1))
sign_turned_is w x some fits =
    let k = w - 1 in
    let h = 2 ^ k in
    let twice : 2 * h ≡ 2 ^ w = half_twice w some in
    ⊎_elim
    (λ (low : x < h).
    ap pos (xor_adds k x low) ∙ biased_low x h ∙ ap (λ (z : ℤ). z +ℤ pos h) (sym (signed_value_low w x low)))
    (λ (high : h ≤ x).
    let r = x - h in
    let small : r < h = omega arith in
    let whole : x ≡ 1 * h + r = omega arith in
    let back : bit_xor x h ≡ r = ap (λ (n : ℕ). bit_xor n h) (whole ∙ sym (xor_adds k r small)) ∙ xor_twice r h in
    ap pos back ∙ biased_high x r h (2 ^ w) twice whole ∙ ap (λ (z : ℤ). z +ℤ pos h) (sym (signed_value_high w x high)))
    (cases_lt x h)

may_sign_turned : (v c : Tainted) (x : ℕ) → IsSignTurned v c → MayBe v x → MayBe c (bit_xor x (2 ^ (v.number.width - 1)))
may_sign_turned v c x turned may =
    let w = v.number.width in
    let h = 2 ^ (w - 1) in
    let small : h < 2 ^ w = pow_below (w - 1) w (omega (arith, v.number.some_bit)) in
    record {
      fits = subst (λ (k : ℕ). bit_xor x h < 2 ^ k) (sym turned.width) (xor_lt w x h may.fits small);
      outside = record {
        bits = λ i clear.
            let open_bit : bit_at v.mask.value i ≡ 0 = sym (ap (λ m. bit_at m.value i) turned.mask) ∙ clear in
            bit_at_xor x h i ∙ ap (λ (b : ℕ). (b + bit_at h i) % 2) (may.outside.bits i open_bit) ∙ sym (bit_at_xor v.number.value h i)
            ∙ ap (λ (n : ℕ). bit_at n i) (sym turned.value);
      };
    }

sign_turned_back : (v c : Tainted) → IsSignTurned v c → IsSignTurned c v
sign_turned_back v c turned = record {
  width = sym turned.width;
  value = sym (ap (λ (w : ℕ). bit_xor c.number.value (2 ^ (w - 1))) turned.width
      ∙ ap (λ (n : ℕ). bit_xor n (2 ^ (v.number.width - 1))) turned.value ∙ xor_twice v.number.value (2 ^ (v.number.width - 1)));
  mask = sym turned.mask;
}

le_is_not_less : (x y : ℕ) → nat_le x y ≡ not (nat_lt y x)
le_is_not_less x y = grind arith

not_twice : (t : Bool) → not (not t) ≡ t
not_twice true = refl
not_twice false = refl

module _ (a b c d : Tainted) (width : a.number.width ≡ b.number.width) (first : IsSignTurned a c) (second : IsSignTurned b d) where
  abbrev half_of : ℕ
  half_of = 2 ^ (a.number.width - 1)

  second_turned : (y : ℕ) → MayBe b y → MayBe d (bit_xor y half_of)
  second_turned y may =
      subst (λ (w : ℕ). MayBe d (bit_xor y (2 ^ (w - 1)))) (sym width) (may_sign_turned b d y second may)

  second_is : (y : ℕ) → MayBe b y → pos (bit_xor y half_of) ≡ signed_value a.number.width y +ℤ pos half_of
  second_is y may = sign_turned_is a.number.width y a.number.some_bit (subst (λ (w : ℕ). y < 2 ^ w) (sym width) may.fits)

  signed_less : (x y : ℕ) → MayBe a x → MayBe b y →
      test_value LtS a.number.width x y ≡ nat_lt (bit_xor x half_of) (bit_xor y half_of)
  signed_less x y may other =
      int_lt_biased half_of _ _ _ _ (sign_turned_is a.number.width x a.number.some_bit may.fits) (second_is y other)

  signed_le : (x y : ℕ) → MayBe a x → MayBe b y →
      test_value LeS a.number.width x y ≡ not (nat_lt (bit_xor y half_of) (bit_xor x half_of))
  signed_le x y may other =
      int_le_biased half_of _ _ _ _ (sign_turned_is a.number.width x a.number.some_bit may.fits) (second_is y other)
      ∙ le_is_not_less (bit_xor x half_of) (bit_xor y half_of)

  own_second : d.number.value ≡ bit_xor b.number.value half_of
  own_second = second.value ∙ ap (λ (w : ℕ). bit_xor b.number.value (2 ^ (w - 1))) (sym width)

  own_less : test_value LtS a.number.width a.number.value b.number.value ≡ nat_lt c.number.value d.number.value
  own_less =
      signed_less a.number.value b.number.value (may_own a) (may_own b)
      ∙ ap (λ (n : ℕ). nat_lt n (bit_xor b.number.value half_of)) (sym first.value) ∙ ap (nat_lt c.number.value) (sym own_second)

  own_le : test_value LeS a.number.width a.number.value b.number.value ≡ not (nat_lt d.number.value c.number.value)
  own_le =
      signed_le a.number.value b.number.value (may_own a) (may_own b)
      ∙ ap (λ (n : ℕ). not (nat_lt (bit_xor b.number.value half_of) n)) (sym first.value)
      ∙ ap (λ (n : ℕ). not (nat_lt n c.number.value)) (sym own_second)

  from_turned_first : (x : ℕ) → MayBe c x → MayBe a (bit_xor x half_of)
  from_turned_first x may =
      subst (λ (w : ℕ). MayBe a (bit_xor x (2 ^ (w - 1)))) first.width (may_sign_turned c a x (sign_turned_back a c first) may)

  from_turned_second : (y : ℕ) → MayBe d y → MayBe b (bit_xor y half_of)
  from_turned_second y may =
      subst (λ (w : ℕ). MayBe b (bit_xor y (2 ^ (w - 1)))) (second.width ∙ sym width) (may_sign_turned d b y (sign_turned_back b d second) may)

  less_to : (u : Bool) → TestOf LtS a b u → TestOf LtU c d u
  less_to u of = record {
    x = bit_xor of.x half_of;
    y = bit_xor of.y half_of;
    first = may_sign_turned a c of.x first of.first;
    second = second_turned of.y of.second;
    is = of.is ∙ signed_less of.x of.y of.first of.second;
  }

  less_from : (u : Bool) → TestOf LtU c d u → TestOf LtS a b u
  less_from u of =
      let p = from_turned_first of.x of.first in
      let q = from_turned_second of.y of.second in
      record {
        x = bit_xor of.x half_of;
        y = bit_xor of.y half_of;
        first = p;
        second = q;
        is = of.is ∙ sym (signed_less (bit_xor of.x half_of) (bit_xor of.y half_of) p q
            ∙ ap (λ (n : ℕ). nat_lt n (bit_xor (bit_xor of.y half_of) half_of)) (xor_twice of.x half_of)
            ∙ ap (nat_lt of.x) (xor_twice of.y half_of));
      }

  le_to : (u : Bool) → TestOf LeS a b u → TestOf LtU d c (not u)
  le_to u of = record {
    x = bit_xor of.y half_of;
    y = bit_xor of.x half_of;
    first = second_turned of.y of.second;
    second = may_sign_turned a c of.x first of.first;
    is = ap not (of.is ∙ signed_le of.x of.y of.first of.second) ∙ not_twice (nat_lt (bit_xor of.y half_of) (bit_xor of.x half_of));
  }

  le_from : (u : Bool) → TestOf LtU d c (not u) → TestOf LeS a b u
  le_from u of =
      let p = from_turned_first of.y of.second in
      let q = from_turned_second of.x of.first in
      record {
        x = bit_xor of.y half_of;
        y = bit_xor of.x half_of;
        first = p;
        second = q;
        is = sym (not_twice u) ∙ ap not of.is ∙ sym (signed_le (bit_xor of.y half_of) (bit_xor of.x half_of) p q
            ∙ ap (λ (n : ℕ). not (nat_lt (bit_xor (bit_xor of.x half_of) half_of) n)) (xor_twice of.y half_of)
            ∙ ap (λ (n : ℕ). not (nat_lt n of.y)) (xor_twice of.x half_of));
      }

  pub signed_less_iff : (r : Bool) → (IsTrue r ↔ TestOf LtU c d (not (nat_lt c.number.value d.number.value))) →
      IsTrue r ↔ TestOf LtS a b (not (test_value LtS a.number.width a.number.value b.number.value))
  signed_less_iff r told = (
    (λ h. subst (λ t. TestOf LtS a b (not t)) (sym own_less) (less_from _ (told.0 h))),
    (λ of. told.1 (less_to _ (subst (λ t. TestOf LtS a b (not t)) own_less of))),
  )

  pub signed_le_iff : (r : Bool) → (IsTrue r ↔ TestOf LtU d c (not (nat_lt d.number.value c.number.value))) →
      IsTrue r ↔ TestOf LeS a b (not (test_value LeS a.number.width a.number.value b.number.value))
  signed_le_iff r told =
      let own = nat_lt d.number.value c.number.value in (
        (λ h. subst (λ t. TestOf LeS a b (not t)) (sym own_le)
            (le_from (not (not own)) (subst (TestOf LtU d c) (ap not (sym (not_twice own))) (told.0 h)))),
        (λ of. told.1 (subst (TestOf LtU d c) (ap not (not_twice own)) (le_to (not (not own)) (subst (λ t. TestOf LeS a b (not t)) own_le of)))),
      )

-- the last of the five tests
pub last_test : (op : Op) → shape_of op ≡ Test → op ≢ Eq → op ≢ LtU → op ≢ LeU → op ≢ LtS → op ≡ LeS
last_test LeS shape p q r s = refl
last_test Eq shape p q r s = absurd (p refl)
last_test LtU shape p q r s = absurd (q refl)
last_test LeU shape p q r s = absurd (r refl)
last_test LtS shape p q r s = absurd (s refl)
last_test op shape p q r s = absurd (cc)
