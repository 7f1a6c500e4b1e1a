-- The bits of a number: those of 0, and those of a number of which a bit is set.
use Rattle.std.proofs.Common.{◌≡◌, ℕ, zero, suc, ◌+◌, ◌*◌, ◌%◌, ◌^◌, ◌<◌, Bool, true, false, List, [], ◌∷◌, Some, length, slice_get, get_or, refl, sym, ap, subst, ◌∙◌, arith}
use Rattle.std.specs.Prelude.{slice_set}
use Rattle.std.proofs.Math.Nat.{pow-succ', mod-eq_of_lt}
use Rattle.std.proofs.lemmas.Option.{slice_get_within, slice_get-get_or}
use Rattle.bits_core.specs.BitList.{bit_value, bits_of, number_of}
use Rattle.bits_core.specs.declared.number.Bits.{Bits}
use Rattle.bits_core.proofs.BitListLaws.{bits_of_number_of, length_bits_of, number_of_below, number_of_bits_of}
use Rattle.bits_core.proofs.WidthLaws.{pow_le}
use Rattle.std.proofs.lemmas.Nat.{pow_pos}
use Rattle.bits_core.proofs.NumberLaws.{same_fields}
use Rattle.query_engine.proofs.ListLemmas.{some_same}

pub zero_bits : (w k : ℕ) → k < w → slice_get (bits_of w 0) k ≡ Some false
unfolding bits_of
zero_bits zero k l = absurd (omega arith)
zero_bits (suc w) zero l = refl
zero_bits (suc w) (suc k) l = zero_bits w k (omega arith)

pub bit_within : (w x k : ℕ) (b : Bool) → slice_get (bits_of w x) k ≡ Some b → k < w
bit_within w x k b at = omega (arith, slice_get_within (bits_of w x) k b at, length_bits_of w x)

pub bit_there : (w x k : ℕ) → k < w → (b : Bool) × (slice_get (bits_of w x) k ≡ Some b)
bit_there w x k l = (
  get_or (bits_of w x) k false,
  slice_get-get_or (bits_of w x) k false (omega (arith, length_bits_of w x)),
)

length_set : (bs : List Bool) (k : ℕ) (b : Bool) → length (slice_set bs k b) ≡ length bs
length_set [] k b = refl
length_set (x ∷ bs) zero b = refl
length_set (x ∷ bs) (suc k) b = ap suc (length_set bs k b)

number_set : (bs : List Bool) (k : ℕ) → slice_get bs k ≡ Some false → number_of (slice_set bs k true) ≡ number_of bs + 2 ^ k
number_set [] k at = absurd (omega (arith, slice_get_within [] k false at))
number_set (b ∷ bs) zero at = let e : b ≡ false = some_same b false at in omega (arith, ap bit_value e)
number_set (b ∷ bs) (suc k) at = omega (arith, number_set bs k at, pow-succ' 2 k)

module _ (w x k : ℕ) (fits : x < 2 ^ w) (at : slice_get (bits_of w x) k ≡ Some false) where
  set_is : number_of (slice_set (bits_of w x) k true) ≡ x + 2 ^ k
  set_is = number_set (bits_of w x) k at ∙ ap (λ (n : ℕ). n + 2 ^ k) (number_of_bits_of w x ∙ mod-eq_of_lt fits)

  set_long : length (slice_set (bits_of w x) k true) ≡ w
  set_long = length_set (bits_of w x) k true ∙ length_bits_of w x

  pub set_below : x + 2 ^ k < 2 ^ w
  set_below =
      subst (λ (n : ℕ). n < 2 ^ w) set_is
      (subst (λ (m : ℕ). number_of (slice_set (bits_of w x) k true) < 2 ^ m) set_long (number_of_below (slice_set (bits_of w x) k true)))

  pub set_bits : bits_of w (x + 2 ^ k) ≡ slice_set (bits_of w x) k true
  set_bits =
      subst (λ (n : ℕ). bits_of w n ≡ slice_set (bits_of w x) k true) set_is
      (subst (λ (m : ℕ). bits_of m (number_of (slice_set (bits_of w x) k true)) ≡ slice_set (bits_of w x) k true) set_long
      (bits_of_number_of (slice_set (bits_of w x) k true)))

-- ---- the bit as a shift

pow_below : (k n : ℕ) → k < n → 2 ^ k < 2 ^ n
pow_below k n l = omega (arith, pow-succ' 2 k, pow_le (suc k) n (omega arith), pow_pos k)

shifted : (k : ℕ) → k < 128 → 1 * 2 ^ k % 340282366920938463463374607431768211456 ≡ 2 ^ k
shifted k l =
    let below : 1 * 2 ^ k < 340282366920938463463374607431768211456 = omega (arith, pow_below k 128 l) in
    let one : 1 * 2 ^ k ≡ 2 ^ k = omega arith in
    mod-eq_of_lt below ∙ one

module _ (x : Bits) (k : ℕ) (at : slice_get (bits_of x.width x.value) k ≡ Some false) where
  pub small : k < 128
  small = omega (arith, bit_within x.width x.value k false at, x.at_most_widest)

  pub shift_below : x.value + 1 * 2 ^ k % 340282366920938463463374607431768211456 < 2 ^ x.width
  shift_below = subst (λ (n : ℕ). x.value + n < 2 ^ x.width) (sym (shifted k small)) (set_below x.width x.value k x.fits at)

  pub shift_fits : x.value + 1 * 2 ^ k % 340282366920938463463374607431768211456 < 2 ^ 128
  shift_fits = omega (arith, shift_below, pow_le x.width 128 x.at_most_widest)

  pub shift_bits : bits_of x.width (x.value + 1 * 2 ^ k % 340282366920938463463374607431768211456)
      ≡ slice_set (bits_of x.width x.value) k true
  shift_bits =
      subst (λ (n : ℕ). bits_of x.width (x.value + n) ≡ slice_set (bits_of x.width x.value) k true) (sym (shifted k small))
      (set_bits x.width x.value k x.fits at)

-- ---- a number goes by its bits

same_lists : (xs ys : List Bool) → length xs ≡ length ys →
    ((k : ℕ) → k < length xs → (b : Bool) × (slice_get xs k ≡ Some b) × (slice_get ys k ≡ Some b)) → xs ≡ ys
same_lists [] [] long each = refl
same_lists [] (y ∷ ys) long each = absurd (omega arith)
same_lists (x ∷ xs) [] long each = absurd (omega arith)
same_lists (x ∷ xs) (y ∷ ys) long each =
    let h = each 0 (omega arith) in
    let e : x ≡ y = some_same x y (h.1 ∙ sym h.2) in
    let rest : xs ≡ ys = same_lists xs ys (omega arith) (λ k l. each (suc k) (omega arith)) in
    λ i. e i ∷ rest i

pub same_number : (x y : Bits) → x.width ≡ y.width →
    ((k : ℕ) → k < x.width → (b : Bool) × (slice_get (bits_of x.width x.value) k ≡ Some b) × (slice_get (bits_of y.width y.value) k ≡ Some b)) →
    x ≡ y
same_number x y width each =
    let bits : bits_of x.width x.value ≡ bits_of y.width y.value =
    same_lists (bits_of x.width x.value) (bits_of y.width y.value)
    (length_bits_of x.width x.value ∙ width ∙ sym (length_bits_of y.width y.value))
    (λ k l. each k (omega (arith, length_bits_of x.width x.value))) in
    same_fields x y width
    (sym (number_of_bits_of x.width x.value ∙ mod-eq_of_lt x.fits) ∙ ap number_of bits ∙ number_of_bits_of y.width y.value ∙ mod-eq_of_lt y.fits)
