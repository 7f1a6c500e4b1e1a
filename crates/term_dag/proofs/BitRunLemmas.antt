-- Runs of a list of bits: one bit more, two runs in a row, and the same run of two lists.
use Rattle.std.proofs.Common.{◌≡◌, ℕ, zero, suc, ◌+◌, ◌-◌, ◌*◌, ◌<◌, ◌≤◌, ◌^◌, Bool, List, [], ◌∷◌, ◌++◌, Some, None, length, take, drop, reverse, slice_get, refl, sym, ap, ◌∙◌, arith}
use Rattle.std.specs.Prelude.{slice_range}
use Rattle.std.proofs.lemmas.List.{reverse-append, length-reverse}
use Rattle.bits_core.specs.BitList.{bit_value, number_of}
use Rattle.bits_core.proofs.BitListLaws.{number_of_append}

pub slice_get_drop : {X : Type 0} (a : ℕ) (xs : List X) (k : ℕ) → slice_get (drop a xs) k ≡ slice_get xs (a + k)
slice_get_drop zero xs k =
    let e : k ≡ 0 + k = omega arith in
    ap (slice_get xs) e
slice_get_drop (suc a) [] k = refl
slice_get_drop {X} (suc a) (x ∷ xs) k =
    let e : suc a + k ≡ suc (a + k) = omega arith in
    slice_get_drop a xs k ∙ sym (ap (slice_get (x ∷ xs)) e)

take_one_more : {X : Type 0} (k : ℕ) (xs : List X) (x : X) → slice_get xs k ≡ Some x → take (suc k) xs ≡ take k xs ++ x ∷ []
take_one_more k [] x at = grind arith
take_one_more zero (y ∷ ys) x at = grind arith
take_one_more (suc k) (y ∷ ys) x at = ap (λ l. y ∷ l) (take_one_more k ys x at)

pub range_one_more : {X : Type 0} (xs : List X) (from to : ℕ) (x : X) → from ≤ to → slice_get xs to ≡ Some x
    → slice_range xs from (to + 1) ≡ slice_range xs from to ++ x ∷ []
range_one_more xs from to x l at =
    let e : to + 1 - from ≡ suc (to - from) = omega arith in
    let f : from + (to - from) ≡ to = omega arith in
    ap (λ n. take n (drop from xs)) e ∙ take_one_more (to - from) (drop from xs) x (slice_get_drop from xs (to - from) ∙ ap (slice_get xs) f ∙ at)

pub number_one_more : (bits : List Bool) (b : Bool) → number_of (reverse (bits ++ b ∷ [])) ≡ 2 * number_of (reverse bits) + bit_value b
number_one_more bits b = ap number_of (reverse-append bits (b ∷ [])) ∙ turned
  where
    turned : number_of (b ∷ reverse bits) ≡ 2 * number_of (reverse bits) + bit_value b
    turned = omega arith

pub no_bits : {X : Type 0} (xs : List X) (from : ℕ) → slice_range xs from from ≡ []
no_bits xs from =
    let e : from - from ≡ 0 = omega arith in
    ap (λ n. take n (drop from xs)) e

module _ {X : Type 0} where
  take_none : (n : ℕ) (xs : List X) → xs ≡ [] → take n xs ≡ []
  take_none zero xs e = refl
  take_none (suc n) [] e = refl
  take_none (suc n) (x ∷ xs) e = e' e
    where
      e' : x ∷ xs ≡ [] → x ∷ take n xs ≡ []
      e' e = grind arith

  drop_none : (n : ℕ) (xs : List X) → xs ≡ [] → drop n xs ≡ []
  drop_none zero xs e = e
  drop_none (suc n) [] e = refl
  drop_none (suc n) (x ∷ xs) e = e' e
    where
      e' : x ∷ xs ≡ [] → drop n xs ≡ []
      e' e = grind arith

  take_sum : (a c : ℕ) (xs : List X) → take (a + c) xs ≡ take a xs ++ take c (drop a xs)
  take_sum zero c xs =
      let e : 0 + c ≡ c = omega arith in
      ap (λ n. take n xs) e
  take_sum (suc a) c [] = take_none (suc a + c) [] refl ∙ sym (take_none c [] refl)
  take_sum (suc a) c (x ∷ xs) =
      let e : suc a + c ≡ suc (a + c) = omega arith in
      ap (λ n. take n (x ∷ xs)) e ∙ ap (λ l. x ∷ l) (take_sum a c xs)

  drop_sum : (a c : ℕ) (xs : List X) → drop c (drop a xs) ≡ drop (a + c) xs
  drop_sum zero c xs =
      let e : c ≡ 0 + c = omega arith in
      ap (λ n. drop n xs) e
  drop_sum (suc a) c [] = drop_none c [] refl ∙ sym (drop_none (suc a + c) [] refl)
  drop_sum (suc a) c (x ∷ xs) =
      let e : suc (a + c) ≡ suc a + c = omega arith in
      drop_sum a c xs ∙ ap (λ n. drop n (x ∷ xs)) e

pub range_sum : {X : Type 0} (xs : List X) (from a c : ℕ)
    → slice_range xs from (from + (a + c)) ≡ slice_range xs from (from + a) ++ slice_range xs (from + a) (from + a + c)
range_sum xs from a c =
    let e : from + (a + c) - from ≡ a + c = omega arith in
    let f : a ≡ from + a - from = omega arith in
    let g : c ≡ from + a + c - (from + a) = omega arith in
    ap (λ n. take n (drop from xs)) e ∙ take_sum a c (drop from xs)
    ∙ (λ i. take (f i) (drop from xs) ++ take (g i) (drop_sum from a xs i))

pub number_of_two : (xs ys : List Bool) → number_of (reverse (xs ++ ys)) ≡ number_of (reverse xs) * 2 ^ length ys + number_of (reverse ys)
number_of_two xs ys =
    ap number_of (reverse-append xs ys) ∙ number_of_append (reverse ys) (reverse xs)
    ∙ ap (λ n. number_of (reverse xs) * 2 ^ n + number_of (reverse ys)) (length-reverse ys)

same_take : {X : Type 0} (n : ℕ) (xs ys : List X) → ((k : ℕ) → k < n → slice_get xs k ≡ slice_get ys k) → take n xs ≡ take n ys
same_take zero xs ys same = refl
same_take (suc n) [] [] same = refl
same_take (suc n) [] (y ∷ ys) same = absurd (by (same 0 (omega arith)))
  where
    by : None ≡ Some y → ⊥
    by e = grind arith
same_take (suc n) (x ∷ xs) [] same = absurd (by (same 0 (omega arith)))
  where
    by : Some x ≡ None → ⊥
    by e = grind arith
same_take (suc n) (x ∷ xs) (y ∷ ys) same =
    λ i. first (same 0 (omega arith)) i ∷ same_take n xs ys (λ k l. same (suc k) (omega arith)) i
  where
    first : Some x ≡ Some y → x ≡ y
    first e = grind arith

pub same_range : {X : Type 0} (xs ys : List X) (from to : ℕ)
    → ((k : ℕ) → from ≤ k → k < to → slice_get xs k ≡ slice_get ys k) → slice_range xs from to ≡ slice_range ys from to
same_range xs ys from to same =
    same_take (to - from) (drop from xs) (drop from ys)
    (λ k l. slice_get_drop from xs k ∙ same (from + k) (omega arith) (omega arith) ∙ sym (slice_get_drop from ys k))

take_length : {X : Type 0} (n : ℕ) (xs : List X) → n ≤ length xs → length (take n xs) ≡ n
take_length zero xs l = refl
take_length (suc n) [] l = absurd (omega arith)
take_length (suc n) (x ∷ xs) l = ap suc (take_length n xs (omega arith))

drop_length : {X : Type 0} (n : ℕ) (xs : List X) → length (drop n xs) ≡ length xs - n
drop_length zero xs = omega arith
drop_length (suc n) [] = omega arith
drop_length (suc n) (x ∷ xs) = drop_length n xs ∙ omega arith

pub range_length : {X : Type 0} (xs : List X) (from to : ℕ) → to ≤ length xs → length (slice_range xs from to) ≡ to - from
range_length xs from to l = take_length (to - from) (drop from xs) (omega (arith, drop_length from xs))
