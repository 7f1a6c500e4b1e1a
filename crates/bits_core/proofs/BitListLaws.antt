-- The two readings between a number and the list of its bits.
use Rattle.std.proofs.Common.{◌≡◌, ℕ, zero, suc, ◌+◌, ◌-◌, ◌*◌, ◌/◌, ◌%◌, ◌^◌, ◌<◌, ◌≤◌, Bool, true, false, List, [], ◌∷◌, ◌++◌, length, take, drop, get_or, replicate, refl, sym, ap, ◌∙◌, subst, arith, ⊎_elim}
use Rattle.std.specs.Prelude.{map, not, ◌==◌}
use Rattle.std.specs.Int.{bit_at}
use Rattle.std.proofs.Math.Nat.{pow-succ', mod-eq_of_lt, div-eq_of_lt}
use Rattle.std.proofs.lemmas.Bool.{cases_lt}
use Rattle.std.proofs.lemmas.List.{length-take-le, take-append-drop, take_all, drop_all, drop_more}
use Rattle.std.proofs.lemmas.Nat.{mod-pow-add, shr_high, mod_low, le-div, pow_pos}
use Rattle.std.proofs.lemmas.Nat.Bits.{bit_at_lowest, bit_at-suc}
use Rattle.bits_core.specs.BitList.{bit_value, number_of, bits_of, sign_bit}
use Rattle.bits_core.proofs.WidthLaws.{pow_le}

pub number_of_below : (bs : List Bool) → number_of bs < 2 ^ length bs
number_of_below [] = omega arith
number_of_below (false ∷ bs) = omega (arith, number_of_below bs, pow-succ' 2 (length bs))
number_of_below (true ∷ bs) = omega (arith, number_of_below bs, pow-succ' 2 (length bs))

-- a join: the upper list is most significant
pub number_of_append : (xs ys : List Bool) → number_of (xs ++ ys) ≡ number_of ys * 2 ^ length xs + number_of xs
number_of_append [] ys = omega arith
number_of_append (x ∷ xs) ys = rw (pow-succ' 2 (length xs)) (omega (arith, number_of_append xs ys))

take_below : (n : ℕ) (bs : List Bool) → n ≤ length bs → number_of (take n bs) < 2 ^ n
take_below n bs long = subst (λ (m : ℕ). number_of (take n bs) < 2 ^ m) (length-take-le n bs long) (number_of_below (take n bs))

pub parts : (n : ℕ) (bs : List Bool) → n ≤ length bs → number_of bs ≡ number_of (drop n bs) * 2 ^ n + number_of (take n bs)
parts n bs long =
    ap number_of (sym (take-append-drop n bs)) ∙ number_of_append (take n bs) (drop n bs)
    ∙ ap (λ (m : ℕ). number_of (drop n bs) * 2 ^ m + number_of (take n bs)) (length-take-le n bs long)

-- a slice
pub number_of_take : (n : ℕ) (bs : List Bool) → number_of (take n bs) ≡ number_of bs % 2 ^ n
number_of_take n bs =
    ⊎_elim
    (λ (short : length bs < n).
    ap number_of (take_all n bs (omega arith))
    ∙ sym (mod-eq_of_lt (omega (arith, number_of_below bs, pow_le (length bs) n (omega arith)))))
    (λ (long : n ≤ length bs).
    let e : number_of bs ≡ number_of (drop n bs) * 2 ^ n + number_of (take n bs) = parts n bs long in
    sym (ap (λ (m : ℕ). m % 2 ^ n) e ∙ mod_low (number_of (drop n bs)) n (number_of (take n bs)) (take_below n bs long)))
    (cases_lt (length bs) n)

pub number_of_drop : (n : ℕ) (bs : List Bool) → number_of (drop n bs) ≡ number_of bs / 2 ^ n
number_of_drop n bs =
    ⊎_elim
    (λ (short : length bs < n).
    ap number_of (drop_all n bs (omega arith))
    ∙ sym (div-eq_of_lt (omega (arith, number_of_below bs, pow_le (length bs) n (omega arith)))))
    (λ (long : n ≤ length bs).
    let e : number_of bs ≡ number_of (drop n bs) * 2 ^ n + number_of (take n bs) = parts n bs long in
    sym (ap (λ (m : ℕ). m / 2 ^ n) e ∙ shr_high (number_of (drop n bs)) n (number_of (take n bs)) (take_below n bs long)))
    (cases_lt (length bs) n)

pub number_of_zeros : (n : ℕ) → number_of (replicate n false) ≡ 0
number_of_zeros zero = refl
number_of_zeros (suc n) = omega (arith, number_of_zeros n)

-- bit by bit the other way round
pub number_of_not : (bs : List Bool) → number_of (map not bs) ≡ 2 ^ length bs - 1 - number_of bs
number_of_not [] = refl
number_of_not (false ∷ bs) = omega (arith, number_of_not bs, number_of_below bs, pow-succ' 2 (length bs))
number_of_not (true ∷ bs) = omega (arith, number_of_not bs, number_of_below bs, pow-succ' 2 (length bs))

pub length_bits_of : (w x : ℕ) → length (bits_of w x) ≡ w
unfolding bits_of
length_bits_of zero x = refl
length_bits_of (suc w) x = ap suc (length_bits_of w (x / 2))

bit_value_odd : (x : ℕ) → bit_value (x % 2 == 1) ≡ x % 2
bit_value_odd x = grind arith

suc_is : (w : ℕ) → suc w ≡ w + 1
suc_is w = omega arith

-- there and back
pub number_of_bits_of : (w x : ℕ) → number_of (bits_of w x) ≡ x % 2 ^ w
unfolding bits_of
number_of_bits_of zero x = omega arith
number_of_bits_of (suc w) x =
    rw (suc_is w) (omega (arith, bit_value_odd x, number_of_bits_of w (x / 2), mod-pow-add x w 1))

odd_of : (b : Bool) (n : ℕ) → ((bit_value b + 2 * n) % 2 == 1) ≡ b
odd_of true n = grind arith
odd_of false n = grind arith

half_of : (b : Bool) (n : ℕ) → (bit_value b + 2 * n) / 2 ≡ n
half_of true n = omega arith
half_of false n = omega arith

pub bits_of_number_of : (bs : List Bool) → bits_of (length bs) (number_of bs) ≡ bs
unfolding bits_of
bits_of_number_of [] = refl
bits_of_number_of (b ∷ bs) =
    rw (odd_of b (number_of bs), half_of b (number_of bs)) (ap (λ (rest : List Bool). b ∷ rest) (bits_of_number_of bs))

-- the bit at a place
pub get_or_bits_of : (w x place : ℕ) → place < w → get_or (bits_of w x) place false ≡ (bit_at x place == 1)
unfolding bits_of
get_or_bits_of zero x place within = absurd (omega arith)
get_or_bits_of (suc w) x zero within = ap (λ (n : ℕ). n == 1) (sym (bit_at_lowest x))
get_or_bits_of (suc w) x (suc place) within =
    get_or_bits_of w (x / 2) place (omega arith) ∙ ap (λ (n : ℕ). n == 1) (sym (bit_at-suc x place))

pub bit_at_number_of : (bs : List Bool) (place : ℕ) → (bit_at (number_of bs) place == 1) ≡ get_or bs place false
bit_at_number_of [] place = grind arith
bit_at_number_of (b ∷ bs) zero = ap (λ (n : ℕ). n == 1) (bit_at_lowest (bit_value b + 2 * number_of bs)) ∙ odd_of b (number_of bs)
bit_at_number_of (b ∷ bs) (suc place) =
    ap (λ (n : ℕ). n == 1) (bit_at-suc (bit_value b + 2 * number_of bs) place)
    ∙ ap (λ (n : ℕ). bit_at n place == 1) (half_of b (number_of bs)) ∙ bit_at_number_of bs place

-- ---- the sign

-- the list from its last bit on
drop_last : (bs : List Bool) → 1 ≤ length bs → drop (length bs - 1) bs ≡ sign_bit bs ∷ []
drop_last bs some =
    drop_more bs (length bs - 1) false (omega arith)
    ∙ ap (λ (rest : List Bool). sign_bit bs ∷ rest) (drop_all (length bs - 1 + 1) bs (omega arith))

pub top_bit : (bs : List Bool) → 1 ≤ length bs → number_of bs / 2 ^ (length bs - 1) ≡ bit_value (sign_bit bs)
top_bit bs some =
    let alone : number_of (sign_bit bs ∷ []) ≡ bit_value (sign_bit bs) = omega arith in
    sym (number_of_drop (length bs - 1) bs) ∙ ap number_of (drop_last bs some) ∙ alone

pub sign_bit_high : (bs : List Bool) → 1 ≤ length bs → sign_bit bs ≡ true → 2 ^ (length bs - 1) ≤ number_of bs
sign_bit_high bs some e =
    ⊎_elim
    (λ (below : number_of bs < 2 ^ (length bs - 1)).
    let none : bit_value true ≡ 0 = ap bit_value (sym e) ∙ sym (top_bit bs some) ∙ div-eq_of_lt below in
    absurd (omega arith))
    (λ (above : 2 ^ (length bs - 1) ≤ number_of bs). above)
    (cases_lt (number_of bs) (2 ^ (length bs - 1)))

pub sign_bit_low : (bs : List Bool) → 1 ≤ length bs → sign_bit bs ≡ false → number_of bs < 2 ^ (length bs - 1)
sign_bit_low bs some e =
    ⊎_elim
    (λ (below : number_of bs < 2 ^ (length bs - 1)). below)
    (λ (above : 2 ^ (length bs - 1) ≤ number_of bs).
    let none : number_of bs / 2 ^ (length bs - 1) ≡ 0 = top_bit bs some ∙ ap bit_value e in
    let one : 1 ≤ number_of bs / 2 ^ (length bs - 1) = le-div 1 (number_of bs) (2 ^ (length bs - 1)) (pow_pos (length bs - 1)) (omega arith) in
    absurd (omega arith))
    (cases_lt (number_of bs) (2 ^ (length bs - 1)))
