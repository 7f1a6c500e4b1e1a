-- Cuts to a width, of naturals and of integers.
use Rattle.std.proofs.Common.{◌≡◌, ℕ, ◌+◌, ◌-◌, ◌*◌, ◌/◌, ◌%◌, ◌^◌, ◌<◌, ◌≤◌, ℤ, pos, min, refl, sym, ap, ◌∙◌, subst, arith}
use Rattle.std.specs.Prelude.{negsuc, unsigned_abs, ◌+ℤ◌, ◌-ℤ◌, bit_or}
use Rattle.std.proofs.Math.Pow.{mod-mod-pow}
use Rattle.std.proofs.Math.Nat.{pow-le-pow_right, mul-mod_left, mul_comm, mul_assoc}
use Rattle.std.proofs.lemmas.Nat.{pow_pos, pow-add, mul-add-lt, shl_whole, or_shifted, mod_below, shr_split}
use Rattle.std.proofs.lemmas.Nat.Bits.{ones_shr}
use Rattle.std.proofs.lemmas.Int.{ints, int_rem_euclid_is}
use Rattle.bits_core.specs.Number.{wrapped}

-- the mask of w ones, from one of k
pub ones_shr_complement : (k w : ℕ) → w ≤ k → (2 ^ k - 1) / 2 ^ (k - w) ≡ 2 ^ w - 1
ones_shr_complement k w within =
    let e : k - (k - w) ≡ w = omega arith in
    ones_shr k (k - w) (omega arith) ∙ ap (λ m. 2 ^ m - 1) e

-- a power of two above another is a multiple of it
pub pow_split : (w k : ℕ) → w ≤ k → 2 ^ k ≡ 2 ^ (k - w) * 2 ^ w
pow_split w k within =
    let e : (k - w) + w ≡ k = omega arith in
    ap (λ m. 2 ^ m) (sym e) ∙ pow-add 2 (k - w) w

pub pow_le : (w k : ℕ) → w ≤ k → 2 ^ w ≤ 2 ^ k
pow_le w k within = pow-le-pow_right {n = 2} (omega arith) within

-- a number of w bits is no greater than the wider power
pub le_wider : (x w k : ℕ) → x < 2 ^ w → w ≤ k → x ≤ 2 ^ k
le_wider x w k fits within = omega (arith, pow_le w k within)

-- a cut after a cut at a greater width
pub mod_mod_wider : (n w k : ℕ) → w ≤ k → n % 2 ^ k % 2 ^ w ≡ n % 2 ^ w
mod_mod_wider n w k within =
    let e : (k - w) + w ≡ k = omega arith in
    subst (λ m. n % 2 ^ m % 2 ^ w ≡ n % 2 ^ w) e (mod-mod-pow n (k - w) w)

-- an integer that is the natural m but for k times 2^w
pub wrapped_is : (w : ℕ) (z : ℤ) (k m : ℕ) → z +ℤ pos (k * 2 ^ w) ≡ pos m → wrapped w z ≡ m % 2 ^ w
wrapped_is w z k m e = ap unsigned_abs (int_rem_euclid_is z (pos (2 ^ w)) (2 ^ w) k m (pow_pos w) refl e)

pub wrapped_below : (w : ℕ) (z : ℤ) → wrapped w z < 2 ^ w
wrapped_below w (pos n) = mod_below n (2 ^ w) (pow_pos w)
wrapped_below w (negsuc n) = omega (arith, pow_pos w)

one_more : (q p : ℕ) → (1 + q) * p ≡ p + q * p
one_more q p = omega arith

negative_is : (n p whole rest m : ℕ) → whole + rest ≡ n → rest < p → m ≡ p + whole → negsuc n +ℤ pos m ≡ pos (p - 1 - rest)
negative_is n p whole rest m split below e = omega (arith, ints)

-- a cut of the bits of an integer
pub mod_wrapped : (k w : ℕ) (z : ℤ) → w ≤ k → wrapped k z % 2 ^ w ≡ wrapped w z
mod_wrapped k w (pos n) within = mod_mod_wider n w k within
mod_wrapped k w (negsuc n) within =
    let p = 2 ^ k in
    let q = (1 + n / p) * 2 ^ (k - w) in
    let times : q * 2 ^ w ≡ p + n / p * p =
    mul_assoc (1 + n / p) (2 ^ (k - w)) (2 ^ w) ∙ ap (λ (m : ℕ). (1 + n / p) * m) (sym (pow_split w k within))
    ∙ one_more (n / p) p in
    sym (wrapped_is w (negsuc n) q (p - 1 - n % p) (negative_is n p (n / p * p) (n % p) (q * 2 ^ w) (shr_split n k) (mod_below n p (pow_pos k)) times))

-- the difference, taken at a greater width and cut
pub wrapped_sub : (w k x y : ℕ) → w ≤ k → y ≤ 2 ^ k → (x + (2 ^ k - y)) % 2 ^ k % 2 ^ w ≡ wrapped w (pos x -ℤ pos y)
wrapped_sub w k x y within small =
    let e : 2 ^ k ≡ 2 ^ (k - w) * 2 ^ w = pow_split w k within in
    let z : (pos x -ℤ pos y) +ℤ pos (2 ^ (k - w) * 2 ^ w) ≡ pos (x + (2 ^ k - y)) = omega (arith, ints) in
    mod_mod_wider (x + (2 ^ k - y)) w k within ∙ sym (wrapped_is w (pos x -ℤ pos y) (2 ^ (k - w)) (x + (2 ^ k - y)) z)

-- the difference, from the sum with what y lacks to 2^w
pub mod_sub : (w x y : ℕ) → y ≤ 2 ^ w → (x + (2 ^ w - y)) % 2 ^ w ≡ wrapped w (pos x -ℤ pos y)
mod_sub w x y small =
    let z : (pos x -ℤ pos y) +ℤ pos (1 * 2 ^ w) ≡ pos (x + (2 ^ w - y)) = omega (arith, ints) in
    sym (wrapped_is w (pos x -ℤ pos y) 1 (x + (2 ^ w - y)) z)

-- ---- a join

pub cat_below : (x w y v : ℕ) → x < 2 ^ w → y < 2 ^ v → x * 2 ^ v + y < 2 ^ (w + v)
cat_below x w y v p q =
    let e : 2 ^ v * 2 ^ w ≡ 2 ^ (w + v) = mul_comm (2 ^ v) (2 ^ w) ∙ sym (pow-add 2 w v) in
    omega (arith, mul-add-lt x (2 ^ v) y (2 ^ w) p q, e)

-- the join as the code has it
pub or_of_shifted : (x w y v k : ℕ) → x < 2 ^ w → y < 2 ^ v → w + v ≤ k → bit_or (x * 2 ^ v % 2 ^ k) y ≡ x * 2 ^ v + y
or_of_shifted x w y v k p q within =
    ap (λ n. bit_or n y) (shl_whole x w v k p within) ∙ or_shifted x v y q

-- ---- shifts to the left

pub shl_within : (x w y k : ℕ) → w ≤ k → y < w → x * 2 ^ y % 2 ^ k % 2 ^ w ≡ x * 2 ^ min y w % 2 ^ w
shl_within x w y k within short =
    let e : min y w ≡ y = omega arith in
    mod_mod_wider (x * 2 ^ y) w k within ∙ ap (λ m. x * 2 ^ m % 2 ^ w) (sym e)

pub shl_past : (x w y : ℕ) → w ≤ y → 0 ≡ x * 2 ^ min y w % 2 ^ w
shl_past x w y long =
    let e : min y w ≡ w = omega arith in
    sym (ap (λ m. x * 2 ^ m % 2 ^ w) e ∙ mul-mod_left x (2 ^ w))
