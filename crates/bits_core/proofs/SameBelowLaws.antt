-- Numbers with the same lowest bits: what is the same below a place stays so through sums, differences, negations and products.
use Rattle.std.proofs.Common.{◌≡◌, ℕ, ◌+◌, ◌-◌, ◌*◌, ◌/◌, ◌%◌, ◌^◌, ◌<◌, ◌≤◌, refl, sym, ap, ◌∙◌, subst, arith}
use Rattle.std.specs.Prelude.{min, bit_and}
use Rattle.std.specs.Int.{bit_at}
use Rattle.std.proofs.Math.Nat.{add-mod, add-mul-mod_self_right}
use Rattle.std.proofs.lemmas.Nat.{pow_pos, pow-add, div-add-mod', mod_below, mul-mod, and_le_r}
use Rattle.std.proofs.lemmas.Nat.Bits.{bit_at_and, same_from_bits, same_from_bits_below}
use Rattle.bits_core.specs.declared.operator.Op.TheVariants.{Add, Sub, Mul, Neg}
use Rattle.bits_core.specs.Operator.{operator_value}
use Rattle.bits_core.specs.Place.{SameBelow}
use Rattle.bits_core.proofs.CarryLaws.{subtract_is, turned_mod}
use Rattle.bits_core.proofs.PlaceLaws.{bit_at_mod}
use Rattle.bits_core.proofs.WidthLaws.{mod_mod_wider}

-- ---- by the bits

pub same_below_bits : (n x y : ℕ) → ((i : ℕ) → i < n → bit_at x i ≡ bit_at y i) → SameBelow n x y
same_below_bits n x y same =
    same_from_bits_below n (x % 2 ^ n) (y % 2 ^ n) (mod_below x (2 ^ n) (pow_pos n)) (mod_below y (2 ^ n) (pow_pos n))
    (λ i below. bit_at_mod x n i below ∙ same i below ∙ sym (bit_at_mod y n i below))

pub bit_at_same_below : (n x y i : ℕ) → SameBelow n x y → i < n → bit_at x i ≡ bit_at y i
bit_at_same_below n x y i same below =
    sym (bit_at_mod x n i below) ∙ ap (λ (m : ℕ). bit_at m i) same ∙ bit_at_mod y n i below

pub same_below_fewer : (m n x y : ℕ) → m ≤ n → SameBelow n x y → SameBelow m x y
same_below_fewer m n x y within same =
    sym (mod_mod_wider x m n within) ∙ ap (λ (k : ℕ). k % 2 ^ m) same ∙ mod_mod_wider y m n within

-- a number with no bit that the other lacks
pub le_from_bits : (x y : ℕ) → ((i : ℕ) → bit_at x i ≤ bit_at y i) → x ≤ y
le_from_bits x y under =
    let both : bit_and x y ≡ x =
    same_from_bits (bit_and x y) x (λ i. let least : min (bit_at x i) (bit_at y i) ≡ bit_at x i = omega (arith, under i) in bit_at_and x y i ∙ least) in
    subst (λ (n : ℕ). n ≤ y) both (and_le_r x y)

-- ---- numbers

pub same_below_sum : (n x z y u : ℕ) → SameBelow n x z → SameBelow n y u → SameBelow n (x + y) (z + u)
same_below_sum n x z y u first second =
    add-mod x y (2 ^ n)
    ∙ ap (λ (m : ℕ). (m + y % 2 ^ n) % 2 ^ n) first ∙ ap (λ (m : ℕ). (z % 2 ^ n + m) % 2 ^ n) second
    ∙ sym (add-mod z u (2 ^ n))

pub same_below_product : (n x z y u : ℕ) → SameBelow n x z → SameBelow n y u → SameBelow n (x * y) (z * u)
same_below_product n x z y u first second =
    mul-mod x y (2 ^ n)
    ∙ ap (λ (m : ℕ). (m * (y % 2 ^ n)) % 2 ^ n) first ∙ ap (λ (m : ℕ). (z % 2 ^ n * m) % 2 ^ n) second
    ∙ sym (mul-mod z u (2 ^ n))

spread : (a p r q s : ℕ) → (a * p + r) * (q * s) ≡ r * (q * s) + (a * q) * (p * s)
spread a p r q s = omega arith

-- the product with what ends in k zeros, from n lowest bits
product_low : (n k x q : ℕ) → (x * (q * 2 ^ k)) % 2 ^ (n + k) ≡ (x % 2 ^ n * (q * 2 ^ k)) % 2 ^ (n + k)
product_low n k x q =
    let p = 2 ^ n in
    let s = 2 ^ k in
    ap (λ (m : ℕ). (m * (q * s)) % 2 ^ (n + k)) (sym (div-add-mod' x p))
    ∙ ap (λ (m : ℕ). m % 2 ^ (n + k)) (spread (x / p) p (x % p) q s)
    ∙ ap (λ (m : ℕ). (x % p * (q * s) + x / p * q * m) % 2 ^ (n + k)) (sym (pow-add 2 n k))
    ∙ add-mul-mod_self_right (x % p * (q * s)) (x / p * q) (2 ^ (n + k))

-- zeros at the end of one factor move the first place that counts of the other
pub same_below_product_zeros : (n k x z y : ℕ) → SameBelow n x z → y % 2 ^ k ≡ 0 → SameBelow (n + k) (x * y) (z * y)
same_below_product_zeros n k x z y same zeros =
    let q = y / 2 ^ k in
    let whole : q * 2 ^ k ≡ y = omega (arith, div-add-mod' y (2 ^ k)) in
    subst (λ (m : ℕ). SameBelow (n + k) (x * m) (z * m)) whole
    (product_low n k x q ∙ ap (λ (m : ℕ). (m * (q * 2 ^ k)) % 2 ^ (n + k)) same ∙ sym (product_low n k z q))

pub product_zeros : (n k x y : ℕ) → x % 2 ^ n ≡ 0 → y % 2 ^ k ≡ 0 → (x * y) % 2 ^ (n + k) ≡ 0
product_zeros n k x y first second =
    let none : 0 % 2 ^ n ≡ 0 = omega arith in
    let nothing : 0 * y ≡ 0 = omega arith in
    let zero_low : 0 % 2 ^ (n + k) ≡ 0 = omega arith in
    same_below_product_zeros n k x 0 y (first ∙ sym none) second ∙ ap (λ (m : ℕ). m % 2 ^ (n + k)) nothing ∙ zero_low

-- ---- the rows that carry, by the names of their functions

pub same_below_add : (n w x z v y u : ℕ) → n ≤ w → SameBelow n x z → SameBelow n y u →
    SameBelow n (operator_value Add w x v y) (operator_value Add w z v u)
same_below_add n w x z v y u within first second =
    mod_mod_wider (x + y) n w within ∙ same_below_sum n x z y u first second ∙ sym (mod_mod_wider (z + u) n w within)

pub same_below_subtract : (n w x z v y u : ℕ) → n ≤ w → y < 2 ^ w → u < 2 ^ w → SameBelow n x z → SameBelow n y u →
    SameBelow n (operator_value Sub w x v y) (operator_value Sub w z v u)
same_below_subtract n w x z v y u within fits other first second =
    let a = 2 ^ w - 1 - y in
    let b = 2 ^ w - 1 - u in
    let turned : SameBelow n a b =
    turned_mod w y n fits within ∙ ap (λ (m : ℕ). 2 ^ n - 1 - m) second ∙ sym (turned_mod w u n other within) in
    ap (λ (m : ℕ). m % 2 ^ n) (subtract_is w x v y fits) ∙ mod_mod_wider (x + a + 1) n w within
    ∙ same_below_sum n (x + a) (z + b) 1 1 (same_below_sum n x z a b first turned) refl
    ∙ sym (ap (λ (m : ℕ). m % 2 ^ n) (subtract_is w z v u other) ∙ mod_mod_wider (z + b + 1) n w within)

pub same_below_negate : (n w x z v y u : ℕ) → n ≤ w → x < 2 ^ w → z < 2 ^ w → SameBelow n x z →
    SameBelow n (operator_value Neg w x v y) (operator_value Neg w z v u)
same_below_negate n w x z v y u within fits other same = same_below_subtract n w 0 0 v x z within fits other refl same

pub same_below_multiply : (n w x z v y u : ℕ) → n ≤ w → SameBelow n x z → SameBelow n y u →
    SameBelow n (operator_value Mul w x v y) (operator_value Mul w z v u)
same_below_multiply n w x z v y u within first second =
    mod_mod_wider (x * y) n w within ∙ same_below_product n x z y u first second ∙ sym (mod_mod_wider (z * u) n w within)
