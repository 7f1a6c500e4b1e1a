-- For a barrel shifter, to the left and to the right.
use Rattle.std.proofs.Common.{◌≡◌, ℕ, zero, suc, ◌+◌, ◌-◌, ◌*◌, ◌/◌, ◌%◌, ◌^◌, ◌<◌, ◌≤◌, Bool, true, false, List, [], ◌∷◌, ◌++◌, length, drop, replicate, min, refl, sym, ap, ◌∙◌, subst, arith, ⊎_elim, get_or}
use Rattle.std.specs.Prelude.{map, not, nat_lt, if◌then◌else◌, pos}
use Rattle.std.specs.Int.{int_div_euclid}
use Rattle.std.proofs.Math.Nat.{mod-eq_of_lt, div-eq_of_lt, mul-mod_left, pow-succ', mul_assoc}
use Rattle.std.proofs.lemmas.Bool.{cases_lt, cond-true, cond-false, lt-ltb, le-ltb}
use Rattle.std.proofs.lemmas.List.{length-map, length-replicate, length-append, length-drop, map-append, drop-map, get_or-take, get_or-drop, get_or-replicate, get_or_append_left, get_or-append_right}
use Rattle.std.proofs.lemmas.Nat.{pow-add, pow_pos, shr-shr, mul-mod_first}
use Rattle.bits_core.specs.declared.operator.Op.TheVariants.{Shl, ShrU, ShrS}
use Rattle.bits_core.specs.BitList.{number_of, sign_bit}
use Rattle.bits_core.specs.Circuit.{shifted_left, shifted_right, barrel_left, barrel_right}
use Rattle.bits_core.specs.Number.{signed_value, wrapped}
use Rattle.bits_core.specs.Operator.{operator_value}
use Rattle.bits_core.proofs.BitListLaws.{number_of_append, number_of_below, number_of_drop, number_of_not, number_of_zeros, sign_bit_low, sign_bit_high}
use Rattle.bits_core.proofs.MultiplierLaws.{length_shifted_left, number_of_shifted_left}
use Rattle.bits_core.proofs.SignLaws.{shr_low, shr_high}
use Rattle.bits_core.proofs.WidthLaws.{pow_le, pow_split}

-- ---- amounts past the width

-- the operators' definitions stop the amount at the width, which loses nothing
pub shl_min : (x w n : ℕ) → (x * 2 ^ min n w) % 2 ^ w ≡ (x * 2 ^ n) % 2 ^ w
shl_min x w n =
    ⊎_elim
    (λ (short : n < w). let least : min n w ≡ n = omega arith in ap (λ (m : ℕ). (x * 2 ^ m) % 2 ^ w) least)
    (λ (long : w ≤ n).
    let least : min n w ≡ w = omega arith in
    let split : x * 2 ^ n ≡ x * 2 ^ (n - w) * 2 ^ w =
    ap (λ (m : ℕ). x * m) (pow_split w n long) ∙ sym (mul_assoc x (2 ^ (n - w)) (2 ^ w)) in
    ap (λ (m : ℕ). (x * 2 ^ m) % 2 ^ w) least ∙ mul-mod_left x (2 ^ w)
    ∙ sym (ap (λ (m : ℕ). m % 2 ^ w) split ∙ mul-mod_left (x * 2 ^ (n - w)) (2 ^ w)))
    (cases_lt n w)

pub shr_min : (x w n : ℕ) → x < 2 ^ w → x / 2 ^ min n w ≡ x / 2 ^ n
shr_min x w n fits =
    ⊎_elim
    (λ (short : n < w). let least : min n w ≡ n = omega arith in ap (λ (m : ℕ). x / 2 ^ m) least)
    (λ (long : w ≤ n).
    let least : min n w ≡ w = omega arith in
    ap (λ (m : ℕ). x / 2 ^ m) least ∙ div-eq_of_lt fits ∙ sym (div-eq_of_lt (omega (arith, pow_le w n long))))
    (cases_lt n w)

turned_below : (x p : ℕ) → 0 < p → p - 1 - x < p
turned_below x p some = omega arith

pub shr_signed_min : (x w n : ℕ) → x < 2 ^ w →
    wrapped w (int_div_euclid (signed_value w x) (pos (2 ^ min n w))) ≡ wrapped w (int_div_euclid (signed_value w x) (pos (2 ^ n)))
shr_signed_min x w n fits =
    let turned = 2 ^ w - 1 - x in
    ⊎_elim
    (λ (low : x < 2 ^ (w - 1)).
    sym (shr_low w x (2 ^ min n w) low fits) ∙ shr_min x w n fits ∙ shr_low w x (2 ^ n) low fits)
    (λ (high : 2 ^ (w - 1) ≤ x).
    sym (shr_high w x (2 ^ min n w) high fits)
    ∙ ap (λ (m : ℕ). 2 ^ w - 1 - m) (shr_min turned w n (turned_below x (2 ^ w) (pow_pos w)))
    ∙ shr_high w x (2 ^ n) high fits)
    (cases_lt x (2 ^ (w - 1)))

-- ---- the amount that the stages from k on shift by

amount_none : (k : ℕ) → 2 ^ (2 ^ k * 0) ≡ 1
amount_none k =
    let nothing : 2 ^ k * 0 ≡ 0 = omega arith in
    ap (λ (m : ℕ). 2 ^ m) nothing

amount_all : (n : ℕ) → 2 ^ 0 * n ≡ n
amount_all n = omega arith

by_one : (x : ℕ) → x * 1 ≡ x
by_one x = omega arith

over_one : (x : ℕ) → x / 1 ≡ x
over_one x = omega arith

amount_true : (k n : ℕ) → 2 ^ k + 2 ^ suc k * n ≡ 2 ^ k * (1 + 2 * n)
amount_true k n = rw (pow-succ' 2 k) (omega arith)

amount_false : (k n : ℕ) → 2 ^ suc k * n ≡ 2 ^ k * (0 + 2 * n)
amount_false k n = rw (pow-succ' 2 k) (omega arith)

-- ---- to the left

left_step : (x a b m : ℕ) → ((x * 2 ^ a) % m * 2 ^ b) % m ≡ (x * 2 ^ (a + b)) % m
left_step x a b m =
    mul-mod_first (x * 2 ^ a) (2 ^ b) m
    ∙ ap (λ (n : ℕ). n % m) (mul_assoc x (2 ^ a) (2 ^ b) ∙ ap (λ (p : ℕ). x * p) (sym (pow-add 2 a b)))

pub number_of_barrel_left : (k : ℕ) (xs bs : List Bool) →
    number_of (barrel_left k xs bs) ≡ (number_of xs * 2 ^ (2 ^ k * number_of bs)) % 2 ^ length xs
number_of_barrel_left k xs [] =
    sym (ap (λ (p : ℕ). (number_of xs * p) % 2 ^ length xs) (amount_none k)
    ∙ ap (λ (n : ℕ). n % 2 ^ length xs) (by_one (number_of xs)) ∙ mod-eq_of_lt (number_of_below xs))
number_of_barrel_left k xs (false ∷ bs) =
    number_of_barrel_left (suc k) xs bs
    ∙ ap (λ (m : ℕ). (number_of xs * 2 ^ m) % 2 ^ length xs) (amount_false k (number_of bs))
number_of_barrel_left k xs (true ∷ bs) =
    let w = length xs in
    let n = min (2 ^ k) w in
    let rest = 2 ^ suc k * number_of bs in
    number_of_barrel_left (suc k) (shifted_left n xs) bs
    ∙ ap (λ (v : ℕ). (number_of (shifted_left n xs) * 2 ^ rest) % 2 ^ v) (length_shifted_left n xs)
    ∙ ap (λ (m : ℕ). (m * 2 ^ rest) % 2 ^ w) (number_of_shifted_left n xs ∙ shl_min (number_of xs) w (2 ^ k))
    ∙ left_step (number_of xs) (2 ^ k) rest (2 ^ w)
    ∙ ap (λ (m : ℕ). (number_of xs * 2 ^ m) % 2 ^ w) (amount_true k (number_of bs))

pub shift_left_by_barrel : (xs bs : List Bool) →
    number_of (barrel_left 0 xs bs) ≡ operator_value Shl (length xs) (number_of xs) (length bs) (number_of bs)
shift_left_by_barrel xs bs =
    number_of_barrel_left 0 xs bs
    ∙ ap (λ (m : ℕ). (number_of xs * 2 ^ m) % 2 ^ length xs) (amount_all (number_of bs))
    ∙ sym (shl_min (number_of xs) (length xs) (number_of bs))

-- ---- to the right, where zeros come in

pub number_of_shifted_right : (n : ℕ) (xs : List Bool) → number_of (shifted_right false n xs) ≡ number_of xs / 2 ^ n
number_of_shifted_right n xs =
    number_of_append (drop n xs) (replicate n false)
    ∙ ap (λ (m : ℕ). m * 2 ^ length (drop n xs) + number_of (drop n xs)) (number_of_zeros n)
    ∙ omega arith ∙ number_of_drop n xs

pub length_shifted_right : (fill : Bool) (n : ℕ) (xs : List Bool) → n ≤ length xs → length (shifted_right fill n xs) ≡ length xs
length_shifted_right fill n xs within =
    omega (arith, length-append (drop n xs) (replicate n fill), length-drop n xs, length-replicate n fill)

pub number_of_barrel_right : (k : ℕ) (xs bs : List Bool) →
    number_of (barrel_right false k xs bs) ≡ number_of xs / 2 ^ (2 ^ k * number_of bs)
number_of_barrel_right k xs [] = sym (ap (λ (p : ℕ). number_of xs / p) (amount_none k) ∙ over_one (number_of xs))
number_of_barrel_right k xs (false ∷ bs) =
    number_of_barrel_right (suc k) xs bs ∙ ap (λ (m : ℕ). number_of xs / 2 ^ m) (amount_false k (number_of bs))
number_of_barrel_right k xs (true ∷ bs) =
    let n = min (2 ^ k) (length xs) in
    let rest = 2 ^ suc k * number_of bs in
    number_of_barrel_right (suc k) (shifted_right false n xs) bs
    ∙ ap (λ (m : ℕ). m / 2 ^ rest) (number_of_shifted_right n xs ∙ shr_min (number_of xs) (length xs) (2 ^ k) (number_of_below xs))
    ∙ shr-shr (number_of xs) (2 ^ k) rest
    ∙ ap (λ (m : ℕ). number_of xs / 2 ^ m) (amount_true k (number_of bs))

pub shift_right_by_barrel : (xs bs : List Bool) →
    number_of (barrel_right false 0 xs bs) ≡ operator_value ShrU (length xs) (number_of xs) (length bs) (number_of bs)
shift_right_by_barrel xs bs =
    number_of_barrel_right 0 xs bs
    ∙ ap (λ (m : ℕ). number_of xs / 2 ^ m) (amount_all (number_of bs))
    ∙ sym (shr_min (number_of xs) (length xs) (number_of bs) (number_of_below xs))

-- ---- to the right, where ones come in: the same with all bits turned round

not_replicate : (n : ℕ) (b : Bool) → map not (replicate n b) ≡ replicate n (not b)
not_replicate zero b = refl
not_replicate (suc n) b = ap (λ (bs : List Bool). not b ∷ bs) (not_replicate n b)

not_shifted_right : (n : ℕ) (xs : List Bool) → map not (shifted_right true n xs) ≡ shifted_right false n (map not xs)
not_shifted_right n xs =
    map-append not (drop n xs) (replicate n true)
    ∙ ap (λ (bs : List Bool). map not (drop n xs) ++ bs) (not_replicate n true)
    ∙ ap (λ (bs : List Bool). bs ++ replicate n false) (sym (drop-map not n xs))

not_barrel_right : (k : ℕ) (xs bs : List Bool) → map not (barrel_right true k xs bs) ≡ barrel_right false k (map not xs) bs
not_barrel_right k xs [] = refl
not_barrel_right k xs (false ∷ bs) = not_barrel_right (suc k) xs bs
not_barrel_right k xs (true ∷ bs) =
    not_barrel_right (suc k) (shifted_right true (min (2 ^ k) (length xs)) xs) bs
    ∙ ap (λ (ys : List Bool). barrel_right false (suc k) ys bs)
    (not_shifted_right (min (2 ^ k) (length xs)) xs
    ∙ ap (λ (w : ℕ). shifted_right false (min (2 ^ k) w) (map not xs)) (sym (length-map xs not)))

pub length_barrel_right : (fill : Bool) (k : ℕ) (xs bs : List Bool) → length (barrel_right fill k xs bs) ≡ length xs
length_barrel_right fill k xs [] = refl
length_barrel_right fill k xs (false ∷ bs) = length_barrel_right fill (suc k) xs bs
length_barrel_right fill k xs (true ∷ bs) =
    length_barrel_right fill (suc k) (shifted_right fill (min (2 ^ k) (length xs)) xs) bs
    ∙ length_shifted_right fill (min (2 ^ k) (length xs)) xs (omega arith)

turned_back : (p m n : ℕ) → n < p → m ≡ p - 1 - n → n ≡ p - 1 - m
turned_back p m n below e = omega arith

pub number_of_barrel_right_ones : (k : ℕ) (xs bs : List Bool) →
    number_of (barrel_right true k xs bs) ≡ 2 ^ length xs - 1 - (2 ^ length xs - 1 - number_of xs) / 2 ^ (2 ^ k * number_of bs)
number_of_barrel_right_ones k xs bs =
    let out = barrel_right true k xs bs in
    let p = 2 ^ length xs in
    let kept : length out ≡ length xs = length_barrel_right true k xs bs in
    let below : number_of out < p = subst (λ (w : ℕ). number_of out < 2 ^ w) kept (number_of_below out) in
    let outer : number_of (map not out) ≡ p - 1 - number_of out = number_of_not out ∙ ap (λ (w : ℕ). 2 ^ w - 1 - number_of out) kept in
    let inner : number_of (map not out) ≡ (p - 1 - number_of xs) / 2 ^ (2 ^ k * number_of bs) =
    ap number_of (not_barrel_right k xs bs) ∙ number_of_barrel_right k (map not xs) bs
    ∙ ap (λ (n : ℕ). n / 2 ^ (2 ^ k * number_of bs)) (number_of_not xs) in
    turned_back p (number_of (map not out)) (number_of out) below outer ∙ ap (λ (n : ℕ). p - 1 - n) inner

signed_cases : (xs bs : List Bool) → 1 ≤ length xs → (sign : Bool) → sign_bit xs ≡ sign →
    number_of (barrel_right sign 0 xs bs) ≡ operator_value ShrS (length xs) (number_of xs) (length bs) (number_of bs)
signed_cases xs bs some false e =
    let w = length xs in
    let y = number_of bs in
    number_of_barrel_right 0 xs bs
    ∙ ap (λ (m : ℕ). number_of xs / 2 ^ m) (amount_all (number_of bs))
    ∙ sym (shr_min (number_of xs) w y (number_of_below xs))
    ∙ shr_low w (number_of xs) (2 ^ min y w) (sign_bit_low xs some e) (number_of_below xs)
signed_cases xs bs some true e =
    let w = length xs in
    let y = number_of bs in
    let turned = 2 ^ w - 1 - number_of xs in
    number_of_barrel_right_ones 0 xs bs
    ∙ ap (λ (m : ℕ). 2 ^ w - 1 - turned / 2 ^ m) (amount_all y)
    ∙ ap (λ (n : ℕ). 2 ^ w - 1 - n) (sym (shr_min turned w y (turned_below (number_of xs) (2 ^ w) (pow_pos w))))
    ∙ shr_high w (number_of xs) (2 ^ min y w) (sign_bit_high xs some e) (number_of_below xs)

-- the sign bit comes in
pub shift_right_signed_by_barrel : (xs bs : List Bool) → 1 ≤ length xs →
    number_of (barrel_right (sign_bit xs) 0 xs bs) ≡ operator_value ShrS (length xs) (number_of xs) (length bs) (number_of bs)
shift_right_signed_by_barrel xs bs some = signed_cases xs bs some (sign_bit xs) refl

-- ---- the bit at a place after a shift by n places, as a row of multiplexers has it

pub get_or_shifted_left : (n : ℕ) (xs : List Bool) (place : ℕ) → place < length xs →
    get_or (shifted_left n xs) place false ≡ (if nat_lt place n then false else get_or xs (place - n) false)
get_or_shifted_left n xs place within =
    get_or-take (length xs) (replicate n false ++ xs) place false within
    ∙ ⊎_elim
    (λ (below : place < n).
    let under : place < length (replicate n false) = omega (arith, length-replicate n false) in
    get_or_append_left (replicate n false) xs false place under ∙ get_or-replicate n place false false below
    ∙ sym (cond-true (nat_lt place n) false (get_or xs (place - n) false) (lt-ltb place n below)))
    (λ (above : n ≤ place).
    get_or-append_right (replicate n false) xs n place false (length-replicate n false) above
    ∙ sym (cond-false (nat_lt place n) false (get_or xs (place - n) false) (le-ltb place n above)))
    (cases_lt place n)

pub get_or_shifted_right : (fill : Bool) (n : ℕ) (xs : List Bool) (place : ℕ) → n ≤ length xs → place < length xs →
    get_or (shifted_right fill n xs) place false ≡ (if nat_lt (n + place) (length xs) then get_or xs (n + place) false else fill)
get_or_shifted_right fill n xs place enough within =
    ⊎_elim
    (λ (below : n + place < length xs).
    let under : place < length (drop n xs) = omega (arith, length-drop n xs) in
    get_or_append_left (drop n xs) (replicate n fill) false place under ∙ get_or-drop n xs place false
    ∙ sym (cond-true (nat_lt (n + place) (length xs)) (get_or xs (n + place) false) fill (lt-ltb (n + place) (length xs) below)))
    (λ (above : length xs ≤ n + place).
    let rest : place - (length xs - n) < n = omega arith in
    get_or-append_right (drop n xs) (replicate n fill) (length xs - n) place false (length-drop n xs) (omega arith)
    ∙ get_or-replicate n (place - (length xs - n)) fill false rest
    ∙ sym (cond-false (nat_lt (n + place) (length xs)) (get_or xs (n + place) false) fill (le-ltb (n + place) (length xs) above)))
    (cases_lt (n + place) (length xs))
