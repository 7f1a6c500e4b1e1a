-- The textbook's circuits over lists of bits, least significant first: the ripple-carry adder, the shift-and-add
-- multiplier, the barrel shifter and comparators.
use Rattle.std.specs.Prelude.{ℕ, suc, ◌-◌, ◌^◌, min, Bool, true, false, not, ◌&&◌, ◌||◌, if◌then◌else◌, List, [], ◌∷◌, ◌++◌, map, length, take, drop, replicate}
use Rattle.bits_core.specs.BitList.{number_of, sign_bit}

-- ---- addition

abbrev pub exclusive_or : Bool → Bool → Bool
exclusive_or a b = if a then not b else b

-- the two outputs of a full adder
abbrev pub sum_bit : Bool → Bool → Bool → Bool
sum_bit a b c = exclusive_or a (exclusive_or b c)

abbrev pub carry_bit : Bool → Bool → Bool → Bool
carry_bit a b c = a && b || (a && c || b && c)

-- full adders in a row: the sum's bits, and the carry out of the last
abbrev pub ripple_sum : List Bool → List Bool → Bool → List Bool
ripple_sum [] ys c = []
ripple_sum (x ∷ xs) [] c = []
ripple_sum (x ∷ xs) (y ∷ ys) c = sum_bit x y c ∷ ripple_sum xs ys (carry_bit x y c)

abbrev pub ripple_carry : List Bool → List Bool → Bool → Bool
ripple_carry [] ys c = c
ripple_carry (x ∷ xs) [] c = c
ripple_carry (x ∷ xs) (y ∷ ys) c = ripple_carry xs ys (carry_bit x y c)

-- ---- shifts by a fixed number of places

abbrev pub shifted_left : ℕ → List Bool → List Bool
shifted_left n xs = take (length xs) (replicate n false ++ xs)

abbrev pub shifted_right : Bool → ℕ → List Bool → List Bool
shifted_right fill n xs = drop n xs ++ replicate n fill

-- ---- multiplication: for each bit of y that is set, x at that bit's place is added to what is there

abbrev pub shift_and_add : List Bool → List Bool → List Bool → List Bool
shift_and_add sum xs [] = sum
shift_and_add sum xs (y ∷ ys) =
    shift_and_add (ripple_sum sum (map (λ x. y && x) xs) false) (shifted_left 1 xs) ys

-- ---- shifts by a number: stage k shifts by 2^k places where bit k of the amount is set, but by no more than there are

abbrev pub barrel_left : ℕ → List Bool → List Bool → List Bool
barrel_left k xs [] = xs
barrel_left k xs (b ∷ bs) =
    barrel_left (suc k) (if b then shifted_left (min (2 ^ k) (length xs)) xs else xs) bs

abbrev pub barrel_right : Bool → ℕ → List Bool → List Bool → List Bool
barrel_right fill k xs [] = xs
barrel_right fill k xs (b ∷ bs) =
    barrel_right fill (suc k)
    (if b then shifted_right fill (min (2 ^ k) (length xs)) xs else xs) bs

-- ---- comparison

-- no place differs
abbrev pub equal_bits : List Bool → List Bool → Bool
equal_bits [] ys = true
equal_bits (x ∷ xs) [] = false
equal_bits (x ∷ xs) (y ∷ ys) = not (exclusive_or x y) && equal_bits xs ys

-- the list with its sign bit turned round, whose number has the order of the signed value
abbrev pub sign_turned : List Bool → List Bool
sign_turned xs = take (length xs - 1) xs ++ not (sign_bit xs) ∷ []

-- ---- bit by bit

abbrev pub bitwise : (Bool → Bool → Bool) → List Bool → List Bool → List Bool
bitwise f [] ys = []
bitwise f (x ∷ xs) [] = []
bitwise f (x ∷ xs) (y ∷ ys) = f x y ∷ bitwise f xs ys

-- ---- saturation in two's complement: the end of the type on the side of the first operand, where the sum or difference is past it

abbrev pub end_of : List Bool → ℕ
end_of xs = if sign_bit xs then 2 ^ (length xs - 1) else 2 ^ (length xs - 1) - 1

-- two operands of one sign cannot give the other
abbrev pub signed_sum_or_end : List Bool → List Bool → List Bool → ℕ
signed_sum_or_end xs ys sum =
    if not (exclusive_or (sign_bit xs) (sign_bit ys)) && exclusive_or (sign_bit xs) (sign_bit sum)
    then end_of xs else number_of sum

-- what is less an operand of the other sign cannot change its own
abbrev pub signed_difference_or_end : List Bool → List Bool → List Bool → ℕ
signed_difference_or_end xs ys difference =
    if exclusive_or (sign_bit xs) (sign_bit ys) && exclusive_or (sign_bit xs) (sign_bit difference)
    then end_of xs else number_of difference
