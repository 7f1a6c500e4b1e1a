-- Counts over two lists of one length: where one test passes the other does, and at some place only the other.
use Rattle.std.proofs.Common.{◌≡◌, ℕ, ◌<◌, ◌≤◌, Bool, true, false, cond, List, [], ◌∷◌, zero, suc, length, get_or, refl, ap, arith}
use Rattle.std.specs.Prelude.{IsTrue, count_by}
use Rattle.std.proofs.lemmas.List.Sums.{sum_by-cons}

-- a test as a number
abbrev pub weight : Bool → ℕ
weight b = cond b 1 0

weight_le : (a b : Bool) → (IsTrue a → IsTrue b) → weight a ≤ weight b
weight_le true b h = let e : weight b ≡ 1 = ap (λ (t : Bool). weight t) (h refl) in omega arith
weight_le false b h = omega arith

pub count_le : {X Y : Type 0} (f : X → Bool) (g : Y → Bool) (xs : List X) (ys : List Y) → length xs ≡ length ys →
    ((i : ℕ) (x : X) (y : Y) → i < length xs → IsTrue (f (get_or xs i x)) → IsTrue (g (get_or ys i y))) → count_by f xs ≤ count_by g ys
count_le f g [] [] same h = omega arith
count_le f g [] (y ∷ ys) same h = omega arith
count_le f g (x ∷ xs) [] same h = absurd (omega arith)
count_le f g (x ∷ xs) (y ∷ ys) same h =
    let rest = count_le f g xs ys (omega arith) (λ i a b inside. h (suc i) a b (omega arith)) in
    let first = weight_le (f x) (g y) (h 0 x y (omega arith)) in
    let left = sum_by-cons (λ a. weight (f a)) x xs in
    let right = sum_by-cons (λ b. weight (g b)) y ys in
    omega arith

pub count_lt : {X Y : Type 0} (f : X → Bool) (g : Y → Bool) (xs : List X) (ys : List Y) (k : ℕ) (d : X) (e : Y) → length xs ≡ length ys →
    ((i : ℕ) (x : X) (y : Y) → i < length xs → IsTrue (f (get_or xs i x)) → IsTrue (g (get_or ys i y))) →
    k < length xs → f (get_or xs k d) ≡ false → g (get_or ys k e) ≡ true → count_by f xs < count_by g ys
count_lt f g [] ys k d e same h inside is_not is_so = absurd (omega arith)
count_lt f g (x ∷ xs) [] k d e same h inside is_not is_so = absurd (omega arith)
count_lt f g (x ∷ xs) (y ∷ ys) zero d e same h inside is_not is_so =
    let rest = count_le f g xs ys (omega arith) (λ i a b within. h (suc i) a b (omega arith)) in
    let none : weight (f x) ≡ 0 = ap (λ (t : Bool). weight t) is_not in
    let one : weight (g y) ≡ 1 = ap (λ (t : Bool). weight t) is_so in
    let left = sum_by-cons (λ a. weight (f a)) x xs in
    let right = sum_by-cons (λ b. weight (g b)) y ys in
    omega arith
count_lt f g (x ∷ xs) (y ∷ ys) (suc k) d e same h inside is_not is_so =
    let rest = count_lt f g xs ys k d e (omega arith) (λ i a b within. h (suc i) a b (omega arith)) (omega arith) is_not is_so in
    let first = weight_le (f x) (g y) (h 0 x y (omega arith)) in
    let left = sum_by-cons (λ a. weight (f a)) x xs in
    let right = sum_by-cons (λ b. weight (g b)) y ys in
    omega arith
