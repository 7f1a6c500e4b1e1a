-- A list whose first places have been replaced by what a function gives of them.
use Rattle.std.proofs.Common.{◌≡◌, ℕ, suc, zero, ◌<◌, ◌≤◌, List, [], ◌∷◌, ◌++◌, map, length, take, drop, set, get_or, refl, ap, arith}

-- the place that comes next still has its number
pub next_of_each : (f : ℕ → ℕ) (xs : List ℕ) (i : ℕ) → i < length xs → get_or (map f (take i xs) ++ drop i xs) i 0 ≡ get_or xs i 0
next_of_each f [] i within = absurd (omega arith)
next_of_each f (x ∷ xs) zero within = refl
next_of_each f (x ∷ xs) (suc i) within = next_of_each f xs i (omega arith)

pub write_of_each : (f : ℕ → ℕ) (xs : List ℕ) (i : ℕ) → i < length xs →
    set (map f (take i xs) ++ drop i xs) i (f (get_or xs i 0)) ≡ map f (take (suc i) xs) ++ drop (suc i) xs
write_of_each f [] i within = absurd (omega arith)
write_of_each f (x ∷ xs) zero within = refl
write_of_each f (x ∷ xs) (suc i) within = ap (λ (ys : List ℕ). f x ∷ ys) (write_of_each f xs i (omega arith))

pub end_of_each : (f : ℕ → ℕ) (xs : List ℕ) (i : ℕ) → length xs ≤ i → map f (take i xs) ++ drop i xs ≡ map f xs
end_of_each f [] zero past = refl
end_of_each f [] (suc i) past = refl
end_of_each f (x ∷ xs) zero past = absurd (omega arith)
end_of_each f (x ∷ xs) (suc i) past = ap (λ (ys : List ℕ). f x ∷ ys) (end_of_each f xs i (omega arith))
