-- Runs of bytes that pass a test.
use Rattle.std.proofs.Common.{◌≡◌, ℕ, ◌+◌, ◌<◌, ◌≤◌, zero, suc, inl, inr, Bool, true, false, cond, List, [], ◌∷◌, ◌++◌, length, take, get_or, sym, refl, arith, IsTrue}
use Rattle.std.specs.List.{prefix_len, list_all, list_any}
use Rattle.std.proofs.lemmas.List.Sums.{prefix_len_is}
use Rattle.std.proofs.lemmas.Bool.{and_parts, and_from, or_left, or_right, or_cases}

-- at the first byte that fails
pub run_stops : (p : ℕ → Bool) (xs : List ℕ) (i : ℕ) → i < length xs → ((k : ℕ) → k < i → p (get_or xs k 0) ≡ true) → p (get_or xs i 0) ≡ false → i ≡ prefix_len p xs
run_stops p xs i below passes fails = sym (prefix_len_is p xs i 0 (omega arith) passes (λ _. fails))

-- at the end, where none fails
pub run_whole : (p : ℕ → Bool) (xs : List ℕ) (i : ℕ) → length xs ≤ i → ((k : ℕ) → k < i → p (get_or xs k 0) ≡ true) → length xs ≡ prefix_len p xs
run_whole p xs i past passes = sym (prefix_len_is p xs (length xs) 0 (omega arith) (λ k below. passes k (omega arith)) (λ below. absurd (omega arith)))

-- a front of which each byte passes is no longer than the run
pub run_longest : (p : ℕ → Bool) (w rest : List ℕ) → IsTrue (list_all p w) → length w ≤ prefix_len p (w ++ rest)
run_longest p [] rest all = omega arith
run_longest p (c ∷ w) rest all =
    let both = and_parts (p c) (list_all p w) all in
    rw both.0 (omega (arith, run_longest p w rest both.1))

-- the run is that front where what is behind it does not pass
pub run_exact : (p : ℕ → Bool) (w : List ℕ) (c : ℕ) (rest : List ℕ) → IsTrue (list_all p w) → p c ≡ false → prefix_len p (w ++ c ∷ rest) ≡ length w
run_exact p [] c rest all fails = rw fails refl
run_exact p (b ∷ w) c rest all fails =
    let both = and_parts (p b) (list_all p w) all in
    rw both.0 (omega (arith, run_exact p w c rest both.1 fails))

passes_by : (p : ℕ → Bool) (c : ℕ) (xs : List ℕ) (b : Bool) → p c ≡ b → IsTrue (list_all p (take (prefix_len p xs) xs)) → IsTrue (list_all p (take (cond b (1 + prefix_len p xs) 0) (c ∷ xs)))
passes_by p c xs true e rest = let one : 1 + prefix_len p xs ≡ suc (prefix_len p xs) = omega arith in rw one (and_from (p c) (list_all p (take (prefix_len p xs) xs)) e rest)
passes_by p c xs false e rest = refl

-- each byte of the run passes
pub run_passes : (p : ℕ → Bool) (xs : List ℕ) → IsTrue (list_all p (take (prefix_len p xs) xs))
run_passes p [] = refl
run_passes p (c ∷ xs) = passes_by p c xs (p c) refl (run_passes p xs)

-- what passes one test passes a wider one
pub all_wider : (p q : ℕ → Bool) → ((c : ℕ) → p c ≡ true → q c ≡ true) → (w : List ℕ) → IsTrue (list_all p w) → IsTrue (list_all q w)
all_wider p q wider [] all = refl
all_wider p q wider (c ∷ w) all =
    let both = and_parts (p c) (list_all p w) all in
    and_from (q c) (list_all q w) (wider c both.0) (all_wider p q wider w both.1)

-- where some byte of the front passes, some byte of a longer front does
pub any_longer : (p : ℕ → Bool) (w rest : List ℕ) (n : ℕ) → IsTrue (list_any p w) → length w ≤ n → IsTrue (list_any p (take n (w ++ rest)))
any_longer p [] rest n some within = absurd cc
any_longer p (c ∷ w) rest zero some within = absurd (omega arith)
any_longer p (c ∷ w) rest (suc n) some within = elim (or_cases (p c) (list_any p w) some) [
  | inl here ↦ or_left (p c) (list_any p (take n (w ++ rest))) here
  | inr there ↦ or_right (p c) (list_any p (take n (w ++ rest))) (any_longer p w rest n there (omega arith))
]
