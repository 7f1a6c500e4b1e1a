-- Reading a list that has grown at its end.
use Rattle.std.proofs.Common.{◌≡◌, ℕ, zero, suc, ◌<◌, ◌⊎◌, inl, inr, List, [], ◌∷◌, ◌++◌, length, slice_get, Some, refl, arith, ap}

pub slice_get_append : {X : Type 0} (xs ys : List X) (k : ℕ) → k < length xs → slice_get (xs ++ ys) k ≡ slice_get xs k
slice_get_append [] ys k l = absurd (omega arith)
slice_get_append (x ∷ xs) ys zero l = refl
slice_get_append (x ∷ xs) ys (suc k) l = slice_get_append xs ys k (omega arith)

pub slice_get_last : {X : Type 0} (xs : List X) (x : X) → slice_get (xs ++ x ∷ []) (length xs) ≡ Some x
slice_get_last [] x = refl
slice_get_last (y ∷ xs) x = slice_get_last xs x

pub before_or_last : {X : Type 0} (xs : List X) (x y : X) (k : ℕ) → slice_get (xs ++ x ∷ []) k ≡ Some y
    → (slice_get xs k ≡ Some y) ⊎ ((k ≡ length xs) × (Some x ≡ Some y))
before_or_last [] x y zero e = inr (refl, e)
before_or_last [] x y (suc k) e = inl e
before_or_last (z ∷ xs) x y zero e = inl e
before_or_last (z ∷ xs) x y (suc k) e =
    elim (before_or_last xs x y k e) [
      | inl h ↦ inl h
      | inr h ↦ inr (ap suc h.0, h.1)
    ]
