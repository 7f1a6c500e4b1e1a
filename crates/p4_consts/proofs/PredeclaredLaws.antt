-- Names that are declared one after the other.
use Rattle.std.proofs.Common.{◌≡◌, ℕ, zero, suc, ◌+◌, List, [], ◌∷◌, Some, map, drop, ap, slice_get}
use Rattle.std.specs.List.{fold}
use native.Mathlib.Numerals.{unary_clauses}
use Rattle.p4_consts.specs.Predeclared.{with_one_more}

-- the entry at a place is the next
pub next_entry : {A V : Type 0} (f : A → List ℕ × V) (names : List (List ℕ × V)) (table : List A) (i : ℕ) (x : A) →
    slice_get table i ≡ Some x →
    fold with_one_more names (map f (drop i table)) ≡ fold with_one_more (with_one_more names (f x)) (map f (drop (i + 1) table))
next_entry f names [] i x e = absurd (cc)
next_entry f names (y ∷ ys) zero x e =
    let same : y ≡ x = cc in
    ap (λ z. fold with_one_more (with_one_more names (f z)) (map f ys)) same
next_entry f names (y ∷ ys) (suc i) x e = simp unary_clauses (simp unary_clauses at (next_entry f names ys i x e))
