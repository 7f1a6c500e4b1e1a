-- Fronts, rests and literals of lists.
use Rattle.std.proofs.Common.{◌≡◌, ℕ, ◌+◌, ◌≤◌, ◌⊎◌, List, [], ◌∷◌, ◌++◌, zero, suc, length, get_or, take, drop, inl, inr, refl, ap, sym, ◌∙◌, subst, arith}
use Rattle.std.specs.Prelude.{All, Any, Contains, remove}
use Rattle.std.proofs.lemmas.Bool.{cases_lt}
use Rattle.std.proofs.lemmas.List.{get_or_default, take-append-drop, take-take, drop-drop}
use Rattle.std.proofs.lemmas.List.Elements.{Contains-append_left, Contains-append_right, Contains-append_cases}
use Rattle.cnf_core.specs.declared.formula.Lit.{Lit}
use Rattle.cnf_core.specs.Literal.{negation, IsApart}
use Rattle.cnf_core.proofs.Literals.{negation-not_itself}
use Rattle.unit_propagation.specs.Units.{IsConsistent}

pub take_within : (n : ℕ) (xs : List Lit) (l : Lit) → Contains (take n xs) l → Contains xs l
take_within n xs l stands = subst (λ (ys : List Lit). Contains ys l) (take-append-drop n xs) (Contains-append_left (take n xs) (drop n xs) l stands)

pub drop_within : (n : ℕ) (xs : List Lit) (l : Lit) → Contains (drop n xs) l → Contains xs l
drop_within n xs l stands = subst (λ (ys : List Lit). Contains ys l) (take-append-drop n xs) (Contains-append_right (take n xs) (drop n xs) l stands)

pub take_longer : (n m : ℕ) (xs : List Lit) (l : Lit) → n ≤ m → Contains (take n xs) l → Contains (take m xs) l
take_longer n m xs l few stands = take_within n (take m xs) l (subst (λ (ys : List Lit). Contains ys l) (sym (take-take n m xs few)) stands)

pub drop_longer : (n : ℕ) (xs : List Lit) (l : Lit) → Contains (drop (n + 1) xs) l → Contains (drop n xs) l
drop_longer n xs l stands = drop_within 1 (drop n xs) l (subst (λ (ys : List Lit). Contains ys l) (sym (drop-drop 1 n xs)) stands)

-- what is said of the parts is said of the whole
pub append_within : (xs ys zs : List Lit) (l : Lit) → (Contains xs l → Contains zs l) → (Contains ys l → Contains zs l) → Contains (xs ++ ys) l → Contains zs l
append_within xs ys zs l left right stands = elim (Contains-append_cases xs ys l stands) [ inl earlier ↦ left earlier | inr later ↦ right later ]

pub remove_last : (rest : List Lit) (l : Lit) → remove (rest ++ l ∷ []) (length rest) ≡ rest
remove_last [] l = refl
remove_last (x ∷ xs) l = ap (λ (ys : List Lit). x ∷ ys) (remove_last xs l)

-- no variable twice, so no literal with its negation
pub consistent_apart : (lits : List Lit) → IsApart lits → IsConsistent lits
consistent_apart lits apart l (i, inside, at) (j, within, other) = elim (cases_lt i j) [
  | inl below ↦ apart i j l below within same
  | inr past ↦ elim (cases_lt j i) [
    | inl above ↦ apart j i l above inside (sym same)
    | inr no_less ↦ let places : i ≡ j = omega arith in negation-not_itself l (sym at ∙ ap (λ (n : ℕ). get_or lits n l) places ∙ there)
  ]
] where
  there : get_or lits j l ≡ negation l
  there = get_or_default lits j l (negation l) within ∙ other

  same : (get_or lits i l).var ≡ (get_or lits j l).var
  same = ap (λ (k : Lit). k.var) at ∙ ap (λ (k : Lit). k.var) (sym there)

-- one of the elements is of the first kind, or all are of the second
pub any_or_all : {X : Type 0} (A B : X → Type 0) (xs : List X) → All (λ x. A x ⊎ B x) xs → Any A xs ⊎ All B xs
any_or_all A B [] each = inr (λ k d inside. absurd (omega arith))
any_or_all {X} A B (x ∷ xs) each = elim (each 0 x (omega arith)) [
  | inl here ↦ inl (0, x, omega arith, refl, here)
  | inr there ↦ elim (any_or_all A B xs (λ k d inside. each (suc k) d (omega arith))) [
    | inl later ↦ inl (next later)
    | inr all ↦ inr (both there all)
  ]
] where
  next : Any A xs → Any A (x ∷ xs)
  next (k, y, inside, at, holds) = (suc k, y, omega arith, at, holds)

  both : B x → All B xs → All B (x ∷ xs)
  both first rest zero d inside = first
  both first rest (suc k) d inside = rest k d (omega arith)
