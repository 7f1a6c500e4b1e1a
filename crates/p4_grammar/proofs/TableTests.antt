-- Tests over the rows of a table, with its nullable forms, FIRST and FOLLOW written out, that show it to be good.
use Rattle.std.proofs.Common.{ℕ, zero, suc, ◌-◌, Bool, true, false, not, ◌&&◌, ◌||◌, eqb, ltb, List, [], ◌∷◌, get_or}
use Rattle.std.specs.Prelude.{None, Some, slice_get}
use Rattle.ll1_engine.specs.declared.grammar.Row.{Row}
use Rattle.ll1_engine.specs.Marks.{marked, all_in}

-- The forms are the symbols below count. nullables marks those that are nullable; firsts and follows have for each form a
-- mark for each word, which are the symbols from count on.
pub record Certificate : Type 0 where
  pub count : ℕ
  pub nullables : List Bool
  pub firsts : List (List Bool)
  pub follows : List (List Bool)

abbrev pub union : List Bool → List Bool → List Bool
union [] b = b
union (x ∷ a) [] = x ∷ a
union (x ∷ a) (y ∷ b) = (x || y) ∷ union a b

abbrev pub within : List Bool → List Bool → Bool
within [] b = true
within (true ∷ a) [] = false
within (false ∷ a) [] = within a []
within (true ∷ a) (false ∷ b) = false
within (true ∷ a) (true ∷ b) = within a b
within (false ∷ a) (y ∷ b) = within a b

abbrev pub apart : List Bool → List Bool → Bool
apart [] b = true
apart (x ∷ a) [] = true
apart (true ∷ a) (true ∷ b) = false
apart (true ∷ a) (false ∷ b) = apart a b
apart (false ∷ a) (y ∷ b) = apart a b

abbrev pub single : ℕ → List Bool
single zero = true ∷ []
single (suc i) = false ∷ single i

abbrev pub nullable_in : Certificate → ℕ → Bool
nullable_in c x = marked c.nullables x

abbrev pub first_marks : Certificate → ℕ → List Bool
first_marks c x = elim (ltb x c.count) [ true ↦ get_or c.firsts x [] | false ↦ single (x - c.count) ]

abbrev pub first_in : Certificate → ℕ → ℕ → Bool
first_in c t x = marked (first_marks c x) (t - c.count)

abbrev pub follow_marks : Certificate → ℕ → List Bool
follow_marks c x = get_or c.follows x []

-- what follows a word is not written out
abbrev pub follow_in : Certificate → ℕ → ℕ → Bool
follow_in c t x = elim (ltb x c.count) [ true ↦ marked (follow_marks c x) (t - c.count) | false ↦ true ]

abbrev pub list_marks : Certificate → List ℕ → List Bool
list_marks c [] = []
list_marks c (x ∷ xs) = elim (nullable_in c x) [ true ↦ union (first_marks c x) (list_marks c xs) | false ↦ first_marks c x ]

abbrev pub null_ok : Certificate → Row → Bool
null_ok c r = elim (all_in (nullable_in c) r.right) [ true ↦ nullable_in c r.left | false ↦ true ]

abbrev pub first_ok : Certificate → Row → Bool
first_ok c r = within (list_marks c r.right) (first_marks c r.left)

-- what stands after the form y in a row of left is in its FOLLOW
abbrev pub behind_ok : Certificate → ℕ → ℕ → List ℕ → Bool
behind_ok c left y ys =
    elim (ltb y c.count) [
      | false ↦ true
      | true ↦ within (list_marks c ys) (follow_marks c y) && (elim (all_in (nullable_in c) ys) [ true ↦ within (follow_marks c left) (follow_marks c y) | false ↦ true ])
    ]

abbrev pub follow_ok : Certificate → ℕ → List ℕ → Bool
follow_ok c left [] = true
follow_ok c left (y ∷ ys) = behind_ok c left y ys && follow_ok c left ys

abbrev pub row_ok : Certificate → Row → Bool
row_ok c r = ltb r.left c.count && (null_ok c r && (first_ok c r && follow_ok c r.left r.right))

-- where s derives the empty list, nothing that r begins with follows their form
abbrev pub plain_ok : Certificate → Row → Row → Bool
plain_ok c r s =
    elim (eqb r.rank 0) [
      | false ↦ true
      | true ↦ elim (all_in (nullable_in c) s.right) [ true ↦ apart (list_marks c r.right) (follow_marks c r.left) | false ↦ true ]
    ]

abbrev pub one_nullable : Certificate → Row → Row → Bool
one_nullable c r s = not (all_in (nullable_in c) r.right && all_in (nullable_in c) s.right)

-- two rows of one form
abbrev pub twins_ok : Certificate → Row → Row → Bool
twins_ok c r s = one_nullable c r s && (apart (list_marks c r.right) (list_marks c s.right) && (plain_ok c r s && plain_ok c s r))

abbrev pub pair_ok : Certificate → Row → Row → Bool
pair_ok c r s = elim (eqb r.left s.left) [ true ↦ twins_ok c r s | false ↦ true ]

abbrev pub against : Certificate → Row → List Row → Bool
against c r [] = true
against c r (s ∷ g) = pair_ok c r s && against c r g

abbrev pub pairs_ok : Certificate → List Row → Bool
pairs_ok c [] = true
pairs_ok c (r ∷ g) = against c r g && pairs_ok c g

-- each row, with its number
abbrev pub all_from : (ℕ → Row → Bool) → ℕ → List Row → Bool
all_from p i [] = true
all_from p i (r ∷ g) = p i r && all_from p (suc i) g

abbrev pub rows_ok : Certificate → List Row → Bool
rows_ok c g = all_from (λ i r. row_ok c r) 0 g

abbrev pub is_left : List Row → ℕ → Bool
is_left [] x = false
is_left (r ∷ g) x = elim (eqb r.left x) [ true ↦ true | false ↦ is_left g x ]

-- each symbol below n is the left of a row
abbrev pub lefts_ok : List Row → ℕ → Bool
lefts_ok g zero = true
lefts_ok g (suc n) = is_left g n && lefts_ok g n

abbrev pub lacks : ℕ → List ℕ → Bool
lacks t [] = true
lacks t (x ∷ xs) = not (eqb x t) && lacks t xs

abbrev pub rest_of : List ℕ → List ℕ
rest_of [] = []
rest_of (x ∷ xs) = xs

-- row k alone has a rank, and t only at its start; its form has no row besides it and row j
abbrev pub rank_ok : ℕ → ℕ → ℕ → ℕ → ℕ → Row → Bool
rank_ok t left k j i q =
    elim (eqb i k) [
      | true ↦ lacks t (rest_of q.right)
      | false ↦ eqb q.rank 0 && (lacks t q.right && (elim (eqb q.left left) [ true ↦ eqb i j | false ↦ true ]))
    ]

-- each symbol is a word, or a form that is marked as known
abbrev pub all_known : ℕ → List Bool → List ℕ → Bool
all_known count known [] = true
all_known count known (x ∷ xs) = (elim (ltb x count) [ true ↦ marked known x | false ↦ true ]) && all_known count known xs

abbrev pub mark_at : List Bool → ℕ → List Bool
mark_at [] zero = true ∷ []
mark_at [] (suc i) = false ∷ mark_at [] i
mark_at (x ∷ xs) zero = true ∷ xs
mark_at (x ∷ xs) (suc i) = x ∷ mark_at xs i

-- the rows of these numbers, each of known symbols and of the lefts before it, make known each left of a row
abbrev pub lefts_known : List Bool → List Row → Bool
lefts_known known [] = true
lefts_known known (r ∷ g) = marked known r.left && lefts_known known g

abbrev pub walk_ok : ℕ → List Row → List ℕ → List Bool → Bool
walk_ok count g [] known = lefts_known known g
walk_ok count g (k ∷ order) known =
    elim (slice_get g k) [
      | None ↦ false
      | Some r ↦ all_known count known r.right && walk_ok count g order (mark_at known r.left)
    ]

abbrev pub all_below : ℕ → List ℕ → Bool
all_below n [] = true
all_below n (x ∷ xs) = ltb x n && all_below n xs

abbrev pub row_below : ℕ → Row → Bool
row_below n r = ltb r.left n && all_below n r.right
