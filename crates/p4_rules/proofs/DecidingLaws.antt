-- Of some faults the least decides, and it alone.
use Rattle.std.specs.Prelude.{◌≡◌, ℕ, zero, suc, ◌<◌, ◌⊎◌, List, [], ◌∷◌, Bool, true, false, length, replicate, slice_index_or, Contains}
use Rattle.std.proofs.Common.{refl, sym, ◌∙◌, subst, suc-le-suc, zero-le, inl, inr, arith}
use Rattle.std.proofs.Math.Nat.{not-suc-le-zero, le_of_suc-le-suc}
use Rattle.std.proofs.lemmas.Bool.{cases_order}
use Rattle.std.proofs.lemmas.Grind.{common_steps}
use Rattle.tg_base.specs.declared.place.Refusal.{Refusal}
use Rattle.tg_base.specs.Code.{number_of}
use Rattle.tg_base.specs.Deciding.{DecidesOver}
use Rattle.p4_rules.specs.declared.faults.Fault.{Fault}
use Rattle.p4_rules.specs.Faults.{FaultsAt, Decides, pass_number, refusal_of, order_of, comes_first, earlier, least}
use Rattle.p4_rules.proofs.LeastLaws.{either, one_first, other_first}
use Rattle.tg_base.proofs.RefusalLaws.{decides_over_itself, decides_along, decide_both}

-- ---- the order of faults

-- f is of an earlier pass, or of the same pass and decides over g there
abbrev pub StandsOver : Fault → Fault → Type 0
StandsOver f g =
    (pass_number f.pass < pass_number g.pass)
    ⊎ ((pass_number f.pass ≡ pass_number g.pass) × DecidesOver (refusal_of f) (refusal_of g))

pub over_itself : (f : Fault) → StandsOver f f
over_itself f = inr (refl, decides_over_itself (refusal_of f))

pub over_along : (f g h : Fault) → StandsOver f g → StandsOver g h → StandsOver f h
over_along f g h (inl a) (inl b) = inl (omega (arith, a, b))
over_along f g h (inl a) (inr (same, b)) = inl (omega (arith, a, same))
over_along f g h (inr (same, a)) (inl b) = inl (omega (arith, same, b))
over_along f g h (inr (same, a)) (inr (too, b)) =
    inr (same ∙ too, decides_along (refusal_of f) (refusal_of g) (refusal_of h) a b)

-- where a word comes first, its first number is less, or the same and the rest comes first
first_number : (a b : ℕ) (more others : List ℕ) → comes_first (a ∷ more) (b ∷ others) ≡ true → (a < b) ⊎ ((a ≡ b) × (comes_first more others ≡ true))
first_number a b more others p =
    elim (cases_order a b) [
      | inl same ↦ inr (same, grind (arith, common_steps))
      | inr (inl less) ↦ inl less
      | inr (inr above) ↦ absurd (grind (arith, common_steps))
    ]

by_number : (r s : Refusal) → r.line ≡ s.line → r.column ≡ s.column → comes_first (number_of r.code ∷ []) (number_of s.code ∷ []) ≡ true → DecidesOver r s
by_number r s line column p =
    elim (first_number (number_of r.code) (number_of s.code) [] [] p) [
      | inl less ↦ inr (line, column, omega (arith, less))
      | inr same ↦ inr (line, column, omega (arith, same.0))
    ]

by_column : (r s : Refusal) → r.line ≡ s.line → comes_first (r.column ∷ number_of r.code ∷ []) (s.column ∷ number_of s.code ∷ []) ≡ true → DecidesOver r s
by_column r s line p =
    elim (first_number r.column s.column (number_of r.code ∷ []) (number_of s.code ∷ []) p) [
      | inl less ↦ inl (inr (line, less))
      | inr same ↦ by_number r s line same.0 same.1
    ]

by_line : (r s : Refusal) → comes_first (r.line ∷ r.column ∷ number_of r.code ∷ []) (s.line ∷ s.column ∷ number_of s.code ∷ []) ≡ true → DecidesOver r s
by_line r s p =
    elim (first_number r.line s.line (r.column ∷ number_of r.code ∷ []) (s.column ∷ number_of s.code ∷ []) p) [
      | inl less ↦ inl (inl less)
      | inr same ↦ by_column r s same.0 same.1
    ]

-- what stands behind the number of the pass
abbrev behind_pass : Fault → List ℕ
behind_pass f = f.place.line ∷ f.place.column ∷ number_of f.code ∷ []

pub first_over : (f g : Fault) → comes_first (order_of f) (order_of g) ≡ true → StandsOver f g
first_over f g p =
    elim (first_number (pass_number f.pass) (pass_number g.pass) (behind_pass f) (behind_pass g) p) [
      | inl less ↦ inl less
      | inr same ↦ inr (same.0, by_line (refusal_of f) (refusal_of g) same.1)
    ]

-- ---- the least decides over each

-- it stands over each of them
abbrev pub OverAll : Fault → List Fault → Type 0
OverAll f fs = (g : Fault) → Contains fs g → StandsOver f g

here : (f : Fault) (fs : List Fault) → Contains (f ∷ fs) f
here f fs = (0, suc-le-suc zero-le, refl)

behind : (f g : Fault) (fs : List Fault) → Contains fs g → Contains (f ∷ fs) g
behind f g fs (k, within, is) = (suc k, suc-le-suc within, is)

over_one_more : (f g : Fault) (fs : List Fault) → StandsOver g f → OverAll g fs → OverAll g (f ∷ fs)
over_one_more f g fs over all h (zero, within, is) = subst (StandsOver g) is over
over_one_more f g fs over all h (suc k, within, is) = all h (k, le_of_suc-le-suc within, is)

over_along_all : (f g : Fault) (fs : List Fault) → StandsOver f g → OverAll g fs → OverAll f fs
over_along_all f g fs over all h found = over_along f g h over (all h found)

earlier_over : (f g : Fault) (fs : List Fault) (b : Bool) → comes_first (order_of f) (order_of g) ≡ b → OverAll g fs → OverAll (earlier f g) (f ∷ fs)
earlier_over f g fs true p all =
    subst (λ h. OverAll h (f ∷ fs)) (sym (one_first f g p))
    (over_one_more f f fs (over_itself f) (over_along_all f g fs (first_over f g p) all))
earlier_over f g fs false p all =
    subst (λ h. OverAll h (f ∷ fs)) (sym (other_first f g p))
    (over_one_more f g fs (first_over g f (either (order_of f) (order_of g) p)) all)

none_over : (f : Fault) → OverAll f []
none_over f g (k, within, is) = absurd (not-suc-le-zero within)

least_over : (f : Fault) (fs : List Fault) → OverAll (least f fs) (f ∷ fs)
least_over f [] = over_one_more f f [] (over_itself f) (none_over f)
least_over f (g ∷ gs) = earlier_over f (least g gs) (g ∷ gs) (comes_first (order_of f) (order_of (least g gs))) refl (least_over g gs)

earlier_found : (f g : Fault) (fs : List Fault) (b : Bool) → comes_first (order_of f) (order_of g) ≡ b → Contains fs g → Contains (f ∷ fs) (earlier f g)
earlier_found f g fs true p found = subst (Contains (f ∷ fs)) (sym (one_first f g p)) (here f fs)
earlier_found f g fs false p found = subst (Contains (f ∷ fs)) (sym (other_first f g p)) (behind f g fs found)

least_found : (f : Fault) (fs : List Fault) → Contains (f ∷ fs) (least f fs)
least_found f [] = here f []
least_found f (g ∷ gs) = earlier_found f (least g gs) (g ∷ gs) (comes_first (order_of f) (order_of (least g gs))) refl (least_found g gs)

-- ---- what stands over each decides

of_no_earlier : (faults : List Fault) (f : Fault) → OverAll f faults → (before : ℕ) (s : Refusal) → before < pass_number f.pass → ¬ FaultsAt faults before s
of_no_earlier faults f over before s less there =
    elim (over there.fault there.found) [
      | inl above ↦ omega (arith, less, above, there.of_pass)
      | inr same ↦ omega (arith, less, same.0, there.of_pass)
    ]

over_told : (faults : List Fault) (f : Fault) → OverAll f faults → (s : Refusal) → FaultsAt faults (pass_number f.pass) s → DecidesOver (refusal_of f) s
over_told faults f over s there =
    elim (over there.fault there.found) [
      | inl above ↦ absurd (omega (arith, above, there.of_pass))
      | inr same ↦ subst (DecidesOver (refusal_of f)) there.told same.1
    ]

pub over_decides : (faults : List Fault) (f : Fault) → Contains faults f → OverAll f faults → Decides faults (pass_number f.pass) (refusal_of f)
over_decides faults f found over = (
  of_no_earlier faults f over,
  record {
    found = record { fault = f; found = found; of_pass = refl; told = refl };
    first = over_told faults f over;
  },
)

pub least_decides : (f : Fault) (fs : List Fault) → Decides (f ∷ fs) (pass_number (least f fs).pass) (refusal_of (least f fs))
least_decides f fs = over_decides (f ∷ fs) (least f fs) (least_found f fs) (least_over f fs)

-- ---- it is one alone

later_none : (faults : List Fault) (pass other : ℕ) (r s : Refusal) → Decides faults pass r → Decides faults other s → ¬ (pass < other)
later_none faults pass other r s one two before = two.0 pass r before one.1.found

pub one_pass : (faults : List Fault) (pass other : ℕ) (r s : Refusal) → Decides faults pass r → Decides faults other s → pass ≡ other
one_pass faults pass other r s one two =
    elim (cases_order pass other) [
      | inl same ↦ same
      | inr (inl before) ↦ absurd (later_none faults pass other r s one two before)
      | inr (inr after) ↦ absurd (later_none faults other pass s r two one after)
    ]

in_that_pass : (faults : List Fault) (pass : ℕ) (r s : Refusal) → Decides faults pass r → Decides faults pass s → r ≡ s
in_that_pass faults pass r s one two = decide_both r s (one.1.first s two.1.found) (two.1.first r one.1.found)

pub one_refusal : (faults : List Fault) (pass other : ℕ) (r s : Refusal) → Decides faults pass r → Decides faults other s → r ≡ s
one_refusal faults pass other r s one two =
    in_that_pass faults pass r s one
    (subst (λ n. Decides faults n s) (sym (one_pass faults pass other r s one two)) two)

-- ---- a fault that stands alone, however often

-- what stands in a list of one thing is that thing
in_replicate : (n k : ℕ) (fault other : Fault) → k < length (replicate n fault) → slice_index_or (replicate n fault) k other ≡ other → other ≡ fault
in_replicate zero k fault other within is = absurd (not-suc-le-zero within)
in_replicate (suc n) zero fault other within is = sym is
in_replicate (suc n) (suc k) fault other within is = in_replicate n k fault other (le_of_suc-le-suc within) is

one_fault : (n : ℕ) (fault other : Fault) → Contains (replicate n fault) other → other ≡ fault
one_fault n fault other found = in_replicate n found.0 fault other found.1 found.2

-- one fault, told once or more often, decides
pub alone_decides : (n : ℕ) (fault : Fault) → Decides (replicate (suc n) fault) (pass_number fault.pass) (refusal_of fault)
alone_decides n fault =
    over_decides (replicate (suc n) fault) fault (0, suc-le-suc zero-le, refl)
    (λ g found. subst (StandsOver fault) (sym (one_fault (suc n) fault g found)) (over_itself fault))
