-- The values agree with their trail: after a literal is set, one is undone, and a variable is added.
use Rattle.std.proofs.Common.{◌≡◌, ℕ, ◌+◌, ◌<◌, ◌≤◌, Bool, true, false, not, List, [], ◌∷◌, ◌++◌, length, length-append, get_or, cond, refl, ap, sym, ◌∙◌, subst, arith, inl, inr}
use Rattle.std.proofs.Math.ListN.{set}
use Rattle.std.specs.Prelude.{Contains, count_by}
use Rattle.std.proofs.lemmas.List.{get_or-set_same, get_or-set_other, get_or_append_left, get_or_push, length-set, get_or_past}
use Rattle.std.proofs.lemmas.Bool.{cases_eq, cases_lt}
use Rattle.std.proofs.lemmas.List.Sums.{sum_by-set, sum_by_push, count_by-le-length}
use Rattle.std.proofs.lemmas.List.Elements.{All-contains, Contains-push, Contains-push_cases, Contains-append_left, Contains-get_or}
use Rattle.cnf_core.specs.declared.formula.Lit.{Lit}
use Rattle.cnf_core.specs.Literal.{negation}
use Rattle.cnf_core.proofs.Literals.{lit, lit-same}
use Rattle.unit_propagation.specs.Units.{IsOpen}
use Rattle.unit_propagation.proofs.ApartLaws.{apart_open, apart_front, apart_last}
use Rattle.unit_propagation.specs.Units.{IsWithin}
use Rattle.unit_propagation.specs.Assigned.{Agrees, StandsAs, truth_of, is_set}
use Rattle.unit_propagation.specs.declared.assignment.Truth.{Truth}
use Rattle.unit_propagation.specs.declared.assignment.Truth.TheVariants.{True, False, Open}

set_not_open : (b : Bool) → truth_of b ≡ Open → ⊥
set_not_open true e = cc
set_not_open false e = cc

truth_of_same : (a b : Bool) → truth_of a ≡ truth_of b → a ≡ b
truth_of_same true true e = refl
truth_of_same true false e = absurd (cc)
truth_of_same false true e = absurd (cc)
truth_of_same false false e = refl

open_cases : (t : Truth) (values : List Truth) (trail : List Lit) (v : ℕ) (b : Bool) → Agrees values trail → IsOpen trail (lit v b) → get_or values v Open ≡ t → t ≡ Open
open_cases Open values trail v b h o e = refl
open_cases True values trail v true h o e = absurd (o.0 (h.on_trail (lit v true) e))
open_cases True values trail v false h o e = absurd (o.1 (h.on_trail (lit v true) e))
open_cases False values trail v true h o e = absurd (o.1 (h.on_trail (lit v false) e))
open_cases False values trail v false h o e = absurd (o.0 (h.on_trail (lit v false) e))

-- an open literal's variable is open in the values
pub open_value : (values : List Truth) (trail : List Lit) (l : Lit) → Agrees values trail → IsOpen trail l → get_or values l.var Open ≡ Open
open_value values trail l h o = open_cases (get_or values l.var Open) values trail l.var l.positive h o refl

is_set_truth_of : (b : Bool) → is_set (truth_of b) ≡ true
is_set_truth_of true = refl
is_set_truth_of false = refl

abbrev weight : Truth → ℕ
weight t = cond (is_set t) 1 0

-- one more variable is set
counted_set : (values : List Truth) (v : ℕ) (b : Bool) → v < length values → get_or values v Open ≡ Open →
    count_by is_set (set values v (truth_of b)) ≡ count_by is_set values + 1
counted_set values v b inside o =
    let sums : count_by is_set (set values v (truth_of b)) + weight (get_or values v Open) ≡ count_by is_set values + weight (truth_of b) =
    sum_by-set weight values v (truth_of b) Open inside in
    let before : weight (get_or values v Open) ≡ 0 = ap weight o in
    let after : weight (truth_of b) ≡ 1 = ap (λ (s : Bool). cond s 1 0) (is_set_truth_of b) in
    omega arith

-- where a variable is open there is room for one more literal
pub room : (values : List Truth) (trail : List Lit) (l : Lit) → Agrees values trail → l.var < length values → IsOpen trail l → length trail < length values
room values trail l h inside o =
    let more = counted_set values l.var true inside (open_value values trail l h o) in
    let most : count_by is_set (set values l.var True) ≤ length (set values l.var True) = count_by-le-length is_set (set values l.var True) in
    let same : length (set values l.var True) ≡ length values = length-set values l.var True in
    let counted = h.counted in
    omega arith

-- the trail is no longer than the values
pub fits : (values : List Truth) (trail : List Lit) → Agrees values trail → length trail ≤ length values
fits values trail h =
    let most : count_by is_set values ≤ length values = count_by-le-length is_set values in
    let counted = h.counted in
    omega arith

-- the values and the trail after a literal is set
pub agrees_set : (values : List Truth) (trail : List Lit) (l : Lit) → Agrees values trail → l.var < length values → IsOpen trail l →
    Agrees (set values l.var (truth_of l.positive)) (trail ++ l ∷ [])
agrees_set values trail l h inside o = record { holds_trail = holds; on_trail = on; counted = counts; apart = apart_open trail l h.apart o } where
  was_open : get_or values l.var Open ≡ Open
  was_open = open_value values trail l h o

  written : List Truth
  written = set values l.var (truth_of l.positive)

  holds : (k : Lit) → Contains (trail ++ l ∷ []) k → get_or (set values l.var (truth_of l.positive)) k.var Open ≡ truth_of k.positive
  holds k stands = elim (Contains-push_cases trail l k stands) [
    | inl before ↦ elim (cases_eq k.var l.var) [
      | inl same ↦ absurd (set_not_open k.positive (sym (h.holds_trail k before) ∙ ap (λ (v : ℕ). get_or values v Open) same ∙ was_open))
      | inr other ↦ get_or-set_other values l.var k.var (truth_of l.positive) Open other ∙ h.holds_trail k before
    ]
    | inr is_l ↦ let P : Lit → Type 0 = λ m. get_or (set values l.var (truth_of l.positive)) m.var Open ≡ truth_of m.positive in
        subst P is_l (get_or-set_same values l.var (truth_of l.positive) Open inside)
  ]

  on : (k : Lit) → get_or (set values l.var (truth_of l.positive)) k.var Open ≡ truth_of k.positive → Contains (trail ++ l ∷ []) k
  on k e = elim (cases_eq k.var l.var) [
    | inl same ↦
        let here : get_or (set values l.var (truth_of l.positive)) k.var Open ≡ truth_of l.positive =
        ap (λ (v : ℕ). get_or (set values l.var (truth_of l.positive)) v Open) same ∙ get_or-set_same values l.var (truth_of l.positive) Open inside in
        let is_l : l ≡ k = lit-same l k (sym same) (truth_of_same l.positive k.positive (sym here ∙ e)) in
        subst (Contains (trail ++ l ∷ [])) is_l (Contains-push trail l)
    | inr other ↦ Contains-append_left trail (l ∷ []) k (h.on_trail k (sym (get_or-set_other values l.var k.var (truth_of l.positive) Open other) ∙ e))
  ]

  counts : length (trail ++ l ∷ []) ≡ count_by is_set (set values l.var (truth_of l.positive))
  counts = let more = counted_set values l.var l.positive inside was_open in
      let counted = h.counted in
      omega (arith, length-append trail (l ∷ []))

not_same : (b : Bool) → truth_of b ≡ truth_of (not b) → ⊥
not_same true e = absurd (cc)
not_same false e = absurd (cc)

-- a literal whose variable has the other sign in the values is false
pub stands_false : (values : List Truth) (trail : List Lit) (l : Lit) → Agrees values trail →
    get_or values l.var Open ≡ truth_of (not l.positive) → StandsAs trail l False
stands_false values trail l h other =
    (h.on_trail (negation l) other, λ here. not_same l.positive (sym (h.holds_trail l here) ∙ other))

-- a literal whose variable has its sign in the values is true
pub stands_true : (values : List Truth) (trail : List Lit) (l : Lit) → Agrees values trail →
    get_or values l.var Open ≡ truth_of l.positive → StandsAs trail l True
stands_true values trail l h here =
    (h.on_trail l here, λ other. not_same l.positive (sym here ∙ h.holds_trail (negation l) other))

-- a literal on the trail has its variable among the values, since that variable is not open there
pub within : (values : List Truth) (trail : List Lit) → Agrees values trail → IsWithin (length values) trail
within values trail h k d inside = elim (cases_lt (get_or trail k d).var (length values)) [
  | inl below ↦ below
  | inr past ↦ absurd (set_not_open (get_or trail k d).positive
      (sym (h.holds_trail (get_or trail k d) (Contains-get_or trail k d inside)) ∙ get_or_past values (get_or trail k d).var Open past))
]

-- the last literal's variable is opened
pub agrees_pop : (values : List Truth) (trail : List Lit) (l : Lit) → Agrees values (trail ++ l ∷ []) → Agrees (set values l.var Open) trail
agrees_pop values trail l h = record { holds_trail = holds; on_trail = on; counted = counts; apart = apart_front trail (l ∷ []) h.apart } where
  inside : l.var < length values
  inside = All-contains (λ k. k.var < length values) (trail ++ l ∷ []) l (within values (trail ++ l ∷ []) h) (Contains-push trail l)

  is_l : get_or values l.var Open ≡ truth_of l.positive
  is_l = h.holds_trail l (Contains-push trail l)

  holds : (k : Lit) → Contains trail k → get_or (set values l.var Open) k.var Open ≡ truth_of k.positive
  holds k stands = get_or-set_other values l.var k.var Open Open (apart_last trail l k h.apart stands) ∙ h.holds_trail k (Contains-append_left trail (l ∷ []) k stands)

  on : (k : Lit) → get_or (set values l.var Open) k.var Open ≡ truth_of k.positive → Contains trail k
  on k e = elim (cases_eq k.var l.var) [
    | inl same ↦ absurd (set_not_open k.positive (sym e ∙ ap (λ (v : ℕ). get_or (set values l.var Open) v Open) same ∙ get_or-set_same values l.var Open Open inside))
    | inr other ↦ elim (Contains-push_cases trail l k (h.on_trail k (sym (get_or-set_other values l.var k.var Open Open other) ∙ e))) [
      | inl before ↦ before
      | inr is ↦ absurd (other (ap (λ (m : Lit). m.var) (sym is)))
    ]
  ]

  counts : length trail ≡ count_by is_set (set values l.var Open)
  counts =
      let sums : count_by is_set (set values l.var Open) + weight (get_or values l.var Open) ≡ count_by is_set values + 0 = sum_by-set weight values l.var Open Open inside in
      let one : weight (get_or values l.var Open) ≡ 1 = ap weight is_l ∙ ap (λ (s : Bool). cond s 1 0) (is_set_truth_of l.positive) in
      let counted = h.counted in
      omega (arith, length-append trail (l ∷ []))

-- one more variable, which is open
pub agrees_grow : (values : List Truth) (trail : List Lit) → Agrees values trail → Agrees (values ++ Open ∷ []) trail
agrees_grow values trail h = record {
  holds_trail = λ l stands. same l.var ∙ h.holds_trail l stands;
  on_trail = λ l e. h.on_trail l (sym (same l.var) ∙ e);
  counted = h.counted ∙ counts;
  apart = h.apart;
} where
  same : (v : ℕ) → get_or (values ++ Open ∷ []) v Open ≡ get_or values v Open
  same v = elim (cases_lt v (length values)) [
    | inl inside ↦ get_or_append_left values (Open ∷ []) Open v inside
    | inr past ↦ elim (cases_eq v (length values)) [
      | inl at ↦ get_or_push values Open Open v (sym at) ∙ sym (get_or_past values v Open past)
      | inr beyond ↦ get_or_past (values ++ Open ∷ []) v Open (omega (arith, length-append values (Open ∷ []))) ∙ sym (get_or_past values v Open past)
    ]
  ]

  counts : count_by is_set values ≡ count_by is_set (values ++ Open ∷ [])
  counts =
      let more : count_by is_set (values ++ Open ∷ []) ≡ count_by is_set values + 0 = sum_by_push weight values Open in
      omega arith

-- no literal is on the trail together with its negation
pub consistent : (values : List Truth) (trail : List Lit) → Agrees values trail → (l : Lit) → Contains trail l → Contains trail (negation l) → ⊥
consistent values trail h l here there = not_same l.positive (sym (h.holds_trail l here) ∙ h.holds_trail (negation l) there)
