-- The variables in close numbers: each number has its own, the inputs keep theirs, and a list of them gains those of a clause.
use Rattle.std.proofs.Common.{◌≡◌, ℕ, ◌+◌, ◌-◌, ◌^◌, ◌<◌, ◌≤◌, ◌⊎◌, cond, zero, suc, List, [], ◌∷◌, ◌++◌, length, get_or, take, map, inl, inr, refl, ap, sym, ◌∙◌, subst, arith, length-append}
use Rattle.std.specs.Prelude.{◌↔◌, Ok, Err, IsTrue, All, Any, Contains}
use Rattle.std.specs.List.Sorted.{IsBinarySearchResult}
use Rattle.std.specs.Ordering.{nat_cmp}
use Rattle.std.proofs.lemmas.List.Sorted.{searched}
use Rattle.std.proofs.Math.Seq.{get_or-append_seam}
use Rattle.std.proofs.lemmas.Bool.{cases_eq, cases_lt, le-leb, lt-leb}
use Rattle.std.proofs.lemmas.List.{get_or_default, get_or_append_left, map-append, take_more}
use Rattle.std.proofs.lemmas.List.Elements.{All-weaker, Contains-push, Contains-push_cases, Contains-append_left}
use Rattle.std.proofs.lemmas.List.Kept.{AllPairs-from_increasing}
use Rattle.std.proofs.lemmas.List.Quantifiers.{Any-push}
use Rattle.cnf_core.specs.declared.formula.Lit.{Lit}
use Rattle.cnf_core.specs.Literal.{negation, IsApart}
use Rattle.cnf_core.proofs.Literals.{no_lit}
use Rattle.unit_propagation.specs.Units.{IsWithin}
use Rattle.unit_propagation.proofs.ApartLaws.{apart_take, apart_negations, apart_from_negations}
use Rattle.refutation_checker.specs.Derivation.{IsInput, IsVariable}
use Rattle.refutation_checker.specs.Variables.{Numbering, IsNumbering, Numbers, HasVariable, IsOther, width, external, renamed, external_clause}
use Rattle.refutation_checker.proofs.RenamingLemmas.{IsOneToOne, IsFixed, apart_renamed}

-- 0 and the inputs keep their numbers
pub external_low : (n : Numbering) (a : ℕ) → a ≤ n.inputs → external n a ≡ a
external_low n a low = ap (λ t. cond t a (get_or n.others (a - (n.inputs + 1)) 0)) (le-leb a n.inputs low)

pub external_high : (n : Numbering) (a : ℕ) → n.inputs < a → external n a ≡ get_or n.others (a - (n.inputs + 1)) 0
external_high n a high = ap (λ t. cond t a (get_or n.others (a - (n.inputs + 1)) 0)) (lt-leb a n.inputs high)

pub others_apart : (n : Numbering) (i j : ℕ) → IsNumbering n → i < j → j < length n.others → get_or n.others i 0 < get_or n.others j 0
others_apart n i j h below inside = AllPairs-from_increasing n.others h.rising i j 0 below inside

-- a variable past the inputs is no less than its internal number
pub others_above : (n : Numbering) (i : ℕ) → IsNumbering n → i < length n.others → n.inputs + 1 + i ≤ get_or n.others i 0
others_above n zero h inside = let range = h.range 0 0 inside in omega (arith, range.0)
others_above n (suc i) h inside =
    let before = others_above n i h (omega arith) in
    let next = others_apart n i (suc i) h (omega arith) inside in
    omega arith

pub one_to_one : (n : Numbering) → IsNumbering n → IsOneToOne (width n) (external n)
one_to_one n h a b a_below b_below same = elim (cases_lt n.inputs a) [
  | inl a_high ↦ elim (cases_lt n.inputs b) [
    | inl b_high ↦ both a_high b_high
    | inr b_low ↦ absurd (mixed a b a_below a_high b_low same)
  ]
  | inr a_low ↦ elim (cases_lt n.inputs b) [
    | inl b_high ↦ absurd (mixed b a b_below b_high a_low (sym same))
    | inr b_low ↦ sym (external_low n a a_low) ∙ same ∙ external_low n b b_low
  ]
] where
  mixed : (x y : ℕ) → x < width n → n.inputs < x → y ≤ n.inputs → external n x ≡ external n y → ⊥
  mixed x y x_below high low e =
      let above = others_above n (x - (n.inputs + 1)) h (omega arith) in
      let there : get_or n.others (x - (n.inputs + 1)) 0 ≡ y = sym (external_high n x high) ∙ e ∙ external_low n y low in
      omega arith

  both : n.inputs < a → n.inputs < b → a ≡ b
  both a_high b_high =
      let there : get_or n.others (a - (n.inputs + 1)) 0 ≡ get_or n.others (b - (n.inputs + 1)) 0 = sym (external_high n a a_high) ∙ same ∙ external_high n b b_high in
      elim (cases_lt a b) [
        | inl less ↦ let rises = others_apart n (a - (n.inputs + 1)) (b - (n.inputs + 1)) h (omega arith) (omega arith) in absurd (omega arith)
        | inr more ↦ elim (cases_eq a b) [
          | inl is ↦ is
          | inr differs ↦ let rises = others_apart n (b - (n.inputs + 1)) (a - (n.inputs + 1)) h (omega arith) (omega arith) in absurd (omega arith)
        ]
      ]

pub inputs_fixed : (n : Numbering) (lits : List Lit) → All (λ l. IsInput n.inputs l.var) lits → All (IsFixed (width n) (external n)) lits
inputs_fixed n lits are = All-weaker (λ (l : Lit). IsInput n.inputs l.var) (IsFixed (width n) (external n)) (λ l is. (omega (arith, is.1), external_low n l.var is.1)) lits are

-- internal numbers are few
pub width_bound : (n : Numbering) → IsNumbering n → width n ≤ 2 ^ 32
width_bound n h = elim (cases_eq (length n.others) 0) [
  | inl none ↦ let inputs = h.inputs_range in omega arith
  | inr some ↦
      let last = length n.others - 1 in
      let above = others_above n last h (omega arith) in
      let range = (h.range last 0 (omega arith)).1 in
      omega arith
]

any-front : {X : Type 0} (P : X → Type 0) (xs : List X) (x : X) → Any P xs → Any P (xs ++ x ∷ [])
any-front P xs x (k, y, inside, at, holds) =
    (k, y, omega (arith, length-append xs (x ∷ [])), get_or_append_left xs (x ∷ []) y k inside ∙ at, holds)

any-push_cases : {X : Type 0} (P : X → Type 0) (xs : List X) (x : X) → Any P (xs ++ x ∷ []) → Any P xs ⊎ P x
any-push_cases P xs x (k, y, inside, at, holds) = elim (cases_lt k (length xs)) [
  | inl before ↦ inl (k, y, before, sym (get_or_append_left xs (x ∷ []) y k before) ∙ at, holds)
  | inr past ↦
      let k_is : k ≡ length xs = omega (arith, length-append xs (x ∷ [])) in
      let y_is : x ≡ y = sym (get_or-append_seam xs x [] y) ∙ ap (λ (i : ℕ). get_or (xs ++ x ∷ []) i y) (sym k_is) ∙ at in
      inr (subst P (sym y_is) holds)
]

-- one more element of the list whose variables are gained
pub gains-more : {X : Type 0} (P : X → Type 0) (Old Row New : Type 0) (xs : List X) (x : X) →
    (Row ↔ (Old ⊎ Any P xs)) → (New ↔ (Row ⊎ P x)) → New ↔ (Old ⊎ Any P (xs ++ x ∷ []))
gains-more P Old Row New xs x before step = (onward, back) where
  onward : New → Old ⊎ Any P (xs ++ x ∷ [])
  onward new = elim (step.0 new) [
    | inl table ↦ elim (before.0 table) [ inl old ↦ inl old | inr any ↦ inr (any-front P xs x any) ]
    | inr here ↦ inr (Any-push P xs x here)
  ]

  back : Old ⊎ Any P (xs ++ x ∷ []) → New
  back (inl old) = step.1 (inl (before.1 (inl old)))
  back (inr any) = elim (any-push_cases P xs x any) [ inl front ↦ step.1 (inl (before.1 (inr front))) | inr here ↦ step.1 (inr here) ]

pub any-more : {X : Type 0} (P : X → Type 0) (Row New : Type 0) (xs : List X) (x : X) → (Row ↔ Any P xs) → (New ↔ (Row ⊎ P x)) → New ↔ Any P (xs ++ x ∷ [])
any-more P Row New xs x before step = (onward, back) where
  onward : New → Any P (xs ++ x ∷ [])
  onward new = elim (step.0 new) [ inl table ↦ any-front P xs x (before.0 table) | inr here ↦ Any-push P xs x here ]

  back : Any P (xs ++ x ∷ []) → New
  back any = elim (any-push_cases P xs x any) [ inl front ↦ step.1 (inl (before.1 front)) | inr here ↦ step.1 (inr here) ]

-- and none of an empty one
pub gains-none : {X : Type 0} (P : X → Type 0) (Row : Type 0) → Row ↔ (Row ⊎ Any P [])
gains-none P Row = ((λ table. inl table), back) where
  back : Row ⊎ Any P [] → Row
  back (inl table) = table
  back (inr (k, x, inside, at, holds)) = absurd (omega arith)

-- each literal of the clauses is of a numbered variable
pub all_have : (n : Numbering) (inputs : ℕ) (clauses : List (List Lit)) → Numbers n inputs clauses → All (All (λ l. HasVariable n l.var)) clauses
all_have n inputs clauses numbers k c inside j d within =
    let clause = get_or clauses k c in
    let l = get_or clause j d in
    (numbers l.var).1 (inr (k, clause, inside, get_or_default clauses k clause c inside, (j, l, within, get_or_default clause j l d within, refl)))

-- what a binary search among the variables past the inputs says
others_order : (n : Numbering) → IsNumbering n → (i j : ℕ) → i ≤ j → j < length n.others → get_or n.others i 0 ≤ get_or n.others j 0
others_order n h i j below inside = elim (cases_lt i j) [
  | inl less ↦ let rises = others_apart n i j h less inside in omega arith
  | inr past ↦ let same : i ≡ j = omega arith in omega (arith, ap (λ (k : ℕ). get_or n.others k 0) same)
]

pub found_place : (n : Numbering) (var place : ℕ) → IsNumbering n → IsBinarySearchResult (λ y. nat_cmp y var) n.others (Ok place) →
    (place < length n.others) × (get_or n.others place 0 ≡ var) × (n.inputs + 1 + place ≤ var)
found_place n var place h found =
    let there = searched n.others var (Ok place) found (others_order n h) in
    let above = others_above n place h there.0 in
    (there.0, there.1, omega (arith, there.1))

pub not_found : (n : Numbering) (var gap : ℕ) → IsNumbering n → IsBinarySearchResult (λ y. nat_cmp y var) n.others (Err gap) → Contains n.others var → ⊥
not_found n var gap h found (k, inside, at) =
    let sides = searched n.others var (Err gap) found (others_order n h) in
    let is : get_or n.others k 0 ≡ var = get_or_default n.others k 0 var inside ∙ at in
    elim (cases_lt k gap) [
      | inl before ↦ let less = sides.1 k before in omega arith
      | inr past ↦ let more = sides.2 k past inside in omega arith
    ]

-- the internal number of a variable past the inputs
pub external_place : (n : Numbering) (place : ℕ) → external n (n.inputs + 1 + place) ≡ get_or n.others place 0
external_place n place =
    let there : n.inputs + 1 + place - (n.inputs + 1) ≡ place = omega arith in
    external_high n (n.inputs + 1 + place) (omega arith) ∙ ap (λ (k : ℕ). get_or n.others k 0) there

-- the variables of the inputs, of the zero that occurs, and of what is past the inputs are those of the clauses
pub numbers_all : (n : Numbering) (clauses : List (List Lit)) → (IsTrue n.zero ↔ Any (Any (λ l. l.var ≡ 0)) clauses) →
    ((var : ℕ) → Contains n.others var ↔ Any (Any (IsOther n.inputs var)) clauses) → Numbers n n.inputs clauses
numbers_all n clauses has_zero others var = (onward, from) where
  onward : HasVariable n var → IsVariable n.inputs clauses var
  onward (inl input) = inl input
  onward (inr (inl is_zero)) = inr (subst (λ (v : ℕ). Any (Any (λ l. l.var ≡ v)) clauses) (sym is_zero.0) (has_zero.0 is_zero.1))
  onward (inr (inr other)) = inr (drops ((others var).0 other)) where
    drops : Any (Any (IsOther n.inputs var)) clauses → Any (Any (λ l. l.var ≡ var)) clauses
    drops (k, c, inside, at, (j, l, within, there, holds)) = (k, c, inside, at, (j, l, within, there, holds.1))

  from : IsVariable n.inputs clauses var → HasVariable n var
  from (inl input) = inl input
  from (inr occurs) = elim (cases_eq var 0) [
    | inl is_zero ↦ inr (inl (is_zero, has_zero.1 (subst (λ (v : ℕ). Any (Any (λ l. l.var ≡ v)) clauses) is_zero occurs)))
    | inr some ↦ elim (cases_lt n.inputs var) [
      | inl past ↦ inr (inr ((others var).1 (adds past occurs)))
      | inr low ↦ inl (omega arith, low)
    ]
  ] where
    adds : n.inputs < var → Any (Any (λ l. l.var ≡ var)) clauses → Any (Any (IsOther n.inputs var)) clauses
    adds past (k, c, inside, at, (j, l, within, there, holds)) = (k, c, inside, at, (j, l, within, there, (past, holds)))

-- the variable of a literal that is past the inputs, or is not
pub other_pushed : (inputs : ℕ) (others : List ℕ) (l : Lit) (var : ℕ) → inputs < l.var → Contains (others ++ l.var ∷ []) var ↔ (Contains others var ⊎ IsOther inputs var l)
other_pushed inputs others l var past = (onward, back) where
  onward : Contains (others ++ l.var ∷ []) var → Contains others var ⊎ IsOther inputs var l
  onward stands = elim (Contains-push_cases others l.var var stands) [ inl before ↦ inl before | inr same ↦ inr (subst (λ (v : ℕ). inputs < v) same past, same) ]

  back : Contains others var ⊎ IsOther inputs var l → Contains (others ++ l.var ∷ []) var
  back (inl before) = Contains-append_left others (l.var ∷ []) var before
  back (inr here) = subst (Contains (others ++ l.var ∷ [])) here.1 (Contains-push others l.var)

pub other_passed : (inputs : ℕ) (others : List ℕ) (l : Lit) (var : ℕ) → l.var ≤ inputs → Contains others var ↔ (Contains others var ⊎ IsOther inputs var l)
other_passed inputs others l var low = ((λ stands. inl stands), back) where
  back : Contains others var ⊎ IsOther inputs var l → Contains others var
  back (inl before) = before
  back (inr here) = absurd (omega (arith, here.0, here.1))

-- a variable past the inputs that the search does not find is none of these
pub absent : (n : Numbering) (var gap : ℕ) → IsNumbering n → n.inputs < var → IsBinarySearchResult (λ y. nat_cmp y var) n.others (Err gap) → HasVariable n var → ⊥
absent n var gap h high found (inl input) = omega (arith, input.1)
absent n var gap h high found (inr (inl is_zero)) = omega (arith, is_zero.0)
absent n var gap h high found (inr (inr other)) = not_found n var gap h found other

-- the literals of a clause up to a place, whose negations are set in internal numbers
pub falsified_more : (n : Numbering) (trail clause : List Lit) (i : ℕ) (k : Lit) → external_clause n trail ≡ map negation (take i clause) → i < length clause →
    renamed (external n) k ≡ get_or clause i no_lit → external_clause n (trail ++ negation k ∷ []) ≡ map negation (take (i + 1) clause)
falsified_more n trail clause i k names inside is =
    map-append (renamed (external n)) trail (negation k ∷ [])
    ∙ ap (λ (t : List Lit). t ++ renamed (external n) (negation k) ∷ []) names
    ∙ ap (λ (m : Lit). map negation (take i clause) ++ negation m ∷ []) is
    ∙ sym (map-append negation (take i clause) (get_or clause i no_lit ∷ []))
    ∙ ap (map negation) (sym (take_more clause i no_lit inside))

pub falsified_apart : (n : Numbering) (trail clause : List Lit) (i : ℕ) → IsNumbering n → IsWithin (width n) trail → external_clause n trail ≡ map negation (take i clause) → IsApart clause → IsApart trail
falsified_apart n trail clause i h within names apart =
    (apart_renamed (external n) (width n) trail (one_to_one n h) within).0 (subst IsApart (sym names) (apart_negations (take i clause) (apart_take i clause apart)))

pub falsified_all : (n : Numbering) (trail clause : List Lit) → IsNumbering n → IsWithin (width n) trail → external_clause n trail ≡ map negation clause → IsApart trail → IsApart clause
falsified_all n trail clause h within names apart =
    apart_from_negations clause (subst IsApart names ((apart_renamed (external n) (width n) trail (one_to_one n h) within).1 apart))
