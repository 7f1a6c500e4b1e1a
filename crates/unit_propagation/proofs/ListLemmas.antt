-- Lists of numbers and of lists: one that gets a default, and one in which a place is written.
use Rattle.std.proofs.Common.{◌≡◌, ◌≢◌, ℕ, ◌+◌, ◌<◌, ◌≤◌, ◌-◌, List, [], ◌∷◌, ◌++◌, length, get_or, drop, map, inl, inr, ap, sym, ◌∙◌, arith, length-append}
use Rattle.std.proofs.Math.ListN.{set}
use Rattle.std.specs.Prelude.{All, Contains, swap_remove}
use Rattle.std.proofs.lemmas.Bool.{cases_eq, cases_lt}
use Rattle.std.proofs.lemmas.List.{get_or-set_same, get_or-set_other, get_or_append_left, get_or_push, get_or-map, get_or_past, set_past, get_or-take, length-take, length-set, get_or_default, get_or-drop, length-drop}
use Rattle.std.proofs.lemmas.List.Elements.{All-take, All-set, All-get_or}

-- a default at the end is read as before
pub get_or_push_default : {X : Type 0} (xs : List X) (d : X) (i : ℕ) → get_or (xs ++ d ∷ []) i d ≡ get_or xs i d
get_or_push_default xs d i = elim (cases_lt i (length xs)) [
  | inl inside ↦ get_or_append_left xs (d ∷ []) d i inside
  | inr past ↦ elim (cases_eq i (length xs)) [
    | inl at ↦ get_or_push xs d d i (sym at) ∙ sym (get_or_past xs i d past)
    | inr beyond ↦ get_or_past (xs ++ d ∷ []) i d (omega (arith, length-append xs (d ∷ []))) ∙ sym (get_or_past xs i d past)
  ]
]

-- what is read of a list, through a function
pub map_read : {X Y : Type 0} (f : X → Y) (xs : List X) (k : ℕ) (x : X) (e : Y) → k < length xs → x ≡ get_or xs k x → f x ≡ get_or (map f xs) k e
map_read f xs k x e inside at = ap f at ∙ sym (get_or-map f xs k x e inside)

-- a number at the end
pub push_keeps : (xs : List ℕ) (n i : ℕ) → get_or xs i 0 ≤ get_or (xs ++ n ∷ []) i 0
push_keeps xs n i = elim (cases_lt i (length xs)) [
  | inl inside ↦ let same = get_or_append_left xs (n ∷ []) 0 i inside in omega arith
  | inr past ↦ let nothing = get_or_past xs i 0 past in omega arith
]

-- a place that is written with no less
pub set_keeps : (xs : List ℕ) (k n : ℕ) → get_or xs k 0 ≤ n → (i : ℕ) → get_or xs i 0 ≤ get_or (set xs k n) i 0
set_keeps xs k n more i = elim (cases_eq i k) [
  | inl same ↦ elim (cases_lt k (length xs)) [
    | inl inside ↦
        let here : get_or (set xs k n) i 0 ≡ n = ap (λ (j : ℕ). get_or (set xs k n) j 0) same ∙ get_or-set_same xs k n 0 inside in
        let there : get_or xs i 0 ≡ get_or xs k 0 = ap (λ (j : ℕ). get_or xs j 0) same in
        omega arith
    | inr past ↦ let same_list : get_or (set xs k n) i 0 ≡ get_or xs i 0 = ap (λ (ys : List ℕ). get_or ys i 0) (set_past xs k n past) in omega arith
  ]
  | inr other ↦ let same = get_or-set_other xs k i n 0 other in omega arith
]

-- an element in the place of another: all others stay
pub contains_swap_remove : (xs : List ℕ) (i c y : ℕ) → i < length xs → get_or xs i c ≡ c → Contains xs y → y ≢ c → Contains (swap_remove xs i c) y
contains_swap_remove xs i c y inside at (k, within, is) differs = elim (cases_eq k (length xs - 1)) [
  | inl last ↦ moved last
  | inr before ↦ (
    k,
    omega (arith, length-take (length xs - 1) (set xs i (get_or xs (length xs - 1) c)), length-set xs i (get_or xs (length xs - 1) c)),
    get_or-take (length xs - 1) (set xs i (get_or xs (length xs - 1) c)) k y (omega arith)
        ∙ get_or-set_other xs i k (get_or xs (length xs - 1) c) y (λ same. differs (sym is ∙ ap (λ (j : ℕ). get_or xs j y) same ∙ get_or_default xs i y c inside ∙ at))
        ∙ is,
  )
] where
  moved : k ≡ length xs - 1 → Contains (swap_remove xs i c) y
  moved last = elim (cases_eq i (length xs - 1)) [
    | inl same ↦ absurd (differs (sym is ∙ ap (λ (j : ℕ). get_or xs j y) (last ∙ sym same) ∙ get_or_default xs i y c inside ∙ at))
    | inr before ↦ (
      i,
      omega (arith, length-take (length xs - 1) (set xs i (get_or xs (length xs - 1) c)), length-set xs i (get_or xs (length xs - 1) c)),
      get_or-take (length xs - 1) (set xs i (get_or xs (length xs - 1) c)) i y (omega arith)
          ∙ get_or-set_same xs i (get_or xs (length xs - 1) c) y inside
          ∙ get_or_default xs (length xs - 1) c y (omega arith) ∙ ap (λ (j : ℕ). get_or xs j y) (sym last) ∙ is,
    )
  ]

-- from a place on: the element there is another, and those behind it stay
pub drop_swap_remove : (xs : List ℕ) (i c y : ℕ) → i < length xs → get_or xs i c ≡ c → Contains (drop i xs) y → y ≢ c → Contains (drop i (swap_remove xs i c)) y
drop_swap_remove xs i c y inside at (k, within, is) differs = elim (cases_eq (i + k) (length xs - 1)) [
  | inl last ↦ moved last
  | inr before ↦ (
    k,
    omega (arith, size, shorter),
    get_or-drop i (swap_remove xs i c) k y ∙ get_or-take (length xs - 1) (set xs i end) (i + k) y (omega (arith, size))
        ∙ get_or-set_other xs i (i + k) end y (λ same. not_here (omega arith)) ∙ sym (get_or-drop i xs k y) ∙ is,
  )
] where
  end : ℕ
  end = get_or xs (length xs - 1) c

  size : length (drop i xs) ≡ length xs - i
  size = length-drop i xs

  shorter : length (drop i (swap_remove xs i c)) ≡ length xs - 1 - i
  shorter = let a = length-drop i (swap_remove xs i c) in
      let b = length-take (length xs - 1) (set xs i end) in
      let d = length-set xs i end in
      omega arith

  not_here : k ≡ 0 → ⊥
  not_here none = differs (sym is ∙ get_or-drop i xs k y ∙ ap (λ (j : ℕ). get_or xs j y) (at_i none) ∙ get_or_default xs i y c inside ∙ at) where
    at_i : k ≡ 0 → i + k ≡ i
    at_i none = omega arith

  moved : i + k ≡ length xs - 1 → Contains (drop i (swap_remove xs i c)) y
  moved last = (
    0,
    omega (arith, size, shorter, differs_place),
    get_or-drop i (swap_remove xs i c) 0 y ∙ get_or-take (length xs - 1) (set xs i end) (i + 0) y (omega (arith, size, differs_place))
        ∙ ap (λ (j : ℕ). get_or (set xs i end) j y) (zero_more i) ∙ get_or-set_same xs i end y inside
        ∙ get_or_default xs (length xs - 1) c y (omega arith) ∙ ap (λ (j : ℕ). get_or xs j y) (sym last) ∙ sym (get_or-drop i xs k y) ∙ is,
  ) where
    zero_more : (n : ℕ) → n + 0 ≡ n
    zero_more n = omega arith

    differs_place : 0 < k
    differs_place = elim (cases_eq k 0) [ inl none ↦ absurd (not_here none) | inr some ↦ omega arith ]

pub all_swap_remove : (P : ℕ → Type 0) (xs : List ℕ) (i c : ℕ) → i < length xs → All P xs → All P (swap_remove xs i c)
all_swap_remove P xs i c inside all = All-take P (length xs - 1) (set xs i (get_or xs (length xs - 1) c)) (All-set P xs i (get_or xs (length xs - 1) c) (All-get_or P xs (length xs - 1) c (omega arith) all) all)

pub length_swap_remove : (xs : List ℕ) (i c : ℕ) → i < length xs → length (swap_remove xs i c) ≡ length xs - 1
length_swap_remove xs i c inside =
    let b = length-take (length xs - 1) (set xs i (get_or xs (length xs - 1) c)) in
    let d = length-set xs i (get_or xs (length xs - 1) c) in
    omega arith
