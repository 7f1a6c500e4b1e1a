-- The accepted cubes: none has all literals of an earlier one, none is empty, and they are few.
use Rattle.std.proofs.Common.{◌≡◌, ◌≢◌, ℕ, ◌+◌, ◌*◌, ◌^◌, ◌<◌, ◌≤◌, Bool, true, false, List, [], ◌∷◌, zero, suc, eqb, length, get_or, take, map, inl, inr, refl, ap, sym, ◌∙◌, subst, arith, length-append}
use Rattle.std.specs.Prelude.{IsTrue, All, Any, Contains, Some, slice_get}
use Rattle.std.specs.List.{IsDistinct, AllByRecursion, list_any}
use Rattle.std.proofs.Math.Nat.{pow-suc}
use Rattle.std.proofs.lemmas.List.Folds.{Any-from_list_any}
use Rattle.std.proofs.lemmas.Map.Steps.{length-le_from_distinct_below}
use Rattle.std.proofs.lemmas.Bool.{cases_Bool, cases_eq, cases_lt, both_ways, eqb-true}
use Rattle.std.proofs.lemmas.Option.{get_or_from_slice_get, slice_get_within}
use Rattle.std.proofs.lemmas.List.{get_or_default, get_or-map, get_or-take, length-map, length-take}
use Rattle.std.proofs.lemmas.List.Elements.{All-cons, All-map, All-contains, Contains-append_right, Contains-append_cases, Contains-get_or}
use Rattle.cnf_core.specs.declared.formula.Lit.{Lit}
use Rattle.cnf_core.specs.declared.derivation.Derived.{Derived}
use Rattle.cnf_core.specs.declared.derivation.Derived.TheVariants.{Cube, Step}
use Rattle.cnf_core.specs.Literal.{negation, IsApart}
use Rattle.cnf_core.specs.Propagation.{Sets, Conflicts}
use Rattle.cnf_core.proofs.Literals.{lit, negation_negation, negation-not_itself}
use Rattle.unit_propagation.specs.Watching.{has}
use Rattle.unit_propagation.proofs.PairLemmas.{has_contains, contains_has}
use Rattle.unit_propagation.proofs.PropagationLaws.{sets_decided}
use Rattle.refutation_checker.specs.Derivation.{Derivation, clause_of, known, before, IsInput}
use Rattle.refutation_checker.specs.Acceptance.{IsAccepted, IsLeastConflict}
use Rattle.refutation_checker.specs.AcceptedCubes.{cubes_of, IsCubeAt, IsPartOf, NoCubeIsPart, AreDistinct, NoneIsEmpty, AreFew}
use Rattle.refutation_checker.specs.Cubes.{IsLeast}
use Rattle.refutation_checker.proofs.CubesLemmas.{least_of, rest_free}

-- the clause of an earlier cube is known
earlier_known : (d : Derivation) (i j : ℕ) (b : List Lit) → i < j → IsCubeAt d i b → Contains (known (before d j)) (map negation b)
earlier_known d i j b below at = Contains-append_right d.clauses (map clause_of (take j d.derived)) (map negation b) (
  i,
  omega (arith, length-map (take j d.derived) clause_of, inside),
  get_or-map clause_of (take j d.derived) i (Cube b) (map negation b) inside ∙ ap clause_of (get_or-take j d.derived i (Cube b) below ∙ get_or_from_slice_get d.derived i (Cube b) (Cube b) at),
) where
  inside : i < length (take j d.derived)
  inside = let within = slice_get_within d.derived i (Cube b) at in omega (arith, length-take j d.derived)

-- a known clause of negations of literals of a cube leaves the cube no least conflict
part_refuses : (clauses : List (List Lit)) (b cube : List Lit) → Contains clauses (map negation b) → IsPartOf b cube → IsLeast clauses cube → ⊥
part_refuses clauses b cube stands part least = elim (cases_Bool (has last b)) [
  | inl inside ↦ least.last.3.1 (implied (has_contains last b inside))
  | inr outside ↦ rest_free clauses cube least (conflict outside)
] where
  rest : List Lit
  rest = least.last.0

  last : Lit
  last = least.last.1

  in_rest : (x : Lit) → Contains b x → x ≢ last → Contains rest x
  in_rest x here differs = elim (Contains-append_cases rest (last ∷ []) x (subst (λ (ls : List Lit). Contains ls x) least.last.2 (part x here))) [
    | inl earlier ↦ earlier
    | inr is_last ↦ absurd (differs (sym (only is_last)))
  ] where
    only : Contains (last ∷ []) x → last ≡ x
    only (zero, inside, at) = at
    only (suc k, inside, at) = absurd (omega arith)

  conflict : has last b ≡ false → Conflicts clauses rest
  conflict outside = falsified stands where
    all : All (λ l. Sets clauses rest (negation l)) (map negation b)
    all = All-map (λ l. Sets clauses rest (negation l)) negation b (λ k x inside.
        let l = get_or b k x in
        let here : Contains b l = Contains-get_or b k x inside in
        subst (Sets clauses rest) (sym (negation_negation l))
        (sets_decided clauses rest l (in_rest l here (λ same. both_ways (has last b) outside (subst (λ (y : Lit). IsTrue (has y b)) same (contains_has l b here))))))

    falsified : Contains clauses (map negation b) → Conflicts clauses rest
    falsified (n, inside, at) = (n, map negation b, inside, at, all)

  implied : Contains b last → Sets clauses rest (negation last)
  implied inside set closed = closed.closes (map negation b) (negation last) stands (negated inside) leaves where
    negated : Contains b last → Contains (map negation b) (negation last)
    negated (k, within, at) = (k, omega (arith, length-map b negation), get_or-map negation b k last (negation last) within ∙ ap negation at)

    leaves : All (λ k. k ≢ negation last → IsTrue (set (negation k))) (map negation b)
    leaves = All-map (λ k. k ≢ negation last → IsTrue (set (negation k))) negation b (λ k x within differs.
        let l = get_or b k x in
        subst (λ (y : Lit). IsTrue (set y)) (sym (negation_negation l))
        (All-contains (λ (y : Lit). IsTrue (set y)) rest l closed.decides (in_rest l (Contains-get_or b k x within) (λ same. differs (ap negation same)))))

least_at : (d : Derivation) (i : ℕ) (cube : List Lit) → IsAccepted d → IsCubeAt d i cube → IsLeastConflict d.inputs (known (before d i)) cube
least_at d i cube accepted at = accepted i (Cube cube) at

pub no_part : (d : Derivation) → IsAccepted d → NoCubeIsPart d
no_part d accepted i j b c below at_i at_j part =
    part_refuses (known (before d j)) b c (earlier_known d i j b below at_i) part (least_of d.inputs (known (before d j)) c (least_at d j c accepted at_j))

pub distinct : (d : Derivation) → IsAccepted d → AreDistinct d
distinct d accepted i j b c below at_i at_j same = no_part d accepted i j b c below at_i at_j (λ l here. (same l).0 here)

pub not_empty : (d : Derivation) → IsAccepted d → NoneIsEmpty d
not_empty d accepted i cube at empty =
    let least = least_at d i cube accepted at in
    let size = ap length least.last.2 ∙ length-append least.last.0 (least.last.1 ∷ []) in
    let none = ap length empty in
    absurd (omega arith)

-- a cube as a number: a digit for each input, 0 where it is open
abbrev pick : Bool → Bool → ℕ
pick true b = 1
pick false true = 2
pick false false = 0

abbrev digit : List Lit → ℕ → ℕ
digit cube v = pick (has (lit v true) cube) (has (lit v false) cube)

abbrev code : List Lit → ℕ → ℕ
code cube zero = 0
code cube (suc n) = code cube n * 3 + digit cube (suc n)

pick_below : (a b : Bool) → pick a b < 3
pick_below true b = omega arith
pick_below false true = omega arith
pick_below false false = omega arith

pick_one : (a b : Bool) → pick a b ≡ 1 → a ≡ true
pick_one true b e = refl
pick_one false true e = absurd (omega arith)
pick_one false false e = absurd (omega arith)

pick_two : (a b : Bool) → pick a b ≡ 2 → b ≡ true
pick_two true b e = absurd (omega arith)
pick_two false true e = refl
pick_two false false e = absurd (omega arith)

code_below : (cube : List Lit) (n : ℕ) → code cube n < 3 ^ n
code_below cube zero = omega arith
code_below cube (suc n) =
    let before = code_below cube n in
    let small = pick_below (has (lit (suc n) true) cube) (has (lit (suc n) false) cube) in
    let power = pow-suc 3 n in
    omega arith

code_none : (n : ℕ) → code [] n ≡ 0
code_none zero = refl
code_none (suc n) = let before = code_none n in omega arith

-- the same number has the same digits
same_digit : (a b : List Lit) (n v : ℕ) → code a n ≡ code b n → 0 < v → v ≤ n → digit a v ≡ digit b v
same_digit a b zero v same above within = absurd (omega arith)
same_digit a b (suc n) v same above within =
    let small = pick_below (has (lit (suc n) true) a) (has (lit (suc n) false) a) in
    let small_b = pick_below (has (lit (suc n) true) b) (has (lit (suc n) false) b) in
    let front : code a n ≡ code b n = omega arith in
    let here : digit a (suc n) ≡ digit b (suc n) = omega arith in
    elim (cases_eq v (suc n)) [
      | inl at ↦ subst (λ (w : ℕ). digit a w ≡ digit b w) (sym at) here
      | inr differs ↦ same_digit a b n v front above (omega arith)
    ]

not_both_signs : (cube : List Lit) (l : Lit) → IsApart cube → Contains cube l → Contains cube (negation l) → ⊥
not_both_signs cube l apart (i, inside, at) (j, within, is) = elim (cases_lt i j) [
  | inl before ↦ apart i j l before within (ap (λ (x : Lit). x.var) (at ∙ refl) ∙ ap (λ (x : Lit). x.var) (sym (get_or_default cube j l (negation l) within ∙ is)))
  | inr past ↦ elim (cases_eq i j) [
    | inl same ↦ negation-not_itself l (sym at ∙ ap (λ (k : ℕ). get_or cube k l) same ∙ get_or_default cube j l (negation l) within ∙ is)
    | inr differs ↦ apart j i l (omega arith) inside (ap (λ (x : Lit). x.var) (get_or_default cube j l (negation l) within ∙ is) ∙ ap (λ (x : Lit). x.var) (sym at))
  ]
]

-- so cubes of one number have the same literals
sign_part : (a b : List Lit) (n v : ℕ) (positive : Bool) → code a n ≡ code b n → IsApart a → 0 < v → v ≤ n → Contains a (lit v positive) → Contains b (lit v positive)
sign_part a b n v true same apart above within here =
    has_contains (lit v true) b (pick_one (has (lit v true) b) (has (lit v false) b)
    (sym (same_digit a b n v same above within) ∙ ap (λ (x : Bool). pick x (has (lit v false) a)) (contains_has (lit v true) a here)))
sign_part a b n v false same apart above within here =
    has_contains (lit v false) b (pick_two (has (lit v true) b) (has (lit v false) b)
    (sym (same_digit a b n v same above within) ∙ ap (λ (x : Bool). pick x (has (lit v false) a)) no_other ∙ ap (pick false) (contains_has (lit v false) a here))) where
      no_other : has (lit v true) a ≡ false
      no_other = elim (cases_Bool (has (lit v true) a)) [
        | inl there ↦ absurd (not_both_signs a (lit v true) apart (has_contains (lit v true) a there) here)
        | inr none ↦ none
      ]

code_part : (a b : List Lit) (n : ℕ) → code a n ≡ code b n → IsApart a → All (λ l. IsInput n l.var) a → IsPartOf a b
code_part a b n same apart inputs l here =
    let input = All-contains (λ (x : Lit). IsInput n x.var) a l inputs here in
    sign_part a b n l.var l.positive same apart input.0 input.1 here

-- the numbers of the cubes of some lines
abbrev codes : ℕ → List Derived → List ℕ
codes n lines = map (λ (c : List Lit). code c n) (cubes_of lines)

eqb_differs : (x y : ℕ) → x ≢ y → eqb x y ≡ false
eqb_differs x y differs = elim (cases_Bool (eqb x y)) [ inl same ↦ absurd (differs (eqb-true x y same)) | inr other ↦ other ]

all_later : (n x : ℕ) (lines : List Derived) → ((j : ℕ) (c : List Lit) → slice_get lines j ≡ Some (Cube c) → x ≢ code c n) → AllByRecursion (λ y. eqb x y ≡ false) (codes n lines)
all_later n x [] differs = tt
all_later n x (Cube c ∷ lines) differs = (eqb_differs x (code c n) (differs 0 c refl), all_later n x lines (λ j. differs (suc j)))
all_later n x (Step s ∷ lines) differs = all_later n x lines (λ j. differs (suc j))

codes_distinct : (n : ℕ) (lines : List Derived) →
    ((i j : ℕ) (b c : List Lit) → i < j → slice_get lines i ≡ Some (Cube b) → slice_get lines j ≡ Some (Cube c) → code b n ≢ code c n) → IsDistinct eqb (codes n lines)
unfolding IsDistinct
codes_distinct n [] differ = tt
codes_distinct n (Cube b ∷ lines) differ =
    (all_later n (code b n) lines (λ j c at. differ 0 (suc j) b c (omega arith) refl at), codes_distinct n lines (λ i j x y below at_i at_j. differ (suc i) (suc j) x y (omega arith) at_i at_j))
codes_distinct n (Step s ∷ lines) differ = codes_distinct n lines (λ i j x y below at_i at_j. differ (suc i) (suc j) x y (omega arith) at_i at_j)

codes_below : (n : ℕ) (lines : List Derived) → All (λ x. x < 3 ^ n) (codes n lines)
codes_below n lines = All-map (λ (x : ℕ). x < 3 ^ n) (λ (c : List Lit). code c n) (cubes_of lines) (λ k c inside. code_below (get_or (cubes_of lines) k c) n)

-- one number before the others
distinct_more : (x : ℕ) (xs : List ℕ) → AllByRecursion (λ y. eqb x y ≡ false) xs → IsDistinct eqb xs → IsDistinct eqb (x ∷ xs)
unfolding IsDistinct
distinct_more x xs later distinct = (later, distinct)

-- an element among numbers that are below one
found_below : (q m : ℕ) (xs : List ℕ) → All (λ x. x < m) xs → list_any (eqb q) xs ≡ true → q < m
found_below q m xs all is = found (Any-from_list_any (eqb q) xs is) where
  found : Any (λ x. eqb q x ≡ true) xs → q < m
  found (k, x, inside, at, same) = subst (λ (y : ℕ). y < m) (sym (eqb-true q x same)) (All-contains (λ (y : ℕ). y < m) xs x all (k, inside, at))

pub few : (d : Derivation) → IsAccepted d → AreFew d
few d accepted =
    let most = length-le_from_distinct_below (0 ∷ codes d.inputs d.derived) (3 ^ d.inputs) (distinct_more 0 (codes d.inputs d.derived) (all_later d.inputs 0 d.derived not_zero) (codes_distinct d.inputs d.derived differ)) below in
    let size = length-map (cubes_of d.derived) (λ (c : List Lit). code c d.inputs) in
    omega arith where
      apart_at : (i : ℕ) (cube : List Lit) → IsCubeAt d i cube → IsApart cube
      apart_at i cube at = (least_at d i cube accepted at).apart

      inputs_at : (i : ℕ) (cube : List Lit) → IsCubeAt d i cube → All (λ l. IsInput d.inputs l.var) cube
      inputs_at i cube at = (least_at d i cube accepted at).decides_inputs

      differ : (i j : ℕ) (b c : List Lit) → i < j → IsCubeAt d i b → IsCubeAt d j c → code b d.inputs ≢ code c d.inputs
      differ i j b c earlier at_i at_j same = no_part d accepted i j b c earlier at_i at_j (code_part b c d.inputs same (apart_at i b at_i) (inputs_at i b at_i))

      not_zero : (j : ℕ) (c : List Lit) → IsCubeAt d j c → 0 ≢ code c d.inputs
      not_zero j c at zero_is = no_literals c (not_empty d accepted j c at) (code_part c [] d.inputs (sym zero_is ∙ sym (code_none d.inputs)) (apart_at j c at) (inputs_at j c at)) where
        no_literals : (ls : List Lit) → ls ≢ [] → IsPartOf ls [] → ⊥
        no_literals [] some part = some refl
        no_literals (l ∷ ls) some part = nothing (part l (0, omega arith, refl)) where
          nothing : Contains [] l → ⊥
          nothing (k, inside, is) = absurd (omega arith)

      below : (q : ℕ) → list_any (eqb q) (0 ∷ codes d.inputs d.derived) ≡ true → q < 3 ^ d.inputs
      below q is = found_below q (3 ^ d.inputs) (0 ∷ codes d.inputs d.derived) (All-cons (λ (x : ℕ). x < 3 ^ d.inputs) 0 (codes d.inputs d.derived)
          (subst (λ (k : ℕ). k < 3 ^ d.inputs) (code_none d.inputs) (code_below [] d.inputs)) (codes_below d.inputs d.derived)) is
