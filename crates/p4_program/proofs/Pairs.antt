-- A step of a loop over items: what holds of each item, and of each item and every later one.
use Rattle.std.proofs.Common.{◌≡◌, ℕ, ◌+◌, ◌-◌, ◌<◌, List, length, get_or, take, drop, All, AllPairs, sym, ◌∙◌, subst, below_more, arith}
use Rattle.std.proofs.lemmas.List.{get_or_default, length-drop, take_all}
use Rattle.p4_program.proofs.Zips.{all_behind, behind_all}

-- all items behind the place n
abbrev pub behind : {A : Type 0} → List A → ℕ → List A
behind xs n = take (length xs - (n + 1)) (drop (n + 1) xs)

behind_is : {A : Type 0} (xs : List A) (n : ℕ) → behind xs n ≡ drop (n + 1) xs
behind_is xs n =
    let count : length (drop (n + 1) xs) ≡ length xs - (n + 1) = length-drop (n + 1) xs in
    take_all (length xs - (n + 1)) (drop (n + 1) xs) (omega arith)

-- R holds of the items before n and each later one
abbrev pub PairsBelow : {A : Type 0} → (A → A → Type 0) → List A → ℕ → Type 0
PairsBelow {A} R xs n = (i j : ℕ) (d : A) → i < n → i < j → j < length xs → R (get_or xs i d) (get_or xs j d)

pub pairs_more : {A : Type 0} (R : A → A → Type 0) (xs : List A) (n : ℕ) (x : A) → x ≡ get_or xs n x → PairsBelow R xs n → All (R x) (behind xs n) → PairsBelow R xs (n + 1)
pairs_more R xs n x is below all i j d =
    below_more (λ i. i < j → j < length xs → R (get_or xs i d) (get_or xs j d)) n
    (λ k less. below k j d less)
    (λ after within.
    let short : n < length xs = omega arith in
    let at : x ≡ get_or xs n d = is ∙ get_or_default xs n x d short in
    subst (λ y. R y (get_or xs j d)) at (all_behind (R x) xs n (subst (λ zs. All (R x) zs) (behind_is xs n) all) j d after within))
    i

pub pairs_behind : {A : Type 0} (R : A → A → Type 0) (xs : List A) (n : ℕ) (x : A) → x ≡ get_or xs n x → AllPairs R xs → All (R x) (behind xs n)
pairs_behind R xs n x is pairs =
    subst (λ zs. All (R x) zs) (sym (behind_is xs n))
    (behind_all (R x) xs n
    (λ j d after within.
    let short : n < length xs = omega arith in
    let at : get_or xs n d ≡ x = sym (is ∙ get_or_default xs n x d short) in
    subst (λ y. R y (get_or xs j d)) at (pairs n j d after within)))

pub each_more : {A : Type 0} (P : A → Type 0) (xs : List A) (n : ℕ) (x : A) → x ≡ get_or xs n x → n < length xs → ((k : ℕ) (d : A) → k < n → P (get_or xs k d)) → P x → (k : ℕ) (d : A) → k < n + 1 → P (get_or xs k d)
each_more P xs n x is short below here k d =
    below_more (λ k. P (get_or xs k d)) n (λ k less. below k d less)
    (subst P (is ∙ get_or_default xs n x d short) here)
    k

pub each_here : {A : Type 0} (P : A → Type 0) (xs : List A) (n : ℕ) (x : A) → x ≡ get_or xs n x → n < length xs → All P xs → P x
each_here P xs n x is short all = subst P (sym is) (all n x short)
