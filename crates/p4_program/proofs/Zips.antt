-- What holds place by place of two lists, and at each index; and a test of a list that was mapped.
use Rattle.std.proofs.Common.{◌≡◌, ℕ, zero, suc, ◌+◌, ◌-◌, ◌<◌, List, [], ◌∷◌, length, get_or, drop, All, Bool, ◌||◌, refl, sym, ap, ◌∙◌, subst, arith, map}
use Rattle.std.specs.List.{AllZip, list_any}
use Rattle.std.proofs.lemmas.List.{get_or-drop, length-drop}

pub all_zip_long : {A B : Type 0} (R : A → B → Type 0) (xs : List A) (ys : List B) → AllZip R xs ys → length xs ≡ length ys
all_zip_long R [] [] h = refl
all_zip_long R [] (y ∷ ys) h = absurd h
all_zip_long R (x ∷ xs) [] h = absurd h
all_zip_long R (x ∷ xs) (y ∷ ys) h = let e : length xs ≡ length ys = all_zip_long R xs ys h.1 in omega arith

pub all_zip_at : {A B : Type 0} (R : A → B → Type 0) (xs : List A) (ys : List B) (i : ℕ) (d : A) (e : B) → AllZip R xs ys → i < length xs → R (get_or xs i d) (get_or ys i e)
all_zip_at R [] [] i d e h below = absurd (let none : i < 0 = below in omega arith)
all_zip_at R [] (y ∷ ys) i d e h below = absurd h
all_zip_at R (x ∷ xs) [] i d e h below = absurd h
all_zip_at R (x ∷ xs) (y ∷ ys) zero d e h below = h.0
all_zip_at R (x ∷ xs) (y ∷ ys) (suc i) d e h below = all_zip_at R xs ys i d e h.1 (omega arith)

pub all_zip_from : {A B : Type 0} (R : A → B → Type 0) (xs : List A) (ys : List B) → length xs ≡ length ys → ((i : ℕ) (d : A) (e : B) → i < length xs → R (get_or xs i d) (get_or ys i e)) → AllZip R xs ys
all_zip_from R [] [] long each = tt
all_zip_from R [] (y ∷ ys) long each = absurd (let none : 0 ≡ suc (length ys) = long in omega arith)
all_zip_from R (x ∷ xs) [] long each = absurd (let none : suc (length xs) ≡ 0 = long in omega arith)
all_zip_from R (x ∷ xs) (y ∷ ys) long each =
    (each 0 x y (omega arith), all_zip_from R xs ys (omega arith) (λ i d e below. each (suc i) d e (omega arith)))

pub all_zip_map : {A B C : Type 0} (R : B → C → Type 0) (f : A → B) (xs : List A) (ys : List C) → AllZip (λ x y. R (f x) y) xs ys → AllZip R (map f xs) ys
all_zip_map R f [] [] h = tt
all_zip_map R f [] (y ∷ ys) h = absurd h
all_zip_map R f (x ∷ xs) [] h = absurd h
all_zip_map R f (x ∷ xs) (y ∷ ys) h = (h.0, all_zip_map R f xs ys h.1)

pub all_zip_unmap : {A B C : Type 0} (R : B → C → Type 0) (f : A → B) (xs : List A) (ys : List C) → AllZip R (map f xs) ys → AllZip (λ x y. R (f x) y) xs ys
all_zip_unmap R f [] [] h = tt
all_zip_unmap R f [] (y ∷ ys) h = absurd h
all_zip_unmap R f (x ∷ xs) [] h = absurd h
all_zip_unmap R f (x ∷ xs) (y ∷ ys) h = (h.0, all_zip_unmap R f xs ys h.1)

pub list_any_map : {A B : Type 0} (p : B → Bool) (f : A → B) (xs : List A) → list_any p (map f xs) ≡ list_any (λ x. p (f x)) xs
list_any_map p f [] = refl
list_any_map p f (x ∷ xs) = ap (λ b. p (f x) || b) (list_any_map p f xs)

-- what holds of all behind the place i, and at each place there
pub all_behind : {A : Type 0} (P : A → Type 0) (xs : List A) (i : ℕ) → All P (drop (i + 1) xs) → (j : ℕ) (d : A) → i < j → j < length xs → P (get_or xs j d)
all_behind P xs i all j d behind below =
    let n : ℕ = j - (i + 1) in
    let e : (i + 1) + n ≡ j = omega arith in
    let at : get_or (drop (i + 1) xs) n d ≡ get_or xs ((i + 1) + n) d = get_or-drop (i + 1) xs n d in
    let count : length (drop (i + 1) xs) ≡ length xs - (i + 1) = length-drop (i + 1) xs in
    let within : n < length (drop (i + 1) xs) = omega arith in
    subst P (at ∙ ap (λ m. get_or xs m d) e) (all n d within)

pub behind_all : {A : Type 0} (P : A → Type 0) (xs : List A) (i : ℕ) → ((j : ℕ) (d : A) → i < j → j < length xs → P (get_or xs j d)) → All P (drop (i + 1) xs)
behind_all P xs i each n d within =
    let at : get_or (drop (i + 1) xs) n d ≡ get_or xs ((i + 1) + n) d = get_or-drop (i + 1) xs n d in
    let count : length (drop (i + 1) xs) ≡ length xs - (i + 1) = length-drop (i + 1) xs in
    subst P (sym at) (each ((i + 1) + n) d (omega arith) (omega arith))

pub same_items : {A : Type 0} (xs ys : List A) → AllZip (λ x y. x ≡ y) xs ys → xs ≡ ys
same_items [] [] h = refl
same_items [] (y ∷ ys) h = absurd h
same_items (x ∷ xs) [] h = absurd h
same_items (x ∷ xs) (y ∷ ys) h = ap (λ z. z ∷ xs) h.0 ∙ ap (λ zs. y ∷ zs) (same_items xs ys h.1)

each_itself : {A : Type 0} (xs : List A) → AllZip (λ x y. x ≡ y) xs xs
each_itself [] = tt
each_itself (x ∷ xs) = (refl, each_itself xs)

pub items_same : {A : Type 0} (xs ys : List A) → xs ≡ ys → AllZip (λ x y. x ≡ y) xs ys
items_same xs ys same = subst (λ zs. AllZip (λ x y. x ≡ y) xs zs) same (each_itself xs)
