-- Booleans, and what stands in a list.
use Rattle.std.proofs.Common.{◌≡◌, ℕ, zero, suc, ◌<◌, ◌⊎◌, Bool, true, false, ◌&&◌, ◌||◌, List, [], ◌∷◌, ◌++◌, length, inl, inr, ⊎_elim, refl, sym, subst, suc-le-suc, le_of_suc-le-suc, arith}
use Rattle.std.specs.Prelude.{⊤, Contains, All, AllPairs, slice_index_or}
use Rattle.std.proofs.lemmas.Bool.{false≢true}

-- ---- Booleans

pub decided : (b : Bool) → (b ≡ true) ⊎ (b ≡ false)
decided true = inl refl
decided false = inr refl

pub both_hold : (a b : Bool) → a && b ≡ true → (a ≡ true) × (b ≡ true)
both_hold true b e = (refl, e)
both_hold false b e = absurd (false≢true e)

pub hold_both : (a b : Bool) → a ≡ true → b ≡ true → a && b ≡ true
hold_both true b e f = f
hold_both false b e f = absurd (false≢true e)

pub neither : (a b : Bool) → a || b ≡ false → (a ≡ false) × (b ≡ false)
neither true b e = absurd (false≢true (sym e))
neither false b e = (refl, e)

-- ---- what stands in a list

pub none_long : {A : Type 0} (xs : List A) → length xs ≡ 0 → xs ≡ []
none_long [] e = refl
none_long (x ∷ xs) e = absurd (omega (arith, e))

pub first_in : {A : Type 0} (x : A) (xs : List A) → Contains (x ∷ xs) x
first_in x xs = (0, omega arith, refl)

pub later_in : {A : Type 0} (x y : A) (xs : List A) → Contains xs y → Contains (x ∷ xs) y
later_in x y xs c = (suc c.0, suc-le-suc c.1, c.2)

pub none_in : {A C : Type 0} (y : A) → Contains [] y → C
none_in y c = absurd (omega (arith, c.1))

case_at : {A : Type 0} (x : A) (xs : List A) (y : A) (k : ℕ) → k < length (x ∷ xs) → slice_index_or (x ∷ xs) k y ≡ y → (x ≡ y) ⊎ Contains xs y
case_at x xs y zero l e = inl e
case_at x xs y (suc k) l e = inr (k, le_of_suc-le-suc l, e)

pub first_or_later : {A : Type 0} (x : A) (xs : List A) (y : A) → Contains (x ∷ xs) y → (x ≡ y) ⊎ Contains xs y
first_or_later x xs y c = case_at x xs y c.0 c.1 c.2

-- ---- each, and each two

-- P of each element
abbrev pub Each : {A : Type 0} → (A → Type 0) → List A → Type 0
Each P [] = ⊤
Each P (x ∷ xs) = P x × Each P xs

-- R of each element and each later one
abbrev pub Pairs : {A : Type 0} → (A → A → Type 0) → List A → Type 0
Pairs R [] = ⊤
Pairs R (x ∷ xs) = Each (R x) xs × Pairs R xs

pub each_left : {A : Type 0} → (P : A → Type 0) (xs ys : List A) → Each P (xs ++ ys) → Each P xs
each_left P [] ys h = tt
each_left P (x ∷ xs) ys h = (h.0, each_left P xs ys h.1)

pub each_right : {A : Type 0} → (P : A → Type 0) (xs ys : List A) → Each P (xs ++ ys) → Each P ys
each_right P [] ys h = h
each_right P (x ∷ xs) ys h = each_right P xs ys h.1

pub each_both : {A : Type 0} → (P : A → Type 0) (xs ys : List A) → Each P xs → Each P ys → Each P (xs ++ ys)
each_both P [] ys h k = k
each_both P (x ∷ xs) ys h k = (h.0, each_both P xs ys h.1 k)

pub each_by : {A : Type 0} (P Q : A → Type 0) (xs : List A) → ((x : A) → P x → Q x) → Each P xs → Each Q xs
each_by P Q [] h k = tt
each_by P Q (x ∷ xs) h k = (h x k.0, each_by P Q xs h k.1)

pub each_of : {A : Type 0} → (P : A → Type 0) (xs : List A) → ((x : A) → Contains xs x → P x) → Each P xs
each_of P [] h = tt
each_of P (x ∷ xs) h = (h x (first_in x xs), each_of P xs (λ y c. h y (later_in x y xs c)))

pub each_in : {A : Type 0} (P : A → Type 0) (xs : List A) (y : A) → Each P xs → Contains xs y → P y
each_in P [] y h c = none_in y c
each_in P (x ∷ xs) y h c = ⊎_elim (λ (e : x ≡ y). subst P e h.0) (λ later. each_in P xs y h.1 later) (first_or_later x xs y c)

pub each_all : {A : Type 0} (P : A → Type 0) (xs : List A) → All P xs → Each P xs
each_all P [] h = tt
each_all P (x ∷ xs) h = (h 0 x (omega arith), each_all P xs (λ k d l. h (suc k) d (suc-le-suc l)))

pub pairs_all : {A : Type 0} (R : A → A → Type 0) (xs : List A) → AllPairs R xs → Pairs R xs
pairs_all R [] h = tt
pairs_all R (x ∷ xs) h = (
  each_all (R x) xs (λ k d l. h 0 (suc k) d (omega arith) (suc-le-suc l)),
  pairs_all R xs (λ i j d l m. h (suc i) (suc j) d (suc-le-suc l) (suc-le-suc m)),
)
