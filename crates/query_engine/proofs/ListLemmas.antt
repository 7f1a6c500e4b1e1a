-- Lists that are written to or grow, and two lists place by place.
use Rattle.std.proofs.Common.{◌≡◌, ℕ, zero, suc, ◌<◌, ◌⊎◌, inl, inr, List, [], ◌∷◌, ◌++◌, Some, length, slice_get, get_or, refl, sym, ap, subst, ◌∙◌, arith}
use Rattle.std.specs.Prelude.{slice_set}
use Rattle.std.specs.List.{AllZip}
use Rattle.std.proofs.lemmas.Option.{slice_get_within, slice_get-get_or}
use Rattle.term_dag.proofs.NodeListLemmas.{slice_get_append, before_or_last}
use Rattle.query_engine.specs.Blank.{Pads}

pub some_same : {X : Type 0} (x y : X) → Some x ≡ Some y → x ≡ y
some_same x y e = grind arith

pub get_set_same : {X : Type 0} (xs : List X) (k : ℕ) (x : X) → k < length xs → slice_get (slice_set xs k x) k ≡ Some x
get_set_same [] k x l = absurd (omega arith)
get_set_same (y ∷ ys) zero x l = refl
get_set_same (y ∷ ys) (suc k) x l = get_set_same ys k x (omega arith)

pub get_set_other : {X : Type 0} (xs : List X) (k j : ℕ) (x : X) → (j ≡ k → ⊥) → slice_get (slice_set xs k x) j ≡ slice_get xs j
get_set_other [] k j x d = refl
get_set_other (y ∷ ys) zero zero x d = absurd (d refl)
get_set_other (y ∷ ys) zero (suc j) x d = refl
get_set_other (y ∷ ys) (suc k) zero x d = refl
get_set_other (y ∷ ys) (suc k) (suc j) x d = get_set_other ys k j x (λ e. d (ap suc e))

-- what an index reads is at its place
pub index_is : {X : Type 0} (xs ys : List X) (k : ℕ) (x : X) → ys ≡ xs → k < length xs → x ≡ get_or ys k x → slice_get xs k ≡ Some x
index_is {X} xs ys k x same l is =
    slice_get-get_or xs k x l ∙ ap Some (ap (λ (zs : List X). get_or zs k x) (sym same) ∙ sym is)

pub pads_nothing : {X : Type 0} (P : X → Type 0) (xs : List X) → Pads P xs xs
pads_nothing P xs = record { kept = λ k y at. at; added = λ k y at. inl at }

pub pads_one : {X : Type 0} (P : X → Type 0) (old xs : List X) (x : X) → Pads P old xs → P x → Pads P old (xs ++ x ∷ [])
pads_one {X} P old xs x pads is = record {
  kept = λ k y at. let h = pads.kept k y at in slice_get_append xs (x ∷ []) k (slice_get_within xs k y h) ∙ h;
  added = λ k y at. by k y (before_or_last xs x y k at);
} where
  by : (k : ℕ) (y : X) → (slice_get xs k ≡ Some y) ⊎ ((k ≡ length xs) × (Some x ≡ Some y)) → (slice_get old k ≡ Some y) ⊎ P y
  by k y (inl h) = pads.added k y h
  by k y (inr h) = inr (subst P (some_same x y h.1) is)

pub zip_at : {A B : Type 0} (R : A → B → Type 0) (xs : List A) (ys : List B) (k : ℕ) (x : A) (y : B) → AllZip R xs ys →
    slice_get xs k ≡ Some x → slice_get ys k ≡ Some y → R x y
zip_at R [] ys k x y zip atx aty = absurd (omega (arith, slice_get_within [] k x atx))
zip_at R (a ∷ xs) [] k x y zip atx aty = absurd zip
zip_at {A} {B} R (a ∷ xs) (b ∷ ys) zero x y zip atx aty =
    let P : A → Type 0 = λ z. R z y in
    let Q : B → Type 0 = λ z. R a z in
    subst P (some_same a x atx) (subst Q (some_same b y aty) zip.0)
zip_at R (a ∷ xs) (b ∷ ys) (suc k) x y zip atx aty = zip_at R xs ys k x y zip.1 atx aty

pub zip_from : {A B : Type 0} (R : A → B → Type 0) (xs : List A) (ys : List B) → length ys ≡ length xs →
    ((k : ℕ) (x : A) (y : B) → slice_get xs k ≡ Some x → slice_get ys k ≡ Some y → R x y) → AllZip R xs ys
zip_from R [] [] long each = tt
zip_from R [] (b ∷ ys) long each = absurd (omega arith)
zip_from R (a ∷ xs) [] long each = absurd (omega arith)
zip_from R (a ∷ xs) (b ∷ ys) long each =
    (each 0 a b refl refl, zip_from R xs ys (omega arith) (λ k x y atx aty. each (suc k) x y atx aty))

pub zip_long : {A B : Type 0} (R : A → B → Type 0) (xs : List A) (ys : List B) → AllZip R xs ys → length ys ≡ length xs
zip_long R [] [] zip = refl
zip_long R [] (b ∷ ys) zip = absurd zip
zip_long R (a ∷ xs) [] zip = absurd zip
zip_long R (a ∷ xs) (b ∷ ys) zip = ap suc (zip_long R xs ys zip.1)
