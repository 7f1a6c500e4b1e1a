-- Lists from their end, and the tokens so far by their last.
use Rattle.std.proofs.Common.{◌≡◌, List, [], ◌∷◌, ◌++◌, append_assoc, refl, sym, ap, ◌∙◌, subst, inl, inr, ◌⊎◌}
use Rattle.std.proofs.lemmas.List.{append-nil, same_from_push}
use Rattle.p4_lexer.specs.declared.token.Token.{Token}
use Rattle.p4_lexer.specs.declared.token.Word.{Word}
use Rattle.p4_lexer.specs.Marks.{EndsWith}

-- what holds of no element, and of one more at the end, holds of every list
snoc_from : {A : Type 0} (P : List A → Type 0) → ((xs : List A) (x : A) → P xs → P (xs ++ x ∷ [])) → (front rest : List A) → P front → P (front ++ rest)
snoc_from P more front [] here = subst P (sym (append-nil front)) here
snoc_from P more front (x ∷ rest) here = subst P (append_assoc front (x ∷ []) rest) (snoc_from P more (front ++ x ∷ []) rest (more front x here))

pub snoc_ind : {A : Type 0} (P : List A → Type 0) → P [] → ((xs : List A) (x : A) → P xs → P (xs ++ x ∷ [])) → (xs : List A) → P xs
snoc_ind P none more xs = snoc_from P more [] xs none

-- a list has no element, or a last one
abbrev pub HasLast : {A : Type 0} → List A → Type 0
HasLast {A} xs = (xs ≡ []) ⊎ ((front : List A) × (x : A) × (xs ≡ front ++ x ∷ []))

pub has_last : {A : Type 0} (xs : List A) → HasLast xs
has_last {A} xs = snoc_ind (λ ys. HasLast ys) (inl refl) (λ ys y _. inr (ys, y, refl)) xs

pub push_not_nil : {A : Type 0} (xs : List A) (x : A) → xs ++ x ∷ [] ≡ [] → ⊥
push_not_nil [] x e = cc
push_not_nil (y ∷ xs) x e = cc

pub middle_not_nil : {A : Type 0} (xs : List A) (x : A) (ys : List A) → [] ≡ xs ++ x ∷ ys → ⊥
middle_not_nil [] x ys e = cc
middle_not_nil (y ∷ xs) x ys e = cc

pub ends_none : (w : Word) → EndsWith [] w → ⊥
ends_none w h = push_not_nil h.0 h.1 (sym h.2)

pub ends_push : (before : List Token) (t : Token) (w : Word) → EndsWith (before ++ t ∷ []) w → t.word ≡ w
ends_push before t w h = ap (λ (u : Token). u.word) (same_from_push before h.0 t h.1 h.2).1 ∙ h.3

pub ends_here : (before : List Token) (t : Token) (w : Word) → t.word ≡ w → EndsWith (before ++ t ∷ []) w
ends_here before t w e = (before, t, refl, e)
