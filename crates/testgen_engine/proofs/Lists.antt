-- Lemmas on lists and texts.
use Rattle.std.proofs.Common.{◌≡◌, ℕ, ◌-◌, ◌<◌, ◌≤◌, List, [], ◌∷◌, ◌++◌, length, get_or, take, drop, false, refl, sym, ap, ◌∙◌, arith, length-drop, append_assoc}
use Rattle.std.proofs.Math.Dec.{eqb}
use Rattle.std.proofs.lemmas.Bool.{eq-eqb, false≢true}
use Rattle.std.specs.List.{concat}
use Rattle.std.proofs.lemmas.List.{take-append-drop, take_all}

-- a list of two is its first and its second item
pub two_items : {X : Type 0} (xs : List X) (a b : X) → 2 ≤ length xs → length xs < 3 → a ≡ get_or xs 0 a → b ≡ get_or xs 1 b → xs ≡ a ∷ b ∷ []
two_items [] a b low high e f = absurd (omega arith)
two_items (x ∷ []) a b low high e f = absurd (omega arith)
two_items (x ∷ y ∷ []) a b low high e f = let p : a ≡ x = e in let q : b ≡ y = f in cc
two_items (x ∷ y ∷ z ∷ xs) a b low high e f = absurd (omega arith)

-- a list is its first items, and then the others
pub take-rest : {X : Type 0} (xs : List X) (count : ℕ) → count ≤ length xs → take count xs ++ take (length xs - count) (drop count xs) ≡ xs
take-rest xs count h =
    let all : take (length xs - count) (drop count xs) ≡ drop count xs = take_all (length xs - count) (drop count xs) (omega (arith, length-drop count xs)) in
    ap (λ ys. take count xs ++ ys) all ∙ take-append-drop count xs

-- what follows one front is determined
pub append_left_injective : {X : Type 0} (front xs ys : List X) → front ++ xs ≡ front ++ ys → xs ≡ ys
append_left_injective [] xs ys e = e
append_left_injective (x ∷ front) xs ys e = append_left_injective front xs ys (let h : x ∷ (front ++ xs) ≡ x ∷ (front ++ ys) = e in cc)

-- four texts, each added behind the one before
pub join_four : (start first second third fourth a b c d : List ℕ) → start ≡ [] → first ≡ start ++ a → second ≡ first ++ b → third ≡ second ++ c → fourth ≡ third ++ d
    → fourth ≡ a ++ (b ++ (c ++ d))
join_four start first second third fourth a b c d none one two three four =
    let e1 : first ≡ a = one ∙ ap (λ xs. xs ++ a) none in
    let e2 : second ≡ a ++ b = two ∙ ap (λ xs. xs ++ b) e1 in
    let e3 : third ≡ a ++ (b ++ c) = three ∙ ap (λ xs. xs ++ c) e2 ∙ append_assoc a b c in
    four ∙ ap (λ xs. xs ++ d) e3 ∙ append_assoc a (b ++ c) d ∙ ap (λ xs. a ++ xs) (append_assoc b c d)

-- a list that is not empty has an item
pub some_item : {X : Type 0} (xs : List X) → (xs ≡ [] → ⊥) → 1 ≤ length xs
some_item [] h = absurd (h refl)
some_item (x ∷ xs) h = omega arith

-- pieces one behind another, and then a text
abbrev pub pieces_then : List (List ℕ) → List ℕ → List ℕ
pieces_then [] text = text
pieces_then (piece ∷ pieces) text = piece ++ pieces_then pieces text

pub concat-then : (pieces : List (List ℕ)) (text : List ℕ) → concat pieces ++ text ≡ pieces_then pieces text
concat-then [] text = refl
concat-then (piece ∷ pieces) text = append_assoc piece (concat pieces) text ∙ ap (λ xs. piece ++ xs) (concat-then pieces text)

-- so what follows one front is told from its pieces
pub same_pieces : (ps qs : List (List ℕ)) (x y : List ℕ) → concat ps ++ x ≡ concat qs ++ y → pieces_then ps x ≡ pieces_then qs y
same_pieces ps qs x y e = sym (concat-then ps x) ∙ e ∙ concat-then qs y

-- texts that differ at a place are not one
pub differ_at : (place : ℕ) (xs ys : List ℕ) → xs ≡ ys → eqb (get_or xs place 0) (get_or ys place 0) ≡ false → ⊥
differ_at place xs ys e h = false≢true (sym h ∙ eq-eqb (get_or xs place 0) (get_or ys place 0) (ap (λ zs. get_or zs place 0) e))
