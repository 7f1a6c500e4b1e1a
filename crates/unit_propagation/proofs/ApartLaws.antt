-- No variable stands twice: in a list with one more literal, in a front, and in the list of negations.
use Rattle.std.proofs.Common.{◌≡◌, ◌≢◌, ℕ, ◌<◌, refl, List, [], ◌∷◌, ◌++◌, length, get_or, take, drop, map, inl, inr, ap, sym, ◌∙◌, subst, arith, length-append}
use Rattle.std.specs.Prelude.{Contains}
use Rattle.std.proofs.lemmas.List.{get_or_append_left, get_or_push, get_or-map, get_or-take, take-append-drop, length-map, length-take-le}
use Rattle.std.proofs.lemmas.List.Elements.{Contains-get_or}
use Rattle.std.proofs.lemmas.List.Quantifiers.{all_pairs_push}
use Rattle.cnf_core.specs.declared.formula.Lit.{Lit}
use Rattle.cnf_core.specs.Literal.{negation, IsApart}
use Rattle.cnf_core.proofs.Literals.{same_var-cases}
use Rattle.unit_propagation.specs.Units.{IsOpen}

-- an open literal has a variable of its own
pub apart_open : (trail : List Lit) (l : Lit) → IsApart trail → IsOpen trail l → IsApart (trail ++ l ∷ [])
apart_open trail l apart is_open = all_pairs_push (λ k m. k.var ≢ m.var) trail l apart
    (λ k d inside same. elim (same_var-cases (get_or trail k d) l same) [
      | inl is_l ↦ is_open.0 (subst (Contains trail) is_l (Contains-get_or trail k d inside))
      | inr falsified ↦ is_open.1 (subst (Contains trail) falsified (Contains-get_or trail k d inside))
    ])

pub apart_front : (xs ys : List Lit) → IsApart (xs ++ ys) → IsApart xs
apart_front xs ys apart i j d below inside same =
    apart i j d below (omega (arith, length-append xs ys))
    (ap (λ (m : Lit). m.var) (get_or_append_left xs ys d i (omega arith)) ∙ same ∙ ap (λ (m : Lit). m.var) (sym (get_or_append_left xs ys d j inside)))

pub apart_take : (n : ℕ) (xs : List Lit) → IsApart xs → IsApart (take n xs)
apart_take n xs apart = apart_front (take n xs) (drop n xs) (subst IsApart (sym (take-append-drop n xs)) apart)

var_negations : (xs : List Lit) (i : ℕ) (d : Lit) → i < length xs → (get_or (map negation xs) i d).var ≡ (get_or xs i d).var
var_negations xs i d inside = ap (λ (m : Lit). m.var) (get_or-map negation xs i d d inside)

pub apart_negations : (xs : List Lit) → IsApart xs → IsApart (map negation xs)
apart_negations xs apart i j d below inside same =
    let size = length-map xs negation in
    apart i j d below (omega arith) (sym (var_negations xs i d (omega arith)) ∙ same ∙ var_negations xs j d (omega arith))

pub apart_from_negations : (xs : List Lit) → IsApart (map negation xs) → IsApart xs
apart_from_negations xs apart i j d below inside same =
    let size = length-map xs negation in
    apart i j d below (omega arith) (var_negations xs i d (omega arith) ∙ same ∙ sym (var_negations xs j d (omega arith)))

-- a literal before the last has another variable
pub apart_last : (trail : List Lit) (l k : Lit) → IsApart (trail ++ l ∷ []) → Contains trail k → k.var ≢ l.var
apart_last trail l k apart (i, inside, at) same =
    apart i (length trail) k inside (omega (arith, length-append trail (l ∷ [])))
    (ap (λ (m : Lit). m.var) (get_or_append_left trail (l ∷ []) k i inside ∙ at) ∙ same ∙ ap (λ (m : Lit). m.var) (sym (get_or_push trail l k (length trail) refl)))

-- and so it does not stand before itself
pub apart_before : (trail : List Lit) (place : ℕ) (l : Lit) → IsApart trail → place < length trail → l ≡ get_or trail place l → Contains (take place trail) l → ⊥
apart_before trail place l apart inside is (i, within, at) =
    let size = length-take-le place trail (omega arith) in
    apart i place l (omega arith) inside (ap (λ (m : Lit). m.var) (sym (get_or-take place trail i l (omega arith)) ∙ at ∙ is))
