-- The places of statements, list by list.
use Rattle.std.proofs.Common.{◌≡◌, ℕ, ◌+◌, ◌<◌, ◌≤◌, List, [], ◌∷◌, ◌++◌, length, get_or, take, map, flat_map, append_assoc, refl, sym, ap, ◌∙◌, append-nil}
use Rattle.std.proofs.Math.Logic.{∥∥₁_elim}
use Rattle.std.specs.Coded.{Coded-set, coded_list, coded_ℕ, le_prop}
use Rattle.std.proofs.lemmas.Grind.{flat_map-append}
use Rattle.std.proofs.lemmas.List.{map-append, take_more}
use Rattle.tg_base.specs.declared.place.Span.{Span}
use Rattle.p4_program.specs.declared.program.TheConstants.{MAX_STATEMENTS}
use Rattle.p4_program.specs.Numbered.{numbers_from}
use Rattle.p4_program.specs.Syntax.Numbering.{NumberedPlace, place_of, statements_numbered}
use Rattle.p4_program.specs.Syntax.Programs.{CoreProgram}
use Rattle.p4_program.specs.WellFormed.Programs.{WellFormed}

-- the places of the statements that stand in each of these
abbrev pub places_in : {A : Type 0} → (A → List NumberedPlace) → List A → List Span
places_in f xs = map place_of (flat_map f xs)

one_more : {A : Type 0} (f : A → List NumberedPlace) (xs : List A) (x : A) → places_in f (xs ++ x ∷ []) ≡ places_in f xs ++ map place_of (f x)
one_more f xs x =
    ap (map place_of) (flat_map-append f xs (x ∷ []))
    ∙ map-append place_of (flat_map f xs) (f x ++ [])
    ∙ ap (λ ns. places_in f xs ++ map place_of ns) (append-nil (f x))

next_taken : {A : Type 0} (f : A → List NumberedPlace) (xs : List A) (k : ℕ) (x : A) → k < length xs → x ≡ get_or xs k x → places_in f (take (k + 1) xs) ≡ places_in f (take k xs) ++ map place_of (f x)
next_taken f xs k x within is =
    ap (places_in f) (take_more xs k x within)
    ∙ ap (λ y. places_in f (take k xs ++ y ∷ [])) (sym is)
    ∙ one_more f (take k xs) x

-- A step of a loop that puts the places of one behind those before it.
pub places_more : {A : Type 0} (f : A → List NumberedPlace) (xs : List A) (k : ℕ) (x : A) (first now next : List Span) → k < length xs → x ≡ get_or xs k x → now ≡ first ++ places_in f (take k xs) → next ≡ now ++ map place_of (f x) → next ≡ first ++ places_in f (take (k + 1) xs)
places_more f xs k x first now next within is before step =
    step
    ∙ ap (λ ps. ps ++ map place_of (f x)) before
    ∙ append_assoc first (places_in f (take k xs)) (map place_of (f x))
    ∙ ap (λ ps. first ++ ps) (sym (next_taken f xs k x within is))

pub flat_mapped : {A B C : Type 0} (f : B → List C) (g : A → B) (xs : List A) → flat_map f (map g xs) ≡ flat_map (λ x. f (g x)) xs
flat_mapped f g [] = refl
flat_mapped f g (x ∷ xs) = ap (λ ys. f (g x) ++ ys) (flat_mapped f g xs)

pub two_lists : (first now last : List Span) (one two : List NumberedPlace) → now ≡ first ++ map place_of one → last ≡ now ++ map place_of two → last ≡ first ++ map place_of (one ++ two)
two_lists first now last one two before step =
    step
    ∙ ap (λ ps. ps ++ map place_of two) before
    ∙ append_assoc first (map place_of one) (map place_of two)
    ∙ ap (λ ps. first ++ ps) (sym (map-append place_of one two))

pub twice_mapped : {A B C : Type 0} (f : B → C) (g : A → B) (xs : List A) → map f (map g xs) ≡ map (λ x. f (g x)) xs
twice_mapped f g [] = refl
twice_mapped f g (x ∷ xs) = ap (λ ys. f (g x) ∷ ys) (twice_mapped f g xs)

-- the numbers of a program's statements, and how many there are
pub numbers_are : (p : CoreProgram) → ∥ WellFormed p ∥₁ → map (λ s. s.number) (statements_numbered p) ≡ numbers_from 1 (length (statements_numbered p))
numbers_are p w = ∥∥₁_elim w (Coded-set (coded_list coded_ℕ) _ _) (λ x. x.numbered)

pub few_numbers : (p : CoreProgram) → ∥ WellFormed p ∥₁ → length (statements_numbered p) ≤ MAX_STATEMENTS
few_numbers p w = ∥∥₁_elim w le_prop (λ x. x.within_limits.statements)
