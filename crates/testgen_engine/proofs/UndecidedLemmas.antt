-- The lines of undecided nibbles tell the places of these nibbles in each test.
use Rattle.std.proofs.Common.{◌≡◌, ℕ, ◌+◌, ◌^◌, ◌<◌, ◌≤◌, List, [], ◌∷◌, ◌++◌, length, map, refl, ap, sym, ◌∙◌, append_assoc, arith}
use Prim.Native.Nat.{suc}
use lib.Chars.{codes}
use Rattle.std.proofs.lemmas.Grind.{flat_map-append}
use Rattle.std.proofs.lemmas.List.Elements.{All-append, All-from_recursion, recursion_from_All}
use Rattle.std.specs.Fmt.{decimal}
use Rattle.std.specs.List.{AllByRecursion, concat, flat_map}
use Rattle.p4_meaning.specs.declared.test.Nibble.{Nibble}
use Rattle.p4_meaning.specs.declared.test.Nibble.TheVariants.{Fixed, Masked, Undecided}
use Rattle.p4_meaning.specs.declared.test.Test.{Test}
use Rattle.testgen_engine.specs.Statements.{StartsNoDigit}
use Rattle.testgen_engine.specs.Report.{nibble_line, nibble_lines, nibbles_of, undecided_lines}
use Rattle.testgen_engine.specs.Telling.{TestFits, undecided_from, undecided_places}
use Rattle.testgen_engine.proofs.Digits.{same_decimal_behind}
use Rattle.testgen_engine.proofs.Lists.{append_left_injective, same_pieces, differ_at}

-- places in a test of this number
abbrev pub places_in : ℕ → List ℕ → List (ℕ × ℕ)
places_in test = map (λ place. (test, place))

-- the undecided nibbles of tests, the first test having this number: the number of the test, and the place
abbrev pub undecided_pairs : ℕ → List Test → List (ℕ × ℕ)
undecided_pairs number [] = []
undecided_pairs number (t ∷ ts) = places_in number (undecided_places t) ++ undecided_pairs (suc number) ts

-- the line of such a place, and its pieces
abbrev pieces_of : ℕ × ℕ → List (List ℕ)
pieces_of p = codes "test " ∷ decimal p.0 ∷ codes " nibble " ∷ decimal p.1 ∷ codes " undecided\n" ∷ []

abbrev pub line_of : ℕ × ℕ → List ℕ
line_of p = concat (pieces_of p)

-- the lines of tests are those of their places
nibble_lines-places : (test place : ℕ) (nibbles : List Nibble) → nibble_lines test place nibbles ≡ flat_map line_of (places_in test (undecided_from place nibbles))
nibble_lines-places test place [] = refl
nibble_lines-places test place (Fixed digit ∷ nibbles) = nibble_lines-places test (suc place) nibbles
nibble_lines-places test place (Masked ∷ nibbles) = nibble_lines-places test (suc place) nibbles
nibble_lines-places test place (Undecided ∷ nibbles) = ap (λ xs. nibble_line test place ++ xs) (nibble_lines-places test (suc place) nibbles)

pub undecided_lines-places : (number : ℕ) (ts : List Test) → undecided_lines number ts ≡ flat_map line_of (undecided_pairs number ts)
undecided_lines-places number [] = refl
undecided_lines-places number (t ∷ ts) =
    (λ i. nibble_lines-places number 0 (nibbles_of t.expected) i ++ undecided_lines-places (suc number) ts i)
    ∙ sym (flat_map-append line_of (places_in number (undecided_places t)) (undecided_pairs (suc number) ts))

-- both numbers have 64 bits
abbrev pub PairFits : ℕ × ℕ → Type 0
PairFits p = (p.0 < 2 ^ 64) × (p.1 < 2 ^ 64)

places_fit : (test place : ℕ) (nibbles : List Nibble) → test < 2 ^ 64 → place + length nibbles < 2 ^ 64 → AllByRecursion PairFits (places_in test (undecided_from place nibbles))
places_fit test place [] h k = tt
places_fit test place (Fixed digit ∷ nibbles) h k = places_fit test (suc place) nibbles h (omega arith)
places_fit test place (Masked ∷ nibbles) h k = places_fit test (suc place) nibbles h (omega arith)
places_fit test place (Undecided ∷ nibbles) h k = ((h, omega arith), places_fit test (suc place) nibbles h (omega arith))

pub undecided_fit : (number : ℕ) (ts : List Test) → number + length ts ≤ 2 ^ 64 → AllByRecursion TestFits ts → AllByRecursion PairFits (undecided_pairs number ts)
undecided_fit number [] h p = tt
undecided_fit number (t ∷ ts) h p =
    let few = p.0.nibbles in
    let here = places_in number (undecided_places t) in
    let first = places_fit number 0 (nibbles_of t.expected) (omega arith) (omega arith) in
    let others = undecided_fit (suc number) ts (omega arith) p.1 in
    recursion_from_All PairFits (here ++ undecided_pairs (suc number) ts)
    (All-append PairFits here (undecided_pairs (suc number) ts) (All-from_recursion PairFits here first) (All-from_recursion PairFits (undecided_pairs (suc number) ts) others))

-- what follows the lines begins with no digit
pub no_digit-lines : (ps : List (ℕ × ℕ)) (x : List ℕ) → StartsNoDigit (flat_map line_of ps ++ 115 ∷ x)
no_digit-lines [] x = refl
no_digit-lines (p ∷ ps) x = refl

-- the lines are told apart from the line of counts, whose first letter is another
pub same_nibble_lines : (ps qs : List (ℕ × ℕ)) (x y : List ℕ) → AllByRecursion PairFits ps → AllByRecursion PairFits qs
    → flat_map line_of ps ++ 115 ∷ x ≡ flat_map line_of qs ++ 115 ∷ y → (ps ≡ qs) × (x ≡ y)
same_nibble_lines [] [] x y p q e = (refl, cc)
same_nibble_lines [] (b ∷ qs) x y p q e = absurd (differ_at 0 _ _ e refl)
same_nibble_lines (a ∷ ps) [] x y p q e = absurd (differ_at 0 _ _ e refl)
same_nibble_lines (a ∷ ps) (b ∷ qs) x y p q e =
    let left = flat_map line_of ps in
    let right = flat_map line_of qs in
    let whole = same_pieces (pieces_of a) (pieces_of b) (left ++ 115 ∷ x) (right ++ 115 ∷ y)
    (sym (append_assoc (line_of a) left (115 ∷ x)) ∙ e ∙ append_assoc (line_of b) right (115 ∷ y)) in
    let test = same_decimal_behind (codes "test ") a.0 b.0 _ _ whole p.0.0 q.0.0 refl refl in
    let place = same_decimal_behind (codes " nibble ") a.1 b.1 _ _ test.1 p.0.1 q.0.1 refl refl in
    let others = same_nibble_lines ps qs x y p.1 q.1 (append_left_injective (codes " undecided\n") _ _ place.1) in
    let first : a ≡ b = λ i. (test.0 i, place.0 i) in
    (cc (first, others.0), others.1)

-- places do not begin with one of this test
abbrev BeginsElsewhere : ℕ → List (ℕ × ℕ) → Type 0
BeginsElsewhere test ps = (place : ℕ) (others : List (ℕ × ℕ)) → ps ≡ (test, place) ∷ others → ⊥

-- pairs of two tests are two, and those of one test have one place
first_differs : (a b : ℕ × ℕ) → a ≡ b → b.0 < a.0 → ⊥
first_differs a b e h = omega (arith, ap (λ (p : ℕ × ℕ). p.0) e)

same_second : (a b : ℕ × ℕ) → a ≡ b → a.1 ≡ b.1
same_second a b e = ap (λ (p : ℕ × ℕ). p.1) e

elsewhere-places : (test number : ℕ) (places : List ℕ) (ps : List (ℕ × ℕ)) → test < number → BeginsElsewhere test ps → BeginsElsewhere test (places_in number places ++ ps)
elsewhere-places test number [] ps h k other others e = k other others e
elsewhere-places test number (place ∷ places) ps h k other others e =
    first_differs (number, place) (test, other) (cc) h

elsewhere : (test number : ℕ) (ts : List Test) → test < number → BeginsElsewhere test (undecided_pairs number ts)
elsewhere test number [] h place others e = cc
elsewhere test number (t ∷ ts) h place others e = elsewhere-places test number (undecided_places t) (undecided_pairs (suc number) ts) h (elsewhere test (suc number) ts (omega arith)) place others e

-- the places of one test are told apart from those of later ones
same_places : (test : ℕ) (ps qs : List ℕ) (x y : List (ℕ × ℕ)) → BeginsElsewhere test x → BeginsElsewhere test y → places_in test ps ++ x ≡ places_in test qs ++ y → (ps ≡ qs) × (x ≡ y)
same_places test [] [] x y h k e = (refl, e)
same_places test [] (q ∷ qs) x y h k e = absurd (h q _ e)
same_places test (p ∷ ps) [] x y h k e = absurd (k p _ (sym e))
same_places test (p ∷ ps) (q ∷ qs) x y h k e =
    let others = same_places test ps qs x y h k cc in
    (cc (same_second (test, p) (test, q) cc, others.0), others.1)

-- so as many tests have their undecided nibbles at the same places
pub same_undecided : (number : ℕ) (ts us : List Test) → length ts ≡ length us → undecided_pairs number ts ≡ undecided_pairs number us → map undecided_places ts ≡ map undecided_places us
same_undecided number [] [] l e = refl
same_undecided number [] (u ∷ us) l e = absurd (omega arith)
same_undecided number (t ∷ ts) [] l e = absurd (omega arith)
same_undecided number (t ∷ ts) (u ∷ us) l e =
    let first = same_places number (undecided_places t) (undecided_places u) _ _ (elsewhere number (suc number) ts (omega arith)) (elsewhere number (suc number) us (omega arith)) e in
    cc (first.0, same_undecided (suc number) ts us (omega arith) first.1)
