-- The name at the start of a text is the longest that begins there.
use Rattle.std.proofs.Common.{◌≡◌, ◌≢◌, ℕ, ◌+◌, ◌<◌, ◌≤◌, suc, Bool, true, false, List, [], ◌∷◌, ◌++◌, length, take, sym, refl, ap, ◌∙◌, arith, ◌==◌, ◌&&◌, inl, inr}
use Rattle.std.specs.List.{prefix_len}
use Rattle.std.proofs.lemmas.List.{length-take-le}
use Rattle.std.proofs.lemmas.List.Sums.{prefix_len-le-length}
use Rattle.std.proofs.lemmas.Bool.{and_parts, and_from, and_cases, eqb-true, eq-eqb, eqb-false, cases_Bool, both_ways}
use Rattle.p4_lexer.specs.declared.classes.Class.TheVariants.{InName}
use Rattle.p4_lexer.specs.Bytes.{underscore, begins_name}
use Rattle.p4_lexer.specs.Words.{IsName}
use Rattle.p4_lexer.specs.Lengths.{has, name_len}
use Rattle.p4_lexer.proofs.RunLemmas.{run_longest, run_passes}

abbrev run : List ℕ → ℕ
run text = prefix_len (has InName) text

abbrev is_sign : ℕ → List ℕ → Bool
is_sign c text = (run text == 0) && (c == underscore)

name_len_is : (c : ℕ) (text : List ℕ) → begins_name c ≡ true → is_sign c text ≡ false → name_len (c ∷ text) ≡ run text + 1
name_len_is c text begins other = rw (begins, other) refl

pub name_longest : (w rest : List ℕ) → IsName w → length w ≤ name_len (w ++ rest)
name_longest [] rest n = absurd n
name_longest (c ∷ w) rest n = elim (cases_Bool (is_sign c (w ++ rest))) [
  | inl sign ↦
      let both = and_parts (run (w ++ rest) == 0) (c == underscore) sign in
      absurd (alone w (omega (arith, eqb-true (run (w ++ rest)) 0 both.0, run_longest (has InName) w rest n.1)) (eqb-true c underscore both.1) n.2)
  | inr other ↦ omega (arith, name_len_is c (w ++ rest) n.0 other, run_longest (has InName) w rest n.1)
] where
  alone : (xs : List ℕ) → length xs ≤ 0 → c ≡ underscore → c ∷ xs ≢ underscore ∷ [] → ⊥
  alone [] none is differs = differs (ap (λ x. x ∷ []) is)
  alone (x ∷ xs) none is differs = omega arith

-- the parts of a name that begins a text
record NameParts (c : ℕ) (text : List ℕ) : Type 0 where
  begins : begins_name c ≡ true
  other : is_sign c text ≡ false
  len : name_len (c ∷ text) ≡ suc (run text)

name_parts : (c : ℕ) (text : List ℕ) → 0 < name_len (c ∷ text) → NameParts c text
name_parts c text some = elim (cases_Bool (begins_name c)) [
  | inl begins ↦ elim (cases_Bool (is_sign c text)) [
    | inl sign ↦ absurd (let h : 0 < 0 = rw sign at (rw begins at some) in omega arith)
    | inr other ↦ record { begins = begins; other = other; len = omega (arith, name_len_is c text begins other) }
  ]
  | inr fails ↦ absurd (let h : 0 < 0 = rw fails at some in omega arith)
]

no_sign : (c : ℕ) (text : List ℕ) → is_sign c text ≡ false → c ∷ take (run text) text ≢ underscore ∷ []
no_sign c text other e =
    let is : c ≡ underscore = cc in
    let empty : take (run text) text ≡ [] = cc in
    let n : run text ≡ 0 = sym (length-take-le (run text) text (prefix_len-le-length (has InName) text)) ∙ ap length empty in
    both_ways (is_sign c text) other (and_from (run text == 0) (c == underscore) (eq-eqb (run text) 0 n) (eq-eqb c underscore is))

pub name_spelled : (text : List ℕ) → 0 < name_len text → IsName (take (name_len text) text)
name_spelled [] some = absurd (omega arith)
name_spelled (c ∷ text) some =
    let p = name_parts c text some in
    rw p.len (p.begins, run_passes (has InName) text, no_sign c text p.other)

-- no name begins with a letter or `_` only where that is a `_` alone
pub no_name : (c : ℕ) (text : List ℕ) → begins_name c ≡ true → name_len (c ∷ text) ≡ 0 → c ≡ underscore
no_name c text begins none = elim (cases_Bool (is_sign c text)) [
  | inl sign ↦ eqb-true c underscore (and_parts (run text == 0) (c == underscore) sign).1
  | inr other ↦ absurd (omega (arith, name_len_is c text begins other))
]

-- a `_` alone is no name
pub longer_name : (text : List ℕ) → 0 < name_len (underscore ∷ text) → 1 < name_len (underscore ∷ text)
longer_name text some =
    let p = name_parts underscore text some in
    elim (and_cases (run text == 0) true p.other) [
      | inl longer ↦ let n : run text ≢ 0 = eqb-false (run text) 0 longer in omega (arith, p.len)
      | inr never ↦ absurd cc
    ]
