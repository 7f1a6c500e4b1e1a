-- Words of bits, values and lists are read from their spelling alone.
use Rattle.std.proofs.Common.{◌≡◌, ◌≢◌, ℕ, Bool, true, false, List, [], ◌∷◌, ◌++◌, length, refl, sym, ap, ◌∙◌, subst, append_assoc, arith, inl, inr}
use Rattle.std.specs.Prelude.{None, Some, ◌==◌}
use Rattle.std.specs.List.{find}
use Rattle.std.specs.Str.{bytes_eq}
use Rattle.std.proofs.lemmas.Bool.{cases_Bool, eqb-true}
use Rattle.std.proofs.lemmas.Bool.Decides.{nat_tests}
use Rattle.std.proofs.lemmas.List.{append-nil}
use Rattle.std.proofs.lemmas.Slice.Eq.{bytes_eq-Decides}
use Rattle.proof_stream.specs.declared.keyword.Keyword.{Keyword}
use Rattle.proof_stream.specs.declared.keyword.Keyword.TheVariants as k
use Rattle.proof_stream.specs.declared.keyword.TheConstants.{KEYWORDS}
use Rattle.proof_stream.specs.Keywords.{spelling, keyword_of}
use Rattle.proof_stream.specs.Reading.{bit_of, bits_onto, bits_of}
use Rattle.proof_stream.specs.Words.{Word, bit_glyph, bits_word}
use Rattle.proof_stream.proofs.NumberLemmas.{some_is, bind_some}

find_spelled : (words : List Keyword) (word : Word) (keyword : Keyword) → find (λ v. bytes_eq (spelling v) word) words ≡ Some keyword → word ≡ spelling keyword
find_spelled [] word keyword found = absurd cc
find_spelled (w ∷ words) word keyword found = elim (cases_Bool (bytes_eq (spelling w) word)) [
  | inl here ↦
      let same : Some w ≡ Some keyword = rw here at found in
      sym ((bytes_eq-Decides (spelling w) word).0 here) ∙ ap spelling (some_is w keyword same)
  | inr not_here ↦ find_spelled words word keyword (rw not_here at found)
]

pub keyword_is : (word : Word) (keyword : Keyword) → keyword_of word ≡ Some keyword → word ≡ spelling keyword
unfolding keyword_of
keyword_is word keyword found = find_spelled KEYWORDS word keyword found

pub keyword_again : (keyword : Keyword) → keyword_of (spelling keyword) ≡ Some keyword
unfolding keyword_of
keyword_again k.Record = refl
keyword_again k.Reach = refl
keyword_again k.Steady = refl
keyword_again k.Break = refl
keyword_again k.Nibble = refl
keyword_again k.At = refl
keyword_again k.Var = refl
keyword_again k.Input = refl
keyword_again k.Read = refl
keyword_again k.Clause = refl
keyword_again k.Cube = refl
keyword_again k.Step = refl
keyword_again k.Sat = refl
keyword_again k.Unsat = refl
keyword_again k.Spent = refl
keyword_again k.Broken = refl
keyword_again k.Runs = refl
keyword_again k.Breaks = refl

bit_is : (c : ℕ) (b : Bool) → bit_of c ≡ Some b → c ≡ bit_glyph b
bit_is c b e =
    elim (cases_Bool (c == 49)) [
      | inl one ↦ let same : true ≡ b = some_is true b (rw one at e) in subst (λ x. c ≡ bit_glyph x) same (eqb-true c 49 one)
      | inr not_one ↦
          let rest : (c == 49) ≡ false = not_one in
          elim (cases_Bool (c == 48)) [
            | inl none ↦ let same : false ≡ b = some_is false b (rw (rest, none) at e) in subst (λ x. c ≡ bit_glyph x) same (eqb-true c 48 none)
            | inr neither ↦ let bad : None ≡ Some b = rw (rest, neither) at e in absurd cc
          ]
    ]

bit_again : (b : Bool) → bit_of (bit_glyph b) ≡ Some b
bit_again true = refl
bit_again false = refl

bits_in : (front : List Bool) (word : Word) (bits : List Bool) → bits_onto front word ≡ Some bits → (more : List Bool) × (bits ≡ front ++ more) × (word ≡ bits_word more)
bits_in front [] bits e = ([], sym (append-nil front ∙ some_is front bits e), refl)
bits_in front (c ∷ word) bits e =
    let first = bind_some (bit_of c) (λ bit. bits_onto (front ++ bit ∷ []) word) bits e in
    let rest = bits_in (front ++ first.0 ∷ []) word bits first.2 in
    (first.0 ∷ rest.0, rest.1 ∙ append_assoc front (first.0 ∷ []) rest.0, ap (λ x. x ∷ word) (bit_is c first.0 first.1) ∙ ap (λ ws. bit_glyph first.0 ∷ ws) rest.2)

bits_again : (front bits : List Bool) → bits_onto front (bits_word bits) ≡ Some (front ++ bits)
bits_again front [] = ap (λ bs. Some bs) (sym (append-nil front))
bits_again front (b ∷ bits) = rw (bit_again b) (bits_again (front ++ b ∷ []) bits ∙ ap (λ bs. Some bs) (append_assoc front (b ∷ []) bits))

-- bits are read from the one word that spells them
pub bits_are : (words : List Word) (bits : List Bool) → bits_of words ≡ Some bits → (bits_word bits ∷ [] ≡ words) × (bits ≢ [])
unfolding bits_of
bits_are [] bits e = absurd cc
bits_are ([] ∷ []) bits e = absurd cc
bits_are ((c ∷ word) ∷ []) bits e =
    let some : (length (c ∷ word) == 0) ≡ false = grind (arith, nat_tests) in
    let found = bits_in [] (c ∷ word) bits (rw some at e) in
    (rw (found.1, ← found.2) refl, λ none. let bad : c ∷ word ≡ [] = found.2 ∙ ap bits_word (sym found.1 ∙ none) in cc)
bits_are (word ∷ more ∷ words) bits e = absurd cc

pub bits_of_again : (bits : List Bool) → bits ≢ [] → bits_of (bits_word bits ∷ []) ≡ Some bits
unfolding bits_of
bits_of_again [] some = absurd (some refl)
bits_of_again (b ∷ bits) some =
    let full : (length (bits_word (b ∷ bits)) == 0) ≡ false = grind (arith, nat_tests) in
    rw full (bits_again [] (b ∷ bits))
