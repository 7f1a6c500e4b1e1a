-- The characters of a string: the front of a text that they make, and the place where they end.
use Rattle.std.proofs.Common.{◌≡◌, ◌≢◌, ℕ, ◌+◌, ◌≤◌, suc, Bool, true, false, List, [], ◌∷◌, ◌++◌, length, take, sym, refl, arith, subst, ◌==◌, ◌||◌, if◌then◌else◌}
use Rattle.std.proofs.lemmas.Bool.{or_parts, eqb-true, eqb-false, ne_eqb}
use Rattle.p4_lexer.specs.Bytes.{quotation_mark, backslash, line_feed}
use Rattle.p4_lexer.specs.Words.{AreCharacters, none, plain, escaped}
use Rattle.p4_lexer.specs.Lengths.{characters_len}

plain_step : (c : ℕ) (text : List ℕ) → c ≢ quotation_mark → c ≢ backslash → c ≢ line_feed → characters_len (c ∷ text) ≡ 1 + characters_len text
plain_step c [] q b l = rw (ne_eqb c quotation_mark q, ne_eqb c backslash b, ne_eqb c line_feed l) refl
plain_step c (d ∷ text) q b l = rw (ne_eqb c quotation_mark q, ne_eqb c backslash b, ne_eqb c line_feed l) refl

-- a front of characters is no longer
pub characters_longest : (w rest : List ℕ) → AreCharacters w → length w ≤ characters_len (w ++ rest)
characters_longest _ rest none = omega arith
characters_longest _ rest (plain c w q b l more) = omega (arith, plain_step c (w ++ rest) q b l, characters_longest w rest more)
characters_longest _ rest (escaped c w more) = omega (arith, characters_longest w rest more)

quotation_ends : (rest : List ℕ) → characters_len (quotation_mark ∷ rest) ≡ 0
quotation_ends [] = refl
quotation_ends (c ∷ rest) = refl

-- and it is all of them where a quotation mark follows
pub characters_exact : (w rest : List ℕ) → AreCharacters w → characters_len (w ++ quotation_mark ∷ rest) ≡ length w
characters_exact _ rest none = quotation_ends rest
characters_exact _ rest (plain c w q b l more) = omega (arith, plain_step c (w ++ quotation_mark ∷ rest) q b l, characters_exact w rest more)
characters_exact _ rest (escaped c w more) = omega (arith, characters_exact w rest more)

one_spelled : (c : ℕ) (ends : Bool) → ((c == quotation_mark) || ((c == backslash) || (c == line_feed))) ≡ ends → AreCharacters (take (if ends then 0 else 1) (c ∷ []))
one_spelled c true e = none
one_spelled c false e =
    let q = or_parts (c == quotation_mark) ((c == backslash) || (c == line_feed)) e in
    let b = or_parts (c == backslash) (c == line_feed) q.1 in
    plain c [] (eqb-false c quotation_mark q.0) (eqb-false c backslash b.0) (eqb-false c line_feed b.1) none

next_spelled : (c d : ℕ) (text : List ℕ) (ends escapes : Bool) → ((c == quotation_mark) || (c == line_feed)) ≡ ends → (c == backslash) ≡ escapes
    → AreCharacters (take (characters_len text) text) → AreCharacters (take (characters_len (d ∷ text)) (d ∷ text))
    → AreCharacters (take (if ends then 0 else (if escapes then 2 + characters_len text else 1 + characters_len (d ∷ text))) (c ∷ d ∷ text))
next_spelled c d text true escapes e f behind next = none
next_spelled c d text false true e f behind next =
    let n : 2 + characters_len text ≡ suc (suc (characters_len text)) = omega arith in
    rw (n, eqb-true c backslash f) (escaped d (take (characters_len text) text) behind)
next_spelled c d text false false e f behind next =
    let n : 1 + characters_len (d ∷ text) ≡ suc (characters_len (d ∷ text)) = omega arith in
    let q = or_parts (c == quotation_mark) (c == line_feed) e in
    subst (λ k. AreCharacters (take k (c ∷ d ∷ text))) (sym n)
    (plain c (take (characters_len (d ∷ text)) (d ∷ text)) (eqb-false c quotation_mark q.0) (eqb-false c backslash f) (eqb-false c line_feed q.1) next)

pub characters_spelled : (text : List ℕ) → AreCharacters (take (characters_len text) text)
characters_spelled [] = none
characters_spelled (c ∷ []) = one_spelled c ((c == quotation_mark) || ((c == backslash) || (c == line_feed))) refl
characters_spelled (c ∷ d ∷ text) = next_spelled c d text ((c == quotation_mark) || (c == line_feed)) (c == backslash) refl refl (characters_spelled text) (characters_spelled (d ∷ text))
