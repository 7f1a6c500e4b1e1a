-- The characters of a string, and where a comment closes.
use Rattle.std.proofs.Common.{◌≡◌, ℕ, ◌+◌, ◌<◌, zero, suc, Bool, true, false, List, [], ◌∷◌, None, Some, length, take, drop, refl, ap, arith, drop-drop, ◌-◌, length-drop, ◌==◌, ◌&&◌, ◌||◌, if◌then◌else◌}
use Rattle.std.proofs.Math.Seq.{take-length}
use Rattle.p4_lexer.specs.Bytes.{quotation_mark, backslash, line_feed, star}
use Rattle.p4_lexer.specs.Lengths.{character_len, characters_len, begins_close, close_at}

-- the slice from a place on
pub rest_from : (xs : List ℕ) (i : ℕ) → take (length xs - i) (drop i xs) ≡ drop i xs
rest_from xs i = rw (← length-drop i xs) (take-length (drop i xs))

abbrev one_by : Bool → ℕ
one_by ends = if ends then 0 else 1

abbrev len_by : Bool → Bool → ℕ
len_by ends escapes = if ends then 0 else (if escapes then 2 else 1)

abbrev all_by : Bool → Bool → ℕ → ℕ → ℕ
all_by ends escapes behind next = if ends then 0 else (if escapes then 2 + behind else 1 + next)

none_by : (ends escapes : Bool) (behind next : ℕ) → len_by ends escapes ≡ 0 → all_by ends escapes behind next ≡ 0
none_by true escapes behind next e = refl
none_by false true behind next e = absurd (omega arith)
none_by false false behind next e = absurd (omega arith)

-- no character, no characters
pub no_character : (text : List ℕ) → character_len text ≡ 0 → characters_len text ≡ 0
no_character [] e = refl
no_character (c ∷ []) e = e
no_character (c ∷ d ∷ text) e = none_by ((c == quotation_mark) || (c == line_feed)) (c == backslash) (characters_len text) (characters_len (d ∷ text)) e

next_alone : (ends : Bool) (c : ℕ) → 0 < one_by ends → one_by ends ≡ one_by ends + characters_len (drop (one_by ends) (c ∷ []))
next_alone true c some = absurd (omega arith)
next_alone false c some = refl

next_by : (ends escapes : Bool) (c d : ℕ) (text : List ℕ) → 0 < len_by ends escapes → all_by ends escapes (characters_len text) (characters_len (d ∷ text)) ≡ len_by ends escapes + characters_len (drop (len_by ends escapes) (c ∷ d ∷ text))
next_by true escapes c d text some = absurd (omega arith)
next_by false true c d text some = refl
next_by false false c d text some = refl

-- the first character, and those behind it
pub next_character : (text : List ℕ) → 0 < character_len text → characters_len text ≡ character_len text + characters_len (drop (character_len text) text)
next_character [] some = absurd (omega arith)
next_character (c ∷ []) some = next_alone ((c == quotation_mark) || ((c == backslash) || (c == line_feed))) c some
next_character (c ∷ d ∷ text) some = next_by ((c == quotation_mark) || (c == line_feed)) (c == backslash) c d text some

-- the characters from the start, when those up to a place are known
pub characters_behind : (text : List ℕ) (at len : ℕ) → characters_len text ≡ at + characters_len (drop at text) → len ≡ character_len (drop at text) → 0 < len → characters_len text ≡ at + len + characters_len (drop (at + len) text)
characters_behind text at len e f some =
    let d : drop len (drop at text) ≡ drop (at + len) text = drop-drop len at text in
    let g : characters_len (drop at text) ≡ len + characters_len (drop len (drop at text)) = rw f (next_character (drop at text) (rw (← f) some)) in
    let h : characters_len (drop len (drop at text)) ≡ characters_len (drop (at + len) text) = ap characters_len d in
    omega (arith, e, g, h)

-- a `*/` stands there, and none before it
pub close_found : (text : List ℕ) (n : ℕ) → begins_close (drop n text) ≡ true → ((k : ℕ) → k < n → begins_close (drop k text) ≡ false) → close_at text ≡ Some n
close_found [] zero here before = absurd cc
close_found [] (suc n) here before = absurd cc
close_found (c ∷ text) zero here before = rw here refl
close_found (c ∷ text) (suc n) here before =
    let first : begins_close (c ∷ text) ≡ false = before 0 (omega arith) in
    let rest : close_at text ≡ Some n = close_found text n here (λ k below. before (suc k) (omega arith)) in
    rw (first, rest) (ap Some (omega arith))

-- a `*/` stands nowhere
pub close_missing : (text : List ℕ) → ((k : ℕ) → k < length text → begins_close (drop k text) ≡ false) → close_at text ≡ None
close_missing [] before = refl
close_missing (c ∷ text) before =
    let first : begins_close (c ∷ text) ≡ false = before 0 (omega arith) in
    let rest : close_at text ≡ None = close_missing text (λ k below. before (suc k) (omega arith)) in
    rw (first, rest) refl

-- it has two bytes
pub close_has_two : (text : List ℕ) → begins_close text ≡ true → 1 < length text
close_has_two [] here = absurd cc
close_has_two (c ∷ []) here = absurd (closed_alone (c == star) here) where
  closed_alone : (b : Bool) → b && false ≡ true → ⊥
  closed_alone true here = cc
  closed_alone false here = cc
close_has_two (c ∷ d ∷ text) here = omega arith
