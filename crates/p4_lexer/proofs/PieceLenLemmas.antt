-- The piece at the start of a text is no longer than the text.
use Rattle.std.proofs.Common.{◌≡◌, ℕ, ◌+◌, ◌<◌, ◌≤◌, Bool, true, false, List, [], ◌∷◌, Option, Some, None, length, take, drop, length-drop, refl, arith, ◌==◌, ◌&&◌, ◌||◌, if◌then◌else◌, nat_lt}
use Rattle.std.specs.List.{prefix_len, list_any}
use Rattle.std.proofs.lemmas.List.Sums.{prefix_len-le-length}
use Rattle.std.proofs.lemmas.Bool.{and_parts, ltb-true, cond_both}
use Rattle.p4_lexer.specs.declared.piece.Kind.TheVariants.{Comment, Name, Text, Sign, OpenText, Stray}
use Rattle.p4_lexer.specs.declared.piece.Piece.{Piece}
use Rattle.p4_lexer.specs.declared.classes.Class.TheVariants.{InName, InDigits, InLine}
use Rattle.p4_lexer.specs.declared.classes.Head.{Head}
use Rattle.p4_lexer.specs.declared.classes.Head.TheVariants.{NameHead, DigitHead, BlankHead, QuotationMark, Slash, AtSign, OtherHead}
use Rattle.p4_lexer.specs.Bytes.{line_feed, quotation_mark, star, slash, backslash, underscore, begins_name}
use Rattle.p4_lexer.specs.Digits.{is_digit_of, base_of}
use Rattle.p4_lexer.specs.Lengths.{has, head_of, name_len, digits_len, decimal_len, based_by, based_len, plain_len, width_len, number_len, characters_len, begins_with, close_at, is_sign_of_three, is_sign_of_two, is_sign_of_one, sign_len, quoted, closed, slashed, piece_by, piece_of}
use Rattle.p4_lexer.proofs.CloseLemmas.{close_spelled}
use Rattle.p4_lexer.proofs.PieceLemmas.{at_piece_or, at_annotated}

-- both choices are within a bound
either_within : (b : Bool) (x y n : ℕ) → x ≤ n → y ≤ n → (if b then x else y) ≤ n
either_within true x y n left right = left
either_within false x y n left right = right

name_within : (text : List ℕ) → name_len text ≤ length text
name_within [] = omega arith
name_within (c ∷ text) =
    let more : ℕ = prefix_len (has InName) text in
    let below : more ≤ length text = prefix_len-le-length (has InName) text in
    either_within (begins_name c) (if (more == 0) && (c == underscore) then 0 else more + 1) 0 (length (c ∷ text))
    (either_within ((more == 0) && (c == underscore)) 0 (more + 1) (length (c ∷ text)) (omega arith) (omega (arith, below)))
    (omega arith)

digits_within : (base : ℕ) (text : List ℕ) → digits_len base text ≤ length text
digits_within base text =
    let run : ℕ = prefix_len (has (InDigits base)) text in
    either_within (list_any (is_digit_of base) (take run text)) run 0 (length text) (prefix_len-le-length (has (InDigits base)) text) (omega arith)

decimal_within : (text : List ℕ) → decimal_len text ≤ length text
decimal_within [] = omega arith
decimal_within (c ∷ text) = either_within (is_digit_of 10 c) (prefix_len (has (InDigits 10)) text + 1) 0 (length (c ∷ text))
    (omega (arith, prefix_len-le-length (has (InDigits 10)) text)) (omega arith)

based_by_within : (c : ℕ) (o : Option ℕ) (text : List ℕ) → based_by c o text ≤ length text + 2
based_by_within c None text = omega arith
based_by_within c (Some base) text = either_within ((c == 48) && nat_lt 0 (digits_len base text)) (digits_len base text + 2) 0 (length text + 2)
    (omega (arith, digits_within base text)) (omega arith)

based_within : (text : List ℕ) → based_len text ≤ length text
based_within [] = omega arith
based_within (c ∷ []) = omega arith
based_within (c ∷ letter ∷ text) = omega (arith, based_by_within c (base_of letter) text)

plain_within : (text : List ℕ) → plain_len text ≤ length text
plain_within text = either_within (nat_lt 0 (based_len text)) (based_len text) (decimal_len text) (length text) (based_within text) (decimal_within text)

number_within : (text : List ℕ) → number_len text ≤ length text
number_within text =
    let width : ℕ = width_len text in
    let plain : ℕ = plain_len (drop width text) in
    cond_both (nat_lt 0 width && nat_lt 0 plain) (width + plain) (plain_len text) (λ n. n ≤ length text)
    (λ e. omega (arith, ltb-true 0 plain (and_parts (nat_lt 0 width) (nat_lt 0 plain) e).1, plain_within (drop width text), length-drop width text))
    (λ e. plain_within text)

characters_within : (text : List ℕ) → characters_len text ≤ length text
characters_within [] = omega arith
characters_within (c ∷ []) = either_within ((c == quotation_mark) || ((c == backslash) || (c == line_feed))) 0 1 1 (omega arith) (omega arith)
characters_within (c ∷ d ∷ text) =
    either_within ((c == quotation_mark) || (c == line_feed)) 0 (if c == backslash then 2 + characters_len text else 1 + characters_len (d ∷ text)) (length (c ∷ d ∷ text))
    (omega arith)
    (either_within (c == backslash) (2 + characters_len text) (1 + characters_len (d ∷ text)) (length (c ∷ d ∷ text))
    (omega (arith, characters_within text)) (omega (arith, characters_within (d ∷ text))))

sign_within : (text : List ℕ) → sign_len text ≤ length text
sign_within [] = omega arith
sign_within (a ∷ []) = either_within (is_sign_of_one a) 1 0 1 (omega arith) (omega arith)
sign_within (a ∷ b ∷ []) = either_within (is_sign_of_two a b) 2 (if is_sign_of_one a then 1 else 0) 2 (omega arith) (either_within (is_sign_of_one a) 1 0 2 (omega arith) (omega arith))
sign_within (a ∷ b ∷ c ∷ text) =
    either_within (is_sign_of_three a b c) 3 (if is_sign_of_two a b then 2 else (if is_sign_of_one a then 1 else 0)) (length (a ∷ b ∷ c ∷ text)) (omega arith)
    (either_within (is_sign_of_two a b) 2 (if is_sign_of_one a then 1 else 0) (length (a ∷ b ∷ c ∷ text)) (omega arith)
    (either_within (is_sign_of_one a) 1 0 (length (a ∷ b ∷ c ∷ text)) (omega arith) (omega arith)))

-- a piece of at most so many bytes
abbrev Within : ℕ → Piece → Type 0
Within n p = p.len ≤ n

begins_some : (b : ℕ) (text : List ℕ) → begins_with b text ≡ true → 0 < length text
begins_some b [] e = absurd cc
begins_some b (c ∷ text) e = omega arith

quoted_within : (text : List ℕ) → (quoted text).len ≤ length text + 1
quoted_within text =
    let n : ℕ = characters_len text in
    cond_both (begins_with quotation_mark (drop n text)) (record { kind = Text; len = n + 2 }) (record { kind = OpenText; len = n + 1 }) (Within (length text + 1))
    (λ e. omega (arith, begins_some quotation_mark (drop n text) e, length-drop n text))
    (λ e. omega (arith, characters_within text))

closed_within : (text : List ℕ) (o : Option ℕ) → close_at text ≡ o → (closed (length text) o).len ≤ length text + 2
closed_within text None e = omega arith
closed_within text (Some n) e = omega (arith, (close_spelled text n e).within)

slashed_within : (text : List ℕ) → (slashed text).len ≤ length text + 1
slashed_within [] = omega arith
slashed_within (c ∷ text) =
    cond_both (c == slash) (record { kind = Comment; len = prefix_len (has InLine) text + 2 }) (if c == star then closed (length text) (close_at text) else record { kind = Sign; len = 1 }) (Within (length (c ∷ text) + 1))
    (λ _. omega (arith, prefix_len-le-length (has InLine) text))
    (λ _. cond_both (c == star) (closed (length text) (close_at text)) (record { kind = Sign; len = 1 }) (Within (length (c ∷ text) + 1))
    (λ _. omega (arith, closed_within text (close_at text) refl))
    (λ _. omega arith))

by_head_within : (h : Head) (c : ℕ) (text : List ℕ) → (piece_by h c text).len ≤ length (c ∷ text)
by_head_within NameHead c text = at_piece_or (Within (length (c ∷ text))) Name (name_len (c ∷ text)) Sign (λ _. name_within (c ∷ text)) (λ _. omega arith)
by_head_within DigitHead c text = number_within (c ∷ text)
by_head_within BlankHead c text = omega arith
by_head_within QuotationMark c text = omega (arith, quoted_within text)
by_head_within Slash c text = omega (arith, slashed_within text)
by_head_within AtSign c text = at_annotated (Within (length (c ∷ text))) (name_len text) (λ _. omega (arith, name_within text)) (λ _. omega arith)
by_head_within OtherHead c text = at_piece_or (Within (length (c ∷ text))) Sign (sign_len (c ∷ text)) Stray (λ _. sign_within (c ∷ text)) (λ _. omega arith)

pub piece_within : (c : ℕ) (text : List ℕ) → (piece_of (c ∷ text)).len ≤ length (c ∷ text)
piece_within c text = by_head_within (head_of c) c text
