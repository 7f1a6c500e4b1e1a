-- The piece at the start of a text is spelled as one of its kind.
use Rattle.std.proofs.Common.{◌≡◌, ℕ, ◌+◌, ◌<◌, zero, suc, true, false, List, [], ◌∷◌, ◌++◌, length, take, drop, sym, refl, ap, arith, subst, ◌==◌, if◌then◌else◌, inl, inr, Option, Some, None}
use Rattle.std.specs.List.{prefix_len}
use Rattle.std.proofs.Math.Seq.{take-length}
use Rattle.std.proofs.lemmas.Bool.{eqb-true, cases_Bool, cond_both}
use Rattle.p4_lexer.specs.declared.piece.Kind.{Kind}
use Rattle.p4_lexer.specs.declared.piece.Kind.TheVariants.{Blank, Comment, Name, Number, Text, Sign, Annotation, OpenText, Stray}
use Rattle.p4_lexer.specs.declared.piece.Piece.{Piece}
use Rattle.p4_lexer.specs.declared.classes.Class.TheVariants.{InLine}
use Rattle.p4_lexer.specs.declared.classes.Head.TheVariants.{NameHead, DigitHead, BlankHead, OtherHead}
use Rattle.p4_lexer.specs.declared.token.Sign.TheVariants as s
use Rattle.p4_lexer.specs.Bytes.{quotation_mark, star, slash, at_sign, is_blank, begins_name}
use Rattle.p4_lexer.specs.Digits.{is_digit_of}
use Rattle.p4_lexer.specs.Pieces.{IsPiece}
use Rattle.p4_lexer.specs.Lengths.{has, name_len, number_len, characters_len, begins_with, close_at, sign_len, quoted, closed, slashed, annotated, piece_or, piece_of}
use Rattle.p4_lexer.proofs.RunLemmas.{run_passes}
use Rattle.p4_lexer.proofs.ByteLemmas.{name_head, digit_head, blank_head}
use Rattle.p4_lexer.proofs.NameLemmas.{name_spelled, no_name}
use Rattle.p4_lexer.proofs.NumberLemmas.{number_spelled, digit_begins, plain_in_number}
use Rattle.p4_lexer.proofs.CharacterLemmas.{characters_spelled}
use Rattle.p4_lexer.proofs.CloseLemmas.{close_none, close_spelled}
use Rattle.p4_lexer.proofs.SignLemmas.{sign_spelled}
use Rattle.p4_lexer.proofs.PieceLemmas.{at_head, at_piece_or, at_annotated}

-- the piece has a byte, and its bytes are one of its kind
abbrev pub Spells : List ℕ → Piece → Type 0
Spells text p = (0 < p.len) × IsPiece p.kind (take p.len text)

-- the bytes up to one that stands there, and that one
next_byte : (text : List ℕ) (n b : ℕ) → begins_with b (drop n text) ≡ true → take (suc n) text ≡ take n text ++ b ∷ []
next_byte [] zero b e = absurd cc
next_byte [] (suc n) b e = absurd cc
next_byte (c ∷ text) zero b e = rw (eqb-true c b e) refl
next_byte (c ∷ text) (suc n) b e = ap (λ xs. c ∷ xs) (next_byte text n b e)

one_byte : (c : ℕ) (text : List ℕ) (k : Kind) → IsPiece k (c ∷ []) → Spells (c ∷ text) (record { kind = k; len = 1 })
one_byte c text k p = (omega arith, p)

name_spells : (c : ℕ) (text : List ℕ) → begins_name c ≡ true → Spells (c ∷ text) (piece_or Name (name_len (c ∷ text)) Sign)
name_spells c text begins = at_piece_or (Spells (c ∷ text)) Name (name_len (c ∷ text)) Sign
    (λ some. (some, name_spelled (c ∷ text) some))
    (λ none. one_byte c text Sign (s.Underscore, ap (λ x. x ∷ []) (no_name c text begins none)))

number_spells : (c : ℕ) (text : List ℕ) → is_digit_of 10 c ≡ true → Spells (c ∷ text) (record { kind = Number; len = number_len (c ∷ text) })
number_spells c text digit = (omega (arith, digit_begins c text digit, plain_in_number (c ∷ text)), number_spelled (c ∷ text) (digit_begins c text digit))

quoted_spells : (text : List ℕ) → Spells (quotation_mark ∷ text) (quoted text)
quoted_spells text =
    let n : ℕ = characters_len text in
    let one : n + 1 ≡ suc n = omega arith in
    let two : n + 2 ≡ suc (suc n) = omega arith in
    cond_both (begins_with quotation_mark (drop n text)) (record { kind = Text; len = n + 2 }) (record { kind = OpenText; len = n + 1 }) (Spells (quotation_mark ∷ text))
    (λ ended. (
      omega arith,
      record {
        inside = take n text;
        spelled = rw two (ap (λ xs. quotation_mark ∷ xs) (next_byte text n quotation_mark ended));
        characters = characters_spelled text;
      },
    ))
    (λ _. (omega arith, record { inside = take n text; spelled = rw one refl; characters = characters_spelled text }))

closed_spells : (text : List ℕ) (o : Option ℕ) → close_at text ≡ o → Spells (slash ∷ star ∷ text) (closed (length text) o)
closed_spells text None e =
    let two : length text + 2 ≡ suc (suc (length text)) = omega arith in
    (omega arith, record { inside = text; spelled = rw two (ap (λ xs. slash ∷ star ∷ xs) (take-length text)); open_ = close_none text e })
closed_spells text (Some n) e =
    let at = close_spelled text n e in
    let four : n + 4 ≡ suc (suc (n + 2)) = omega arith in
    (omega arith, inr (record { inside = take n text; spelled = rw four (ap (λ xs. slash ∷ star ∷ xs) at.spelled); next = at.next }))

slashed_spells : (text : List ℕ) → Spells (slash ∷ text) (slashed text)
slashed_spells [] = one_byte slash [] Sign (s.Slash, refl)
slashed_spells (c ∷ text) =
    let n : ℕ = prefix_len (has InLine) text in
    let two : n + 2 ≡ suc (suc n) = omega arith in
    cond_both (c == slash) (record { kind = Comment; len = n + 2 }) (if c == star then closed (length text) (close_at text) else record { kind = Sign; len = 1 }) (Spells (slash ∷ c ∷ text))
    (λ line. (omega arith, inl (record { inside = take n text; spelled = rw (two, eqb-true c slash line) refl; one_line = run_passes (has InLine) text })))
    (λ _. cond_both (c == star) (closed (length text) (close_at text)) (record { kind = Sign; len = 1 }) (Spells (slash ∷ c ∷ text))
    (λ block. subst (λ x. Spells (slash ∷ x ∷ text) (closed (length text) (close_at text))) (sym (eqb-true c star block)) (closed_spells text (close_at text) refl))
    (λ _. one_byte slash (c ∷ text) Sign (s.Slash, refl)))

annotated_spells : (text : List ℕ) → Spells (at_sign ∷ text) (annotated (name_len text))
annotated_spells text = at_annotated (Spells (at_sign ∷ text)) (name_len text)
    (λ some. let one : name_len text + 1 ≡ suc (name_len text) = omega arith in (omega arith, subst (λ k. IsPiece Annotation (take k (at_sign ∷ text))) (sym one) (refl, name_spelled text some)))
    (λ none. one_byte at_sign text Stray refl)

other_spells : (c : ℕ) (text : List ℕ) → Spells (c ∷ text) (piece_or Sign (sign_len (c ∷ text)) Stray)
other_spells c text = at_piece_or (Spells (c ∷ text)) Sign (sign_len (c ∷ text)) Stray (λ some. (some, sign_spelled (c ∷ text) some)) (λ none. one_byte c text Stray refl)

-- the heads that are one byte each
mark_spells : (c : ℕ) (text : List ℕ) → begins_name c ≡ false → is_digit_of 10 c ≡ false → is_blank c ≡ false → Spells (c ∷ text) (piece_of (c ∷ text))
mark_spells c text name digit blank = elim (cases_Bool (c == quotation_mark)) [
  | inl mark ↦ subst (λ x. Spells (x ∷ text) (piece_of (x ∷ text))) (sym (eqb-true c quotation_mark mark)) (quoted_spells text)
  | inr no_mark ↦ elim (cases_Bool (c == slash)) [
    | inl bar ↦ subst (λ x. Spells (x ∷ text) (piece_of (x ∷ text))) (sym (eqb-true c slash bar)) (slashed_spells text)
    | inr no_bar ↦ elim (cases_Bool (c == at_sign)) [
      | inl sign ↦ subst (λ x. Spells (x ∷ text) (piece_of (x ∷ text))) (sym (eqb-true c at_sign sign)) (annotated_spells text)
      | inr no_at ↦ at_head (Spells (c ∷ text)) c text OtherHead (rw (name, digit, blank, no_mark, no_bar, no_at) refl) (other_spells c text)
    ]
  ]
]

pub spells : (c : ℕ) (text : List ℕ) → Spells (c ∷ text) (piece_of (c ∷ text))
spells c text = elim (cases_Bool (begins_name c)) [
  | inl name ↦ at_head (Spells (c ∷ text)) c text NameHead (name_head c name) (name_spells c text name)
  | inr no_name_here ↦ elim (cases_Bool (is_digit_of 10 c)) [
    | inl digit ↦ at_head (Spells (c ∷ text)) c text DigitHead (digit_head c digit) (number_spells c text digit)
    | inr no_digit ↦ elim (cases_Bool (is_blank c)) [
      | inl blank ↦ at_head (Spells (c ∷ text)) c text BlankHead (blank_head c blank) (one_byte c text Blank (blank, refl))
      | inr no_blank ↦ mark_spells c text no_name_here no_digit no_blank
    ]
  ]
]
