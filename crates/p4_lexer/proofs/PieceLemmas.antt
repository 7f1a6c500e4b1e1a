-- The piece at the start of a text: none that begins there is longer.
use Rattle.std.proofs.Common.{◌≡◌, ◌≢◌, ℕ, ◌+◌, ◌<◌, ◌≤◌, suc, true, false, List, [], ◌∷◌, ◌++◌, length, drop, length-append, append_assoc, sym, refl, ap, ◌∙◌, arith, subst, ◌==◌, if◌then◌else◌, ◌⊎◌, inl, inr, Option, Some, None}
use Rattle.std.specs.List.{prefix_len}
use Rattle.std.proofs.Math.Seq.{drop-append_seam}
use Rattle.std.proofs.lemmas.Bool.{eqb-true, cases_lt, cases_eq, cond_both}
use Rattle.p4_lexer.specs.declared.piece.Kind.{Kind}
use Rattle.p4_lexer.specs.declared.piece.Kind.TheVariants.{Blank, Comment, Name, Number, Text, Sign, Annotation, OpenComment, OpenText, Stray}
use Rattle.p4_lexer.specs.declared.piece.Piece.{Piece}
use Rattle.p4_lexer.specs.declared.classes.Class.TheVariants.{InLine}
use Rattle.p4_lexer.specs.declared.classes.Head.{Head}
use Rattle.p4_lexer.specs.declared.classes.Head.TheVariants.{NameHead, DigitHead, BlankHead, AtSign}
use Rattle.p4_lexer.specs.declared.token.Sign.{Sign as SignName}
use Rattle.p4_lexer.specs.declared.token.Sign.TheVariants as s
use Rattle.p4_lexer.specs.Bytes.{quotation_mark, star, slash, underscore}
use Rattle.p4_lexer.specs.Numbers.{IsNumber}
use Rattle.p4_lexer.specs.Words.{IsBlank, IsName, IsAnnotation, AreCharacters, IsText, IsOpenText, HasClose, IsLineComment, IsBlockComment, IsOpenComment}
use Rattle.p4_lexer.specs.Spellings.{sign_spelling}
use Rattle.p4_lexer.specs.Pieces.{IsPiece}
use Rattle.p4_lexer.specs.Lengths.{has, head_of, name_len, number_len, characters_len, begins_with, close_at, sign_len, quoted, closed, slashed, annotated, piece_or, piece_by, piece_of}
use Rattle.p4_lexer.proofs.RunLemmas.{run_longest}
use Rattle.p4_lexer.proofs.ByteLemmas.{name_head, digit_head, blank_head}
use Rattle.p4_lexer.proofs.NameLemmas.{name_longest, longer_name}
use Rattle.p4_lexer.proofs.NumberLemmas.{number_longest, number_digit, no_number}
use Rattle.p4_lexer.proofs.CharacterLemmas.{characters_longest, characters_exact}
use Rattle.p4_lexer.proofs.CloseLemmas.{close_exact, close_longest}
use Rattle.p4_lexer.proofs.SignLemmas.{sign_longest}

-- w is shorter than the piece, or as long and of its kind
abbrev pub Fits : Kind → List ℕ → Piece → Type 0
Fits k w p = (length w < p.len) ⊎ ((length w ≡ p.len) × (k ≡ p.kind))

fits_within : (k : Kind) (w : List ℕ) (p : Piece) → length w ≤ p.len → k ≡ p.kind → Fits k w p
fits_within k w p within e = elim (cases_lt (length w) p.len) [ inl less ↦ inl less | inr past ↦ inr (omega arith, e) ]

pub at_head : (P : Piece → Type 0) (c : ℕ) (text : List ℕ) (h : Head) → head_of c ≡ h → P (piece_by h c text) → P (piece_of (c ∷ text))
at_head P c text h e x = subst (λ z. P (piece_by z c text)) (sym e) x

-- what holds of a piece with bytes, and of the other where it has none
pub at_piece_or : (P : Piece → Type 0) (kind : Kind) (len : ℕ) (other : Kind) → (0 < len → P (record { kind = kind; len = len })) → (len ≡ 0 → P (record { kind = other; len = 1 })) → P (piece_or kind len other)
at_piece_or P kind len other some none = cond_both (len == 0) (record { kind = other; len = 1 }) (record { kind = kind; len = len }) P
    (λ e. none (eqb-true len 0 e))
    (λ e. elim (cases_eq len 0) [ inl is ↦ absurd (let h : true ≡ false = rw is at e in cc) | inr differs ↦ some (omega arith) ])

pub at_annotated : (P : Piece → Type 0) (len : ℕ) → (0 < len → P (record { kind = Annotation; len = len + 1 })) → (len ≡ 0 → P (record { kind = Stray; len = 1 })) → P (annotated len)
at_annotated P len some none = cond_both (len == 0) (record { kind = Stray; len = 1 }) (record { kind = Annotation; len = len + 1 }) P
    (λ e. none (eqb-true len 0 e))
    (λ e. elim (cases_eq len 0) [ inl is ↦ absurd (let h : true ≡ false = rw is at e in cc) | inr differs ↦ some (omega arith) ])

blank_fits : (w rest : List ℕ) → IsBlank w → Fits Blank w (piece_of (w ++ rest))
blank_fits [] rest b = absurd b
blank_fits (c ∷ w) rest b = at_head (Fits Blank (c ∷ w)) c (w ++ rest) BlankHead (blank_head c b.0) (inr (ap (λ xs. length (c ∷ xs)) b.1, refl))

some_name : (w : List ℕ) → IsName w → 0 < length w
some_name [] n = absurd n
some_name (c ∷ w) n = omega arith

name_fits : (w rest : List ℕ) → IsName w → Fits Name w (piece_of (w ++ rest))
name_fits [] rest n = absurd n
name_fits (c ∷ w) rest n = at_head (Fits Name (c ∷ w)) c (w ++ rest) NameHead (name_head c n.0)
    (at_piece_or (Fits Name (c ∷ w)) Name (name_len (c ∷ w ++ rest)) Sign
    (λ some. fits_within Name (c ∷ w) (record { kind = Name; len = name_len (c ∷ w ++ rest) }) (name_longest (c ∷ w) rest n) refl)
    (λ none. absurd (omega (arith, name_longest (c ∷ w) rest n))))

annotation_fits : (w rest : List ℕ) → IsAnnotation w → Fits Annotation w (piece_of (w ++ rest))
annotation_fits [] rest a = absurd a
annotation_fits (c ∷ w) rest a = at_head (Fits Annotation (c ∷ w)) c (w ++ rest) AtSign (ap head_of a.0)
    (at_annotated (Fits Annotation (c ∷ w)) (name_len (w ++ rest))
    (λ some. fits_within Annotation (c ∷ w) (record { kind = Annotation; len = name_len (w ++ rest) + 1 }) (omega (arith, name_longest w rest a.1)) refl)
    (λ none. absurd (omega (arith, name_longest w rest a.1, some_name w a.1))))

number_fits : (w rest : List ℕ) → IsNumber w → Fits Number w (piece_of (w ++ rest))
number_fits [] rest n = absurd (no_number n)
number_fits (c ∷ w) rest n = at_head (Fits Number (c ∷ w)) c (w ++ rest) DigitHead (digit_head c (number_digit c w n))
    (fits_within Number (c ∷ w) (record { kind = Number; len = number_len (c ∷ w ++ rest) }) (number_longest (c ∷ w) rest n) refl)

quoted_exact : (inside rest : List ℕ) → AreCharacters inside → quoted (inside ++ quotation_mark ∷ rest) ≡ record { kind = Text; len = length inside + 2 }
quoted_exact inside rest a = rw (characters_exact inside rest a, drop-append_seam inside (quotation_mark ∷ rest)) refl

text_fits : (w rest : List ℕ) → IsText w → Fits Text w (piece_of (w ++ rest))
text_fits w rest t =
    let whole : w ++ rest ≡ quotation_mark ∷ t.inside ++ quotation_mark ∷ rest = ap (λ xs. xs ++ rest) t.spelled ∙ ap (λ xs. quotation_mark ∷ xs) (append_assoc t.inside (quotation_mark ∷ []) rest) in
    let len : length w ≡ length t.inside + 2 = ap length t.spelled ∙ ap suc (length-append t.inside (quotation_mark ∷ [])) ∙ omega arith in
    subst (λ xs. Fits Text w (piece_of xs)) (sym whole)
    (subst (Fits Text w) (sym (quoted_exact t.inside rest t.characters)) (inr (len, refl)))

open_text_fits : (w rest : List ℕ) → IsOpenText w → Fits OpenText w (piece_of (w ++ rest))
open_text_fits w rest t =
    let whole : w ++ rest ≡ quotation_mark ∷ t.inside ++ rest = ap (λ xs. xs ++ rest) t.spelled in
    let len : length w ≡ suc (length t.inside) = ap length t.spelled in
    let longest : length t.inside ≤ characters_len (t.inside ++ rest) = characters_longest t.inside rest t.characters in
    subst (λ xs. Fits OpenText w (piece_of xs)) (sym whole)
    (cond_both (begins_with quotation_mark (drop (characters_len (t.inside ++ rest)) (t.inside ++ rest))) (record { kind = Text; len = characters_len (t.inside ++ rest) + 2 }) (record { kind = OpenText; len = characters_len (t.inside ++ rest) + 1 }) (Fits OpenText w)
    (λ _. inl (omega (arith, len, longest)))
    (λ _. fits_within OpenText w (record { kind = OpenText; len = characters_len (t.inside ++ rest) + 1 }) (omega (arith, len, longest)) refl))

line_comment_fits : (w rest : List ℕ) → IsLineComment w → Fits Comment w (piece_of (w ++ rest))
line_comment_fits w rest c =
    let whole : w ++ rest ≡ slash ∷ slash ∷ c.inside ++ rest = ap (λ xs. xs ++ rest) c.spelled in
    let len : length w ≡ suc (suc (length c.inside)) = ap length c.spelled in
    subst (λ xs. Fits Comment w (piece_of xs)) (sym whole)
    (fits_within Comment w (record { kind = Comment; len = prefix_len (has InLine) (c.inside ++ rest) + 2 }) (omega (arith, len, run_longest (has InLine) c.inside rest c.one_line)) refl)

closed_exact : (inside rest : List ℕ) (len : ℕ) → (HasClose inside → ⊥) → closed len (close_at (inside ++ star ∷ slash ∷ rest)) ≡ record { kind = Comment; len = length inside + 4 }
closed_exact inside rest len open_ = rw (close_exact inside rest open_) refl

block_comment_fits : (w rest : List ℕ) → IsBlockComment w → Fits Comment w (piece_of (w ++ rest))
block_comment_fits w rest c =
    let text : List ℕ = c.inside ++ star ∷ slash ∷ rest in
    let whole : w ++ rest ≡ slash ∷ star ∷ text = ap (λ xs. xs ++ rest) c.spelled ∙ ap (λ xs. slash ∷ star ∷ xs) (append_assoc c.inside (star ∷ slash ∷ []) rest) in
    let len : length w ≡ length c.inside + 4 = ap length c.spelled ∙ ap (λ n. suc (suc n)) (length-append c.inside (star ∷ slash ∷ [])) ∙ omega arith in
    subst (λ xs. Fits Comment w (piece_of xs)) (sym whole)
    (subst (Fits Comment w) (sym (closed_exact c.inside rest (length text) c.next)) (inr (len, refl)))

open_by : (w inside rest : List ℕ) (o : Option ℕ) → close_at (inside ++ rest) ≡ o → (HasClose inside → ⊥) → length w ≡ suc (suc (length inside)) → Fits OpenComment w (closed (length (inside ++ rest)) o)
open_by w inside rest None e open_ len = fits_within OpenComment w (record { kind = OpenComment; len = length (inside ++ rest) + 2 }) (omega (arith, len, length-append inside rest)) refl
open_by w inside rest (Some n) e open_ len = inl (omega (arith, len, close_longest inside rest n open_ e))

open_comment_fits : (w rest : List ℕ) → IsOpenComment w → Fits OpenComment w (piece_of (w ++ rest))
open_comment_fits w rest c =
    let whole : w ++ rest ≡ slash ∷ star ∷ c.inside ++ rest = ap (λ xs. xs ++ rest) c.spelled in
    subst (λ xs. Fits OpenComment w (piece_of xs)) (sym whole)
    (open_by w c.inside rest (close_at (c.inside ++ rest)) refl c.open_ (ap length c.spelled))

other_sign_fits : (sign : SignName) (rest : List ℕ) → 0 < length (sign_spelling sign) → piece_of (sign_spelling sign ++ rest) ≡ piece_or Sign (sign_len (sign_spelling sign ++ rest)) Stray → Fits Sign (sign_spelling sign) (piece_of (sign_spelling sign ++ rest))
other_sign_fits sign rest some e = subst (Fits Sign (sign_spelling sign)) (sym e)
    (at_piece_or (Fits Sign (sign_spelling sign)) Sign (sign_len (sign_spelling sign ++ rest)) Stray
    (λ _. fits_within Sign (sign_spelling sign) (record { kind = Sign; len = sign_len (sign_spelling sign ++ rest) }) (sign_longest sign rest) refl)
    (λ none. absurd (omega (arith, sign_longest sign rest))))

underscore_fits : (rest : List ℕ) → Fits Sign (underscore ∷ []) (piece_of (underscore ∷ rest))
underscore_fits rest = at_piece_or (Fits Sign (underscore ∷ [])) Name (name_len (underscore ∷ rest)) Sign (λ some. inl (longer_name rest some)) (λ none. inr (refl, refl))

closed_is_long : (len : ℕ) (o : Option ℕ) → 1 < (closed len o).len
closed_is_long len None = omega arith
closed_is_long len (Some n) = omega arith

slash_fits : (rest : List ℕ) → Fits Sign (slash ∷ []) (slashed rest)
slash_fits [] = inr (refl, refl)
slash_fits (c ∷ rest) = cond_both (c == slash) (record { kind = Comment; len = prefix_len (has InLine) rest + 2 }) (if c == star then closed (length rest) (close_at rest) else record { kind = Sign; len = 1 }) (Fits Sign (slash ∷ []))
    (λ _. inl (omega arith))
    (λ _. cond_both (c == star) (closed (length rest) (close_at rest)) (record { kind = Sign; len = 1 }) (Fits Sign (slash ∷ []))
    (λ _. inl (closed_is_long (length rest) (close_at rest)))
    (λ _. inr (refl, refl)))

sign_fits : (sign : SignName) (rest : List ℕ) → Fits Sign (sign_spelling sign) (piece_of (sign_spelling sign ++ rest))
sign_fits s.Mask rest = other_sign_fits s.Mask rest (omega arith) refl
sign_fits s.SaturatingPlus rest = other_sign_fits s.SaturatingPlus rest (omega arith) refl
sign_fits s.SaturatingMinus rest = other_sign_fits s.SaturatingMinus rest (omega arith) refl
sign_fits s.ShiftLeft rest = other_sign_fits s.ShiftLeft rest (omega arith) refl
sign_fits s.ShiftRight rest = other_sign_fits s.ShiftRight rest (omega arith) refl
sign_fits s.AtMost rest = other_sign_fits s.AtMost rest (omega arith) refl
sign_fits s.AtLeast rest = other_sign_fits s.AtLeast rest (omega arith) refl
sign_fits s.Equal rest = other_sign_fits s.Equal rest (omega arith) refl
sign_fits s.NotEqual rest = other_sign_fits s.NotEqual rest (omega arith) refl
sign_fits s.And rest = other_sign_fits s.And rest (omega arith) refl
sign_fits s.Or rest = other_sign_fits s.Or rest (omega arith) refl
sign_fits s.Concat rest = other_sign_fits s.Concat rest (omega arith) refl
sign_fits s.Range rest = other_sign_fits s.Range rest (omega arith) refl
sign_fits s.Plus rest = other_sign_fits s.Plus rest (omega arith) refl
sign_fits s.Minus rest = other_sign_fits s.Minus rest (omega arith) refl
sign_fits s.Star rest = other_sign_fits s.Star rest (omega arith) refl
sign_fits s.Slash rest = slash_fits rest
sign_fits s.Percent rest = other_sign_fits s.Percent rest (omega arith) refl
sign_fits s.Ampersand rest = other_sign_fits s.Ampersand rest (omega arith) refl
sign_fits s.Bar rest = other_sign_fits s.Bar rest (omega arith) refl
sign_fits s.Caret rest = other_sign_fits s.Caret rest (omega arith) refl
sign_fits s.Tilde rest = other_sign_fits s.Tilde rest (omega arith) refl
sign_fits s.Not rest = other_sign_fits s.Not rest (omega arith) refl
sign_fits s.Less rest = other_sign_fits s.Less rest (omega arith) refl
sign_fits s.Greater rest = other_sign_fits s.Greater rest (omega arith) refl
sign_fits s.Assign rest = other_sign_fits s.Assign rest (omega arith) refl
sign_fits s.LeftParen rest = other_sign_fits s.LeftParen rest (omega arith) refl
sign_fits s.RightParen rest = other_sign_fits s.RightParen rest (omega arith) refl
sign_fits s.LeftBrace rest = other_sign_fits s.LeftBrace rest (omega arith) refl
sign_fits s.RightBrace rest = other_sign_fits s.RightBrace rest (omega arith) refl
sign_fits s.LeftBracket rest = other_sign_fits s.LeftBracket rest (omega arith) refl
sign_fits s.RightBracket rest = other_sign_fits s.RightBracket rest (omega arith) refl
sign_fits s.Comma rest = other_sign_fits s.Comma rest (omega arith) refl
sign_fits s.Semicolon rest = other_sign_fits s.Semicolon rest (omega arith) refl
sign_fits s.Colon rest = other_sign_fits s.Colon rest (omega arith) refl
sign_fits s.Dot rest = other_sign_fits s.Dot rest (omega arith) refl
sign_fits s.Question rest = other_sign_fits s.Question rest (omega arith) refl
sign_fits s.Underscore rest = underscore_fits rest

spelled_sign_fits : (w rest : List ℕ) (sign : SignName) → w ≡ sign_spelling sign → Fits Sign w (piece_of (w ++ rest))
spelled_sign_fits w rest sign e = subst (λ xs. Fits Sign xs (piece_of (xs ++ rest))) (sym e) (sign_fits sign rest)

-- whatever begins a text is shorter than its piece, or as long and of the same kind
pub fits : (k : Kind) (w rest : List ℕ) → IsPiece k w → k ≢ Stray → Fits k w (piece_of (w ++ rest))
fits Blank w rest p other = blank_fits w rest p
fits Comment w rest (inl line) other = line_comment_fits w rest line
fits Comment w rest (inr block) other = block_comment_fits w rest block
fits Name w rest p other = name_fits w rest p
fits Number w rest p other = number_fits w rest p
fits Text w rest p other = text_fits w rest p
fits Sign w rest p other = spelled_sign_fits w rest p.0 p.1
fits Annotation w rest p other = annotation_fits w rest p
fits OpenComment w rest p other = open_comment_fits w rest p
fits OpenText w rest p other = open_text_fits w rest p
fits Stray w rest p other = absurd (other refl)
