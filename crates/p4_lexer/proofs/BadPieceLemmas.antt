-- Pieces of a line looked at one by one for the bad one that decides.
use Rattle.std.proofs.Common.{◌≡◌, ℕ, ◌+◌, ◌<◌, ◌≤◌, List, [], ◌∷◌, Option, None, Some, ◌++◌, ◌⊎◌, inl, inr, true, false, length, take, drop, get_or, drop-cons, add-one, suc, refl, sym, ap, ◌∙◌, subst, arith}
use Rattle.std.specs.Char.{is_ascii_alphabetic}
use Rattle.std.specs.Option.{IfSome}
use Rattle.std.proofs.Math.Seq.{take-add, take-suc}
use Rattle.std.proofs.lemmas.Bool.{cases_Bool}
use Rattle.std.proofs.lemmas.List.{take_all}
use Rattle.std.proofs.lemmas.List.Elements.{Contains-append_left, Contains-push, Contains-push_cases}
use Rattle.tg_base.specs.declared.place.Code.TheVariants.{Lex}
use Rattle.tg_base.specs.declared.place.Span.{Span}
use Rattle.tg_base.specs.declared.place.Refusal.{Refusal}
use Rattle.tg_base.specs.Deciding.{DecidesOver}
use Rattle.p4_lexer.specs.declared.extents.PieceAt.{PieceAt}
use Rattle.p4_lexer.specs.Places.{place_after}
use Rattle.p4_lexer.specs.declared.piece.Kind.{Kind}
use Rattle.p4_lexer.specs.declared.piece.Kind.TheVariants.{Blank, Comment, Name, Number, Text, Sign, Annotation, OpenComment, OpenText, Stray}
use Rattle.p4_lexer.specs.Extents.{cut_at, bytes_at}
use Rattle.p4_lexer.specs.DirectiveExtents.{IsPieceAt}
use Rattle.p4_lexer.specs.Tokens.{BeginsWithLetter, IsBadPiece, refusal_at}
use Rattle.p4_lexer.specs.BadPieces.{AreInRow, piece_refusal, HasBadAt}
use Rattle.p4_lexer.proofs.DecidingLemmas.{Decides, and_one, kept_none, kept}

-- the first pieces were looked at: the bad one of these that decides, and the place of the next
pub record Looked (text : List ℕ) (pieces : List PieceAt) (i : ℕ) (here : Span) (best : Option Refusal) : Type 0 where
  pub at : ℕ
  pub row : AreInRow at (drop i pieces)
  pub within : at ≤ length text
  pub placed : here ≡ place_after (take at text)
  pub decides : Decides (HasBadAt text (take i pieces)) best

letter_or_not : (left : List ℕ) → BeginsWithLetter left ⊎ ¬ BeginsWithLetter left
letter_or_not [] = inr (λ h. h)
letter_or_not (c ∷ left) = elim (cases_Bool (is_ascii_alphabetic c)) [ inl letter ↦ inl letter | inr other ↦ inr (λ letter. let h : true ≡ false = sym letter ∙ other in cc) ]

abbrev BadKind : Kind → List ℕ → Type 0
BadKind k left = (k ≡ Stray) ⊎ ((k ≡ OpenText) ⊎ ((k ≡ OpenComment) ⊎ ((k ≡ Number) × BeginsWithLetter left)))

not_bad : (k : Kind) (left : List ℕ) → ¬ (k ≡ Stray) → ¬ (k ≡ OpenText) → ¬ (k ≡ OpenComment) → ¬ ((k ≡ Number) × BeginsWithLetter left) → ¬ BadKind k left
not_bad k left a b c d (inl e) = a e
not_bad k left a b c d (inr (inl e)) = b e
not_bad k left a b c d (inr (inr (inl e))) = c e
not_bad k left a b c d (inr (inr (inr e))) = d e

pub kind_bad_or_not : (k : Kind) (left : List ℕ) → BadKind k left ⊎ ¬ BadKind k left
kind_bad_or_not Blank left = inr (not_bad Blank left (λ e. cc) (λ e. cc) (λ e. cc) (λ e. let h = e.0 in cc))
kind_bad_or_not Comment left = inr (not_bad Comment left (λ e. cc) (λ e. cc) (λ e. cc) (λ e. let h = e.0 in cc))
kind_bad_or_not Name left = inr (not_bad Name left (λ e. cc) (λ e. cc) (λ e. cc) (λ e. let h = e.0 in cc))
kind_bad_or_not Number left = elim (letter_or_not left) [ inl letter ↦ inl (inr (inr (inr (refl, letter)))) | inr other ↦ inr (not_bad Number left (λ e. cc) (λ e. cc) (λ e. cc) (λ e. other e.1)) ]
kind_bad_or_not Text left = inr (not_bad Text left (λ e. cc) (λ e. cc) (λ e. cc) (λ e. let h = e.0 in cc))
kind_bad_or_not Sign left = inr (not_bad Sign left (λ e. cc) (λ e. cc) (λ e. cc) (λ e. let h = e.0 in cc))
kind_bad_or_not Annotation left = inr (not_bad Annotation left (λ e. cc) (λ e. cc) (λ e. cc) (λ e. let h = e.0 in cc))
kind_bad_or_not OpenComment left = inl (inr (inr (inl refl)))
kind_bad_or_not OpenText left = inl (inr (inl refl))
kind_bad_or_not Stray left = inl (inl refl)

abbrev IsBadAt : List ℕ → PieceAt → Type 0
IsBadAt text p = IsBadPiece (cut_at text p) (drop (p.extent.at + p.extent.len) text)

-- faults that are the same have the same one that decides
decides_same : (F G : Refusal → Type 0) (best : Option Refusal) → ((f : Refusal) → F f → G f) → ((f : Refusal) → G f → F f) → Decides F best → Decides G best
decides_same F G None into back d = λ f g. d f (back f g)
decides_same F G (Some r) into back d = record { found = into r d.found; first = λ s g. d.first s (back s g) }

abbrev pushed : List PieceAt → PieceAt → List PieceAt
pushed xs p = xs ++ p ∷ []

has_before : (text : List ℕ) (xs : List PieceAt) (p : PieceAt) (f : Refusal) → HasBadAt text xs f → HasBadAt text (pushed xs p) f
has_before text xs p f h = record { piece = h.piece; there = Contains-append_left xs (p ∷ []) h.piece h.there; bad = h.bad; refusal = h.refusal }

has_last : (text : List ℕ) (xs : List PieceAt) (p : PieceAt) (f : Refusal) → IsBadAt text p → f ≡ piece_refusal text p → HasBadAt text (pushed xs p) f
has_last text xs p f bad e = record { piece = p; there = Contains-push xs p; bad = bad; refusal = e }

has_cases : (text : List ℕ) (xs : List PieceAt) (p : PieceAt) (f : Refusal) → HasBadAt text (pushed xs p) f → HasBadAt text xs f ⊎ (IsBadAt text p × (f ≡ piece_refusal text p))
has_cases text xs p f h = elim (Contains-push_cases xs p h.piece h.there) [
  | inl earlier ↦ inl (record { piece = h.piece; there = earlier; bad = h.bad; refusal = h.refusal })
  | inr last ↦ inr (subst (IsBadAt text) (sym last) h.bad, h.refusal ∙ ap (piece_refusal text) (sym last))
]

-- a piece that is not bad changes nothing
decides_good : (text : List ℕ) (xs : List PieceAt) (p : PieceAt) (best : Option Refusal) → ¬ IsBadAt text p → Decides (HasBadAt text xs) best → Decides (HasBadAt text (pushed xs p)) best
decides_good text xs p best good d = decides_same (HasBadAt text xs) (HasBadAt text (pushed xs p)) best (λ f h. has_before text xs p f h)
    (λ f h. elim (has_cases text xs p f h) [ inl earlier ↦ earlier | inr last ↦ absurd (good last.0) ]) d

one_more : (F : Refusal → Type 0) (best : Option Refusal) (r fault : Refusal) → (r ≡ fault) ⊎ (best ≡ Some r) → DecidesOver r fault → IfSome best (DecidesOver r) → Decides F best → Decides (and_one F fault) (Some r)
one_more F None r fault either over first d = kept_none F r fault d either over
one_more F (Some b) r fault either over first d = kept F b r fault d either over first

-- one that is bad is one fault more
decides_bad : (text : List ℕ) (xs : List PieceAt) (p : PieceAt) (best : Option Refusal) (r : Refusal) → IsBadAt text p → (r ≡ piece_refusal text p) ⊎ (best ≡ Some r) → DecidesOver r (piece_refusal text p) → IfSome best (DecidesOver r)
    → Decides (HasBadAt text xs) best → Decides (HasBadAt text (pushed xs p)) (Some r)
decides_bad text xs p best r bad either over first d =
    decides_same (and_one (HasBadAt text xs) (piece_refusal text p)) (HasBadAt text (pushed xs p)) (Some r)
    (λ f h. elim h [ inl earlier ↦ has_before text xs p f earlier | inr last ↦ has_last text xs p f bad last ])
    (λ f h. elim (has_cases text xs p f h) [ inl earlier ↦ inl earlier | inr last ↦ inr last.1 ])
    (one_more (HasBadAt text xs) best r (piece_refusal text p) either over first d)

abbrev Keeps : List ℕ → PieceAt → Span → Option Refusal → Option Refusal → Type 0
Keeps text p here best result =
    IsBadAt text p → (r : Refusal) × (result ≡ Some r) × ((r ≡ refusal_at Lex here) ⊎ (best ≡ Some r)) × DecidesOver r (refusal_at Lex here) × IfSome best (DecidesOver r)

decides_next : (text : List ℕ) (xs : List PieceAt) (p : PieceAt) (here : Span) (best result : Option Refusal) → here ≡ place_after (take p.extent.at text)
    → (¬ IsBadAt text p → result ≡ best) → Keeps text p here best result → Decides (HasBadAt text xs) best → Decides (HasBadAt text (pushed xs p)) result
decides_next text xs p here best result placed good bad d = elim (kind_bad_or_not p.kind (drop (p.extent.at + p.extent.len) text)) [
  | inl is ↦
      let k = subst (λ q. Keeps text p q best result) placed bad is in
      subst (Decides (HasBadAt text (pushed xs p))) (sym k.1) (decides_bad text xs p best k.0 is k.2 k.3 k.4 d)
  | inr not_so ↦ subst (Decides (HasBadAt text (pushed xs p))) (sym (good not_so)) (decides_good text xs p best not_so d)
]

-- the loop's step
pub look_on : (text : List ℕ) (pieces : List PieceAt) (i : ℕ) (d : PieceAt) (here next : Span) (best result : Option Refusal) (l : Looked text pieces i here best) → i < length pieces → IsPieceAt text (get_or pieces i d)
    → (¬ IsBadAt text (get_or pieces i d) → result ≡ best) → Keeps text (get_or pieces i d) here best result
    → next ≡ place_after (take l.at text ++ bytes_at text (get_or pieces i d).extent)
    → Looked text pieces (i + 1) next result
look_on text pieces i d here next best result l below is good bad placed =
    let p = get_or pieces i d in
    let row : AreInRow l.at (p ∷ drop (i + 1) pieces) = subst (AreInRow l.at) (drop-cons pieces i d below ∙ ap (λ k. p ∷ drop k pieces) (sym (add-one i))) l.row in
    let there : here ≡ place_after (take p.extent.at text) = l.placed ∙ ap (λ n. place_after (take n text)) (sym row.0) in
    let more : take (i + 1) pieces ≡ pushed (take i pieces) p = ap (λ k. take k pieces) (add-one i) ∙ take-suc pieces i d below in
    record {
      at = l.at + p.extent.len;
      row = row.1;
      within = omega (arith, is.within, row.0);
      placed = placed ∙ ap place_after (ap (λ n. take l.at text ++ take p.extent.len (drop n text)) row.0 ∙ sym (take-add l.at p.extent.len text));
      decides = subst (λ xs. Decides (HasBadAt text xs) result) (sym more) (decides_next text (take i pieces) p here best result there good bad l.decides);
    }

pub looked_at_all : (text : List ℕ) (pieces : List PieceAt) (i : ℕ) (here : Span) (best : Option Refusal) → length pieces ≤ i → Looked text pieces i here best → Decides (HasBadAt text pieces) best
looked_at_all text pieces i here best past l = subst (λ xs. Decides (HasBadAt text xs) best) (take_all i pieces past) l.decides

-- where the next piece stands
pub at_piece : (text : List ℕ) (pieces : List PieceAt) (i : ℕ) (d : PieceAt) (here : Span) (best : Option Refusal) (l : Looked text pieces i here best) → i < length pieces → (get_or pieces i d).extent.at ≡ l.at
at_piece text pieces i d here best l below = let row : AreInRow l.at (get_or pieces i d ∷ drop (suc i) pieces) = subst (AreInRow l.at) (drop-cons pieces i d below) l.row in row.0
