-- A text has one list of parts at most.
use Rattle.std.proofs.Common.{◌≡◌, ℕ, true, false, IsTrue, List, [], ◌∷◌, ◌++◌, Option, Some, None, length, length-append, append_assoc, sym, refl, ap, ◌∙◌, arith, subst, inl, inr}
use Rattle.std.specs.List.{AllByRecursion}
use Rattle.p4_lexer.specs.Bytes.{hash, line_feed}
use Rattle.p4_lexer.specs.Pieces.{Begins}
use Rattle.p4_lexer.specs.Cuts.{Cut, CutsInto, AreLine, bytes_of}
use Rattle.p4_lexer.specs.Directives.{Directive}
use Rattle.p4_lexer.specs.Scope.{Scope, outermost, is_taken}
use Rattle.p4_lexer.specs.Parts.{Part, Piece, Line, Skipped, part_bytes, AtLineStart, BeginsWithHash, IsRestOfLine, IsDirectiveOrNone, is_lead, StandsThere, scope_behind, PartsFrom, AreParts}
use Rattle.p4_lexer.proofs.BeginsLemmas.{no_piece_of_none}
use Rattle.p4_lexer.proofs.DirectiveLemmas.{IsCut}
use Rattle.p4_lexer.proofs.DirectiveExactLemmas.{one_directive}
use Rattle.p4_lexer.proofs.OneCutLemmas.{one_cut, one_line, one_lead, one_rest, cuts_are}

-- pieces are one directive, or none
one_directive_or_none : (pieces : List Cut) (d e : Option Directive) → AllByRecursion IsCut pieces → IsDirectiveOrNone pieces d → IsDirectiveOrNone pieces e → d ≡ e
one_directive_or_none pieces None None all a b = refl
one_directive_or_none pieces None (Some e) all a b = absurd (a e b)
one_directive_or_none pieces (Some d) None all a b = absurd (b d a)
one_directive_or_none pieces (Some d) (Some e) all a b = ap Some (one_directive pieces d e all a b)

-- a line is there with its `#` in front
begins_there : (text lead : List ℕ) (pieces : List Cut) (left : List ℕ) → text ≡ (lead ++ hash ∷ bytes_of pieces) ++ left → IsTrue (is_lead lead) → BeginsWithHash text
begins_there text lead pieces left e blank = record {
  lead = lead;
  rest = bytes_of pieces ++ left;
  spelled = e ∙ append_assoc lead (hash ∷ bytes_of pieces) left;
  blank = blank;
}

-- a line that begins with `#` excludes any other part
abbrev IsPlain : List ℕ → List ℕ → Type 0
IsPlain before text = ¬ (AtLineStart before × BeginsWithHash text)

no_line : (before text bytes more lead : List ℕ) (pieces : List Cut) (left : List ℕ) → text ≡ bytes ++ more → IsPlain before (bytes ++ more)
    → AtLineStart before → IsTrue (is_lead lead) → text ≡ (lead ++ hash ∷ bytes_of pieces) ++ left → ⊥
no_line before text bytes more lead pieces left e plain start blank f = plain (start, subst BeginsWithHash e (begins_there text lead pieces left f blank))

-- a part that is taken is not skipped
not_both : (scope : Scope) → is_taken scope ≡ true → is_taken scope ≡ false → ⊥
not_both scope taken not_taken = let e : true ≡ false = sym taken ∙ not_taken in cc

-- a line, by its lead, its pieces and its directive
same_line : (lead other : List ℕ) (pieces others : List Cut) (d e : Option Directive) → lead ≡ other → pieces ≡ others → d ≡ e → Line lead pieces d ≡ Line other others e
same_line lead other pieces others d e one two three = ap (λ x. Line x pieces d) one ∙ ap (λ x. Line other x d) two ∙ ap (λ x. Line other others x) three

one_line_part : (text lead other : List ℕ) (pieces others : List Cut) (d e : Option Directive) (left more : List ℕ)
    → text ≡ (lead ++ hash ∷ bytes_of pieces) ++ left → text ≡ (other ++ hash ∷ bytes_of others) ++ more
    → IsTrue (is_lead lead) → IsTrue (is_lead other)
    → CutsInto (bytes_of pieces ++ left) pieces left → CutsInto (bytes_of others ++ more) others more
    → AreLine pieces left → AreLine others more → IsDirectiveOrNone pieces d → IsDirectiveOrNone others e
    → (Line lead pieces d ≡ Line other others e) × (left ≡ more)
one_line_part text lead other pieces others d e left more f g blank too cut cut_too line line_too is is_too =
    let spelled : lead ++ hash ∷ (bytes_of pieces ++ left) ≡ other ++ hash ∷ (bytes_of others ++ more) =
    sym (append_assoc lead (hash ∷ bytes_of pieces) left) ∙ sym f ∙ g ∙ append_assoc other (hash ∷ bytes_of others) more in
    let leads = one_lead lead other (bytes_of pieces ++ left) (bytes_of others ++ more) blank too spelled in
    let there : CutsInto (bytes_of pieces ++ left) others more = subst (λ xs. CutsInto xs others more) (sym leads.1) cut_too in
    let lines = one_line (bytes_of pieces ++ left) pieces others left more cut line there line_too in
    let also : IsDirectiveOrNone pieces e = subst (λ xs. IsDirectiveOrNone xs e) (sym lines.0) is_too in
    (same_line lead other pieces others d e leads.0 lines.0 (one_directive_or_none pieces d e (cuts_are (bytes_of pieces ++ left) pieces left cut) is also), lines.1)

-- one part stands at a place
one_part : (before : List ℕ) (scope : Scope) (text : List ℕ) (p q : Part) (left more : List ℕ) → text ≡ part_bytes p ++ left → text ≡ part_bytes q ++ more
    → StandsThere before scope p left → StandsThere before scope q more → (p ≡ q) × (left ≡ more)
one_part before scope text (Piece c) (Piece d) left more e f (taken, plain, b) (taken_too, plain_too, b_too) =
    let same = one_cut text c d left more e f
    (subst (λ xs. Begins xs c.kind (length c.bytes)) (sym e) b) (subst (λ xs. Begins xs d.kind (length d.bytes)) (sym f) b_too) in
    (ap Piece same.0, same.1)
one_part before scope text (Piece c) (Line lead pieces d) left more e f (taken, plain, b) (start, blank, cut, line, is) =
    absurd (no_line before text c.bytes left lead pieces more e plain start blank f)
one_part before scope text (Piece c) (Skipped bytes) left more e f (taken, plain, b) (not_taken, plain_too, rest) = absurd (not_both scope taken not_taken)
one_part before scope text (Line lead pieces d) (Piece c) left more e f (start, blank, cut, line, is) (taken, plain, b) =
    absurd (no_line before text c.bytes more lead pieces left f plain start blank e)
one_part before scope text (Line lead pieces d) (Line other others g) left more e f (start, blank, cut, line, is) (start_too, blank_too, cut_too, line_too, is_too) =
    one_line_part text lead other pieces others d g left more e f blank blank_too cut cut_too line line_too is is_too
one_part before scope text (Line lead pieces d) (Skipped bytes) left more e f (start, blank, cut, line, is) (not_taken, plain, rest) =
    absurd (no_line before text bytes more lead pieces left f plain start blank e)
one_part before scope text (Skipped bytes) (Piece c) left more e f (not_taken, plain, rest) (taken, plain_too, b) = absurd (not_both scope taken not_taken)
one_part before scope text (Skipped bytes) (Line lead pieces d) left more e f (not_taken, plain, rest) (start, blank, cut, line, is) =
    absurd (no_line before text bytes left lead pieces more e plain start blank f)
one_part before scope text (Skipped bytes) (Skipped others) left more e f (not_taken, plain, rest) (not_taken_too, plain_too, rest_too) =
    let same = one_rest text bytes others left more e f rest rest_too in
    (ap Skipped same.0, same.1)

front_none : (w left : List ℕ) → [] ≡ w ++ left → w ≡ []
front_none [] left e = refl
front_none (c ∷ w) left e = absurd cc

some_line : (lead bytes : List ℕ) → lead ++ hash ∷ bytes ≡ [] → ⊥
some_line [] bytes e = cc
some_line (c ∷ lead) bytes e = cc

no_rest : (bytes left : List ℕ) → bytes ≡ [] → IsRestOfLine bytes left → ⊥
no_rest bytes left none (inl (inside, ended, one)) = omega (arith, ap length (sym none ∙ ended), length-append inside (line_feed ∷ []))
no_rest bytes left none (inr whole) = whole.0 none

no_bytes : (c : Cut) (left : List ℕ) → [] ≡ c.bytes ++ left → Begins (c.bytes ++ left) c.kind (length c.bytes) → ⊥
no_bytes c left e b = no_piece_of_none c.kind (length c.bytes) (subst (λ xs. Begins xs c.kind (length c.bytes)) (sym e) b)

-- no part stands in a text of no bytes
no_part_of_none : (before : List ℕ) (scope : Scope) (p : Part) (left : List ℕ) → [] ≡ part_bytes p ++ left → StandsThere before scope p left → ⊥
no_part_of_none before scope (Piece c) left e (taken, plain, b) = no_bytes c left e b
no_part_of_none before scope (Line lead pieces d) left e there = some_line lead (bytes_of pieces) (front_none (lead ++ hash ∷ bytes_of pieces) left e)
no_part_of_none before scope (Skipped bytes) left e (not_taken, plain, rest) = no_rest bytes left (front_none bytes left e) rest

-- from a place on a text has one list of parts
pub one_from : (before : List ℕ) (scope : Scope) (text : List ℕ) (parts others : List Part) → PartsFrom before scope text parts → PartsFrom before scope text others → others ≡ parts
one_from before scope text [] [] a b = refl
one_from before scope text [] (q ∷ others) a (more, f, there, behind) = absurd (no_part_of_none before scope q more (sym a ∙ f) there)
one_from before scope text (p ∷ parts) [] (left, e, there, behind) b = absurd (no_part_of_none before scope p left (sym b ∙ e) there)
one_from before scope text (p ∷ parts) (q ∷ others) (left, e, there, behind) (more, f, there_too, behind_too) =
    let same = one_part before scope text p q left more e f there there_too in
    let at_part : PartsFrom (before ++ part_bytes p) (scope_behind before scope p) more others = subst (λ (x : Part). PartsFrom (before ++ part_bytes x) (scope_behind before scope x) more others) (sym same.0) behind_too in
    let at_left : PartsFrom (before ++ part_bytes p) (scope_behind before scope p) left others = subst (λ (xs : List ℕ). PartsFrom (before ++ part_bytes p) (scope_behind before scope p) xs others) (sym same.1) at_part in
    let later = one_from (before ++ part_bytes p) (scope_behind before scope p) left parts others behind at_left in
    ap (λ x. x ∷ others) (sym same.0) ∙ ap (λ xs. p ∷ xs) later

-- a text has one list of parts
pub parts_one : (text : List ℕ) (parts others : List Part) → AreParts text parts → AreParts text others → others ≡ parts
parts_one text parts others a b = one_from [] outermost text parts others a b
