-- The line of a directive as a part of a text.
use Rattle.std.proofs.Common.{◌≡◌, ℕ, ◌+◌, ◌-◌, ◌≤◌, Bool, List, [], ◌∷◌, ◌++◌, Option, Some, None, length, take, drop, map, drop-drop, length-drop, length-append, append_assoc, sym, refl, ap, ◌∙◌, subst, arith, IsTrue}
use Rattle.std.proofs.Math.Seq.{take-append_seam, drop-append_seam}
use Rattle.tg_base.specs.declared.place.Span.{Span}
use Rattle.p4_lexer.specs.declared.extents.PieceAt.{PieceAt}
use Rattle.p4_lexer.specs.declared.extents.Event.{Event}
use Rattle.p4_lexer.specs.declared.scope.ScopeAt.{ScopeAt}
use Rattle.p4_lexer.specs.Bytes.{hash}
use Rattle.p4_lexer.specs.Places.{place_after}
use Rattle.p4_lexer.specs.Cuts.{Cut, CutsInto, bytes_of, AreLine}
use Rattle.p4_lexer.specs.Directives.{Directive, IsDirective}
use Rattle.p4_lexer.specs.Scope.{Scope}
use Rattle.p4_lexer.specs.ScopeState.{StandsFor}
use Rattle.p4_lexer.specs.Parts.{Line, AtLineStart, BeginsWithHash, IsDirectiveOrNone, is_lead}
use Rattle.p4_lexer.specs.Extents.{cut_at}
use Rattle.p4_lexer.specs.LineExtents.{IsLineAt}
use Rattle.p4_lexer.specs.PartSteps.{PartAt, Obeys, ReadsPart}
use Rattle.p4_lexer.proofs.PartLemmas.{nothing_added}

-- the text begins with the bytes of its cuts
pub cut_bytes : (text : List ℕ) (cuts : List Cut) (left : List ℕ) → CutsInto text cuts left → text ≡ bytes_of cuts ++ left
cut_bytes text [] left cut = cut
cut_bytes text (c ∷ cuts) left (rest, same, b, more) = same ∙ ap (λ xs. c.bytes ++ xs) (cut_bytes rest cuts left more) ∙ sym (append_assoc c.bytes (bytes_of cuts) left)

behind_hash : (text : List ℕ) (at : ℕ) (lead rest : List ℕ) → drop at text ≡ lead ++ hash ∷ rest → drop (at + length lead + 1) text ≡ rest
behind_hash text at lead rest e =
    let n : length (lead ++ hash ∷ []) ≡ length lead + 1 = omega (arith, length-append lead (hash ∷ [])) in
    let to : at + length lead + 1 ≡ at + length (lead ++ hash ∷ []) = omega (arith, n) in
    ap (λ k. drop k text) to ∙ sym (drop-drop (length (lead ++ hash ∷ [])) at text)
    ∙ ap (drop (length (lead ++ hash ∷ []))) (e ∙ sym (append_assoc lead (hash ∷ []) rest)) ∙ drop-append_seam (lead ++ hash ∷ []) rest

line_whole : (text : List ℕ) (at : ℕ) (lead rest : List ℕ) (cuts : List Cut) (left : List ℕ) → drop at text ≡ lead ++ hash ∷ rest → CutsInto (drop (at + length lead + 1) text) cuts left
    → drop at text ≡ (lead ++ hash ∷ bytes_of cuts) ++ left
line_whole text at lead rest cuts left e cut =
    let there : rest ≡ bytes_of cuts ++ left = sym (behind_hash text at lead rest e) ∙ cut_bytes (drop (at + length lead + 1) text) cuts left cut in
    e ∙ ap (λ xs. lead ++ hash ∷ xs) there ∙ sym (append_assoc lead (hash ∷ bytes_of cuts) left)

line_len : (text : List ℕ) (at end : ℕ) (bytes : List ℕ) → at ≤ end → end ≤ length text → drop at text ≡ bytes ++ drop end text → length bytes ≡ end - at
line_len text at end bytes from within e = omega (arith, ap length e, length-append bytes (drop end text), length-drop at text, length-drop end text)

pub line_stands : (text : List ℕ) (at lead end : ℕ) (pieces : List PieceAt) (scope : Scope) (directive : Option Directive) → AtLineStart (take at text)
    → (begins : BeginsWithHash (drop at text)) → length begins.lead ≡ lead → IsLineAt text (at + lead + 1) pieces end → IsDirectiveOrNone (map (cut_at text) pieces) directive
    → PartAt text at (end - at) scope (Line begins.lead (map (cut_at text) pieces) directive)
line_stands text at lead end pieces scope directive start begins long line is =
    let cuts = map (cut_at text) pieces in
    let cut : CutsInto (drop (at + length begins.lead + 1) text) cuts (drop end text) = subst (λ n. CutsInto (drop (at + n + 1) text) cuts (drop end text)) (sym long) line.cut in
    let whole = line_whole text at begins.lead begins.rest cuts (drop end text) begins.spelled cut in
    let from : at + lead + 1 ≤ end = line.from in
    let len : length (begins.lead ++ hash ∷ bytes_of cuts) ≡ end - at = line_len text at end (begins.lead ++ hash ∷ bytes_of cuts) (omega (arith, from)) line.within whole in
    let to : end ≡ at + (end - at) = omega (arith, from) in
    let stands : AtLineStart (take at text) × IsTrue (is_lead begins.lead) × CutsInto (bytes_of cuts ++ drop end text) cuts (drop end text) × AreLine cuts (drop end text) × IsDirectiveOrNone cuts directive =
    (start, begins.blank, subst (λ xs. CutsInto xs cuts (drop end text)) (cut_bytes (drop (at + length begins.lead + 1) text) cuts (drop end text) cut) cut, line.line, is) in
    record {
      some = omega (arith, from);
      within = omega (arith, from, line.within);
      bytes = sym (ap (λ n. take n (drop at text)) (sym len) ∙ ap (take (length (begins.lead ++ hash ∷ bytes_of cuts))) whole ∙ take-append_seam (begins.lead ++ hash ∷ bytes_of cuts) (drop end text));
      there = subst (λ n. AtLineStart (take at text) × IsTrue (is_lead begins.lead) × CutsInto (bytes_of cuts ++ drop n text) cuts (drop n text) × AreLine cuts (drop n text) × IsDirectiveOrNone cuts directive) to stands;
    }

-- the place of the `#`
pub hash_place : (text : List ℕ) (at lead : ℕ) (begins : BeginsWithHash (drop at text)) → length begins.lead ≡ lead → take (at + lead - at) (drop at text) ≡ begins.lead
hash_place text at lead begins long =
    let n : at + lead - at ≡ length begins.lead = omega (arith, long) in
    ap (λ k. take k (drop at text)) n ∙ ap (take (length begins.lead)) begins.spelled ∙ take-append_seam begins.lead (hash ∷ begins.rest)

-- a line that is no directive
unfoldable pub no_line_read : (text : List ℕ) (at lead end : ℕ) (pieces : List PieceAt) (scope : Scope) (s : ScopeAt) (events : List Event) → StandsFor s scope → AtLineStart (take at text)
    → (begins : BeginsWithHash (drop at text)) → length begins.lead ≡ lead → IsLineAt text (at + lead + 1) pieces end → ((d : Directive) → ¬ IsDirective (map (cut_at text) pieces) d)
    → ReadsPart text at (end - at) scope s events events
no_line_read text at lead end pieces scope s events st start begins long line is = record {
  part = Line begins.lead (map (cut_at text) pieces) None;
  stood = line_stands text at lead end pieces scope None start begins long line is;
  told = nothing_added text at scope (Line begins.lead (map (cut_at text) pieces) None) events refl refl;
  stands = st;
}

-- a line that is a directive
unfoldable pub line_read : (text : List ℕ) (at lead end : ℕ) (pieces : List PieceAt) (scope : Scope) (n : ScopeAt) (d : Directive) (place : Span) (old new : List Event) (answer : Bool) → AtLineStart (take at text)
    → (begins : BeginsWithHash (drop at text)) → length begins.lead ≡ lead → IsLineAt text (at + lead + 1) pieces end → IsDirective (map (cut_at text) pieces) d
    → place ≡ place_after (take at text ++ begins.lead) → Obeys text scope place d n old new answer
    → ReadsPart text at (end - at) scope n old new
line_read text at lead end pieces scope n d place old new answer start begins long line is there obeys =
    let o : Obeys text scope (place_after (take at text ++ begins.lead)) d n old new answer = subst (λ q. Obeys text scope q d n old new answer) there obeys in
    record {
      part = Line begins.lead (map (cut_at text) pieces) (Some d);
      stood = line_stands text at lead end pieces scope (Some d) start begins long line is;
      told = record { more = o.told.more; added = o.told.added; fit = o.told.fit; words = o.told.words };
      stands = o.stands;
    }
