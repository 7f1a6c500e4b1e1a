-- A text read part by part.
use Rattle.std.proofs.Common.{◌≡◌, ℕ, ◌+◌, ◌≤◌, Bool, List, [], ◌∷◌, ◌++◌, length, take, drop, All, not, ◌==◌, append_assoc, sym, ap, ◌∙◌, subst, arith, count_by, reverse}
use Rattle.std.specs.List.{suffix_len}
use Rattle.std.proofs.Math.Seq.{take-add}
use Rattle.std.proofs.Math.ListN.{drop_of_length-le}
use Rattle.std.proofs.lemmas.List.{append-nil, length-take-le, length-reverse}
use Rattle.std.proofs.lemmas.List.Elements.{All-append}
use Rattle.std.proofs.lemmas.List.Sums.{prefix_len-le-length, count_by-le-length}
use Rattle.tg_base.specs.declared.place.Span.{Span}
use Rattle.p4_lexer.specs.declared.extents.Event.{Event}
use Rattle.p4_lexer.specs.declared.scope.ScopeAt.{ScopeAt}
use Rattle.p4_lexer.specs.Bytes.{line_feed}
use Rattle.p4_lexer.specs.Places.{place_after}
use Rattle.p4_lexer.specs.Scope.{Scope, outermost}
use Rattle.p4_lexer.specs.Parts.{Part, part_bytes, scope_behind, PartsFrom, AreParts}
use Rattle.p4_lexer.specs.SourceWords.{part_words, words_from}
use Rattle.p4_lexer.specs.Extents.{words_of}
use Rattle.p4_lexer.specs.Tokens.{scope_of}
use Rattle.p4_lexer.specs.PartSteps.{EventFits, ReadTo, ReadsPart, Progress, IsRead}
use Rattle.p4_lexer.proofs.PartLemmas.{joined}

pub place_within : (text : List ℕ) (at : ℕ) (place : Span) → at ≤ length text → place ≡ place_after (take at text) → (place.line ≤ at + 1) × (place.column ≤ at + 1)
place_within text at place within e =
    let before = take at text in
    let long : length before ≡ at = length-take-le at text within in
    let line : place.line ≡ 1 + count_by (λ c. c == line_feed) before = ap (λ p. p.line) e in
    let column : place.column ≡ 1 + suffix_len (λ c. not (c == line_feed)) before = ap (λ p. p.column) e in
    let lines : count_by (λ c. c == line_feed) before ≤ length before = count_by-le-length (λ c. c == line_feed) before in
    let columns : suffix_len (λ c. not (c == line_feed)) before ≤ length before = suffix_within (λ c. not (c == line_feed)) before in
    (omega arith, omega arith)
  where
    suffix_within : (p : ℕ → Bool) (xs : List ℕ) → suffix_len p xs ≤ length xs
    suffix_within p xs = omega (arith, prefix_len-le-length p (reverse xs), length-reverse xs)

-- the bytes up to behind a part
pub up_to : (text : List ℕ) (at len : ℕ) (bytes : List ℕ) → bytes ≡ take len (drop at text) → take at text ++ bytes ≡ take (at + len) text
up_to text at len bytes e = ap (λ xs. take at text ++ xs) e ∙ sym (take-add at len text)

-- one more part is read
unfoldable pub read_more : (text : List ℕ) (at len : ℕ) (scope : Scope) (n : ScopeAt) (old new : List Event) (r : ReadsPart text at len scope n old new) → ReadTo text at scope old → ReadTo text (at + len) (scope_behind (take at text) scope r.part) new
read_more text at len scope n old new r t =
    let p = r.part in
    let next = scope_behind (take at text) scope p in
    let before : take at text ++ part_bytes p ≡ take (at + len) text = up_to text at len (part_bytes p) r.stood.bytes in
    let added : (later : List Part) → (t.parts ++ p ∷ []) ++ later ≡ t.parts ++ p ∷ later = λ later. append_assoc t.parts (p ∷ []) later in
    let told_part : (tail : List Event) → words_of text scope.macros (r.told.more ++ tail) ≡ part_words (take at text) scope p ++ words_of text next.macros tail = r.told.words in
    let told_new : (tail : List Event) → words_of text [] (new ++ tail) ≡ words_of text [] old ++ (part_words (take at text) scope p ++ words_of text next.macros tail) =
    λ tail. ap (λ es. words_of text [] (es ++ tail)) r.told.added ∙ ap (words_of text []) (append_assoc old r.told.more tail) ∙ t.goes_on (r.told.more ++ tail) ∙ ap (λ ws. words_of text [] old ++ ws) (told_part tail) in
    let told_all : words_of text [] new ≡ words_of text [] old ++ part_words (take at text) scope p =
    ap (words_of text []) (sym (append-nil new)) ∙ told_new [] ∙ ap (λ ws. words_of text [] old ++ ws) (append-nil (part_words (take at text) scope p)) in
    record {
      parts = t.parts ++ p ∷ [];
      within = r.stood.within;
      into = λ later from. subst (AreParts text) (sym (added later)) (t.into (p ∷ later) (
        drop (at + len) text,
        sym (joined text at len) ∙ ap (λ xs. xs ++ drop (at + len) text) (sym r.stood.bytes),
        r.stood.there,
        subst (λ xs. PartsFrom xs next (drop (at + len) text) later) (sym before) from,
      ));
      told = λ later.
          ap (words_from [] outermost) (added later) ∙ t.told (p ∷ later)
          ∙ ap (λ xs. words_of text [] old ++ (part_words (take at text) scope p ++ words_from xs next later)) before
          ∙ sym (append_assoc (words_of text [] old) (part_words (take at text) scope p) (words_from (take (at + len) text) next later))
          ∙ ap (λ ws. ws ++ words_from (take (at + len) text) next later) (sym told_all);
      behind = λ later. ap (scope_of [] outermost) (added later) ∙ t.behind (p ∷ later) ∙ ap (λ xs. scope_of xs next later) before;
      goes_on = λ more.
          told_new more ∙ sym (append_assoc (words_of text [] old) (part_words (take at text) scope p) (words_of text next.macros more))
          ∙ ap (λ ws. ws ++ words_of text next.macros more) (sym told_all);
      fit = subst (All (EventFits text)) (sym r.told.added) (All-append (EventFits text) old r.told.more t.fit r.told.fit);
    }

unfoldable pub goes_on : (text : List ℕ) (at len : ℕ) (place next : Span) (s n : ScopeAt) (old new : List Event) (p : Progress text at place s old) → ReadsPart text at len p.scope n old new
    → next ≡ place_after (take at text ++ take len (drop at text)) → Progress text (at + len) next n new
goes_on text at len place next s n old new p r e = record {
  scope = scope_behind (take at text) p.scope r.part;
  stands = r.stands;
  read = read_more text at len p.scope n old new r p.read;
  placed = e ∙ ap place_after (sym (take-add at len text));
}

unfoldable pub read_all : (text : List ℕ) (at : ℕ) (place : Span) (s : ScopeAt) (events : List Event) → length text ≤ at → Progress text at place s events → IsRead text s events
read_all text at place s events past p = record {
  parts = p.read.parts;
  are_parts = subst (AreParts text) (append-nil p.read.parts) (p.read.into [] (drop_of_length-le text past));
  words = sym (ap (words_from [] outermost) (sym (append-nil p.read.parts)) ∙ p.read.told [] ∙ append-nil (words_of text [] events));
  fit = p.read.fit;
  scope = p.scope;
  stands = p.stands;
  behind = ap (scope_of [] outermost) (sym (append-nil p.read.parts)) ∙ p.read.behind [];
}
