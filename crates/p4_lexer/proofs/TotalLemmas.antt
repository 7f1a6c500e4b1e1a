-- Every text is read through all layers but the marks.
use Rattle.std.proofs.Common.{◌≡◌, ℕ, zero, suc, ◌+◌, ◌≤◌, ◌<◌, false, IsTrue, ◌==◌, List, [], ◌∷◌, ◌++◌, length, take, drop, Contains, Option, Some, None, take-append-drop, length-drop, length-append, append_assoc, sym, refl, ap, ◌∙◌, arith, subst, ◌⊎◌, inl, inr}
use Rattle.std.specs.List.{AllByRecursion, prefix_len}
use Rattle.std.proofs.lemmas.Bool.{cases_Bool, cases_lt, eqb-true}
use Rattle.std.proofs.lemmas.List.{same_from_push, length-take-le}
use Rattle.std.proofs.lemmas.List.Sums.{prefix_len-le-length}
use Rattle.p4_lexer.specs.declared.limits.TheConstants.{MAX_WEIGHT}
use Rattle.p4_lexer.specs.declared.classes.Class.TheVariants.{InLine, InLead}
use Rattle.p4_lexer.specs.declared.piece.Piece.{Piece}
use Rattle.p4_lexer.specs.Bytes.{hash, line_feed}
use Rattle.p4_lexer.specs.Pieces.{Begins}
use Rattle.p4_lexer.specs.Cuts.{Cut, CutsInto, bytes_of}
use Rattle.p4_lexer.specs.Lines.{AreFirstLine}
use Rattle.p4_lexer.specs.Lengths.{has, piece_of, begins_with}
use Rattle.p4_lexer.specs.Directives.{Directive}
use Rattle.p4_lexer.specs.DirectiveSteps.{directive_of}
use Rattle.p4_lexer.specs.Scope.{Scope, outermost, is_taken}
use Rattle.p4_lexer.specs.Parts.{Part, Piece as PiecePart, Line, Skipped, part_bytes, AtLineStart, BeginsWithHash, IsDirectiveOrNone, IsRestOfLine, StandsThere, scope_behind, PartsFrom}
use Rattle.p4_lexer.specs.SourceWords.{source_words}
use Rattle.p4_lexer.specs.Weight.{within}
use Rattle.p4_lexer.specs.Tokens.{Reading}
use Rattle.p4_lexer.proofs.BeginsLemmas.{begins_text}
use Rattle.p4_lexer.proofs.PieceLenLemmas.{piece_within}
use Rattle.p4_lexer.proofs.LineLemmas.{some_bytes, line_with, line_ended, line_of_none}
use Rattle.p4_lexer.proofs.RestLemmas.{hash_found, hash_missing, rest_ended, rest_whole}
use Rattle.p4_lexer.proofs.LinePartLemmas.{cut_bytes}
use Rattle.p4_lexer.proofs.OneCutLemmas.{cuts_are}
use Rattle.p4_lexer.proofs.DirectiveLemmas.{IsCut, directive_sound}
use Rattle.p4_lexer.proofs.DirectiveExactLemmas.{directive_complete}
use Rattle.p4_lexer.proofs.SnocLemmas.{has_last}
use Rattle.p4_lexer.proofs.ReplacementLemmas.{items_total}
use Rattle.p4_lexer.proofs.LeavesLemmas.{leaves_some}

-- a line feed is among the bytes, or it is not
none_more : (c : ℕ) (xs : List ℕ) → (c == line_feed) ≡ false → ¬ Contains xs line_feed → ¬ Contains (c ∷ xs) line_feed
none_more c xs other none (zero, below, at) = let h : (line_feed == line_feed) ≡ false = subst (λ d. (d == line_feed) ≡ false) at other in cc
none_more c xs other none (suc k, below, at) = none (k, omega (arith, below), at)

feed_or : (xs : List ℕ) → Contains xs line_feed ⊎ ¬ Contains xs line_feed
feed_or [] = inr (λ found. absurd (omega (arith, found.1)))
feed_or (c ∷ xs) = elim (cases_Bool (c == line_feed)) [
  | inl is ↦ inl (0, omega arith, eqb-true c line_feed is)
  | inr other ↦ elim (feed_or xs) [
    | inl found ↦ inl (suc found.0, omega (arith, found.1), found.2)
    | inr none ↦ inr (none_more c xs other none)
  ]
]

-- every text begins with a piece
piece_there : (c : ℕ) (text : List ℕ) → Begins (c ∷ text) (piece_of (c ∷ text)).kind (piece_of (c ∷ text)).len
piece_there c text = begins_text (c ∷ text) (piece_of (c ∷ text)) (omega arith) refl (piece_within c text)

piece_some : (c : ℕ) (text : List ℕ) → 0 < (piece_of (c ∷ text)).len
piece_some c text = some_bytes (c ∷ text) (piece_of (c ∷ text)).kind (piece_of (c ∷ text)).len (omega arith) (piece_there c text)

shorter : (c : ℕ) (text : List ℕ) (n fuel : ℕ) → 0 < n → length (c ∷ text) ≤ suc fuel → length (drop n (c ∷ text)) ≤ fuel
shorter c text n fuel some fits = omega (arith, some, fits, length-drop n (c ∷ text))

-- every text begins with a line
line_there : (fuel : ℕ) (text : List ℕ) → length text ≤ fuel → (pieces : List Piece) × AreFirstLine text pieces
line_there fuel [] fits = ([], line_of_none)
line_there zero (c ∷ text) fits = absurd (omega (arith, fits))
line_there (suc fuel) (c ∷ text) fits =
    let p = piece_of (c ∷ text) in
    let more = line_there fuel (drop p.len (c ∷ text)) (shorter c text p.len fuel (piece_some c text) fits) in
    elim (feed_or (take p.len (c ∷ text))) [
      | inl passes ↦ (p ∷ [], line_ended (c ∷ text) p (piece_there c text) passes)
      | inr inside ↦ (p ∷ more.0, line_with (c ∷ text) p more.0 (piece_there c text) inside more.1)
    ]

-- pieces are a directive, or none
directive_there : (cuts : List Cut) → AllByRecursion IsCut cuts → (d : Option Directive) × IsDirectiveOrNone cuts d
directive_there cuts are = by (directive_of cuts) refl where
  by : (d : Option Directive) → directive_of cuts ≡ d → (d : Option Directive) × IsDirectiveOrNone cuts d
  by None e = (None, λ d is. let h : None ≡ Some d = sym e ∙ directive_complete cuts d are is in cc)
  by (Some d) e = (Some d, directive_sound cuts d e)

-- a line begins behind the bytes, or none does
start_or : (before : List ℕ) → AtLineStart before ⊎ ¬ AtLineStart before
start_or before = elim (has_last before) [
  | inl none ↦ inl (inl none)
  | inr last ↦ elim (cases_Bool (last.1 == line_feed)) [
    | inl is ↦ inl (inr (last.0, last.2 ∙ ap (λ c. last.0 ++ c ∷ []) (eqb-true last.1 line_feed is)))
    | inr other ↦ inr (no_start before last.0 last.1 last.2 other)
  ]
] where
  no_start : (all front : List ℕ) (c : ℕ) → all ≡ front ++ c ∷ [] → (c == line_feed) ≡ false → ¬ AtLineStart all
  no_start all front c e other (inl none) = absurd (omega (arith, ap length (sym e ∙ none), length-append front (c ∷ [])))
  no_start all front c e other (inr (earlier, f)) =
      let same = same_from_push front earlier c line_feed (sym e ∙ f) in
      let h : (line_feed == line_feed) ≡ false = subst (λ d. (d == line_feed) ≡ false) same.1 other in cc

-- a line begins with `#`, or it does not
hash_or : (text : List ℕ) → BeginsWithHash text ⊎ ¬ BeginsWithHash text
hash_or text =
    let n = prefix_len (has InLead) text in
    elim (cases_Bool (begins_with hash (drop n text))) [
      | inl found ↦ inl (hash_found text n refl (prefix_len-le-length (has InLead) text) found).0
      | inr missing ↦ inr (hash_missing text n refl missing)
    ]

line_or : (before text : List ℕ) → (AtLineStart before × BeginsWithHash text) ⊎ ¬ (AtLineStart before × BeginsWithHash text)
line_or before text = elim (start_or before) [
  | inr none ↦ inr (λ both. none both.0)
  | inl start ↦ elim (hash_or text) [
    | inl begins ↦ inl (start, begins)
    | inr none ↦ inr (λ both. none both.1)
  ]
]

-- the part that stands first, and what it leaves
record NextPart (before : List ℕ) (scope : Scope) (text : List ℕ) : Type 0 where
  part : Part
  left : List ℕ
  spelled : text ≡ part_bytes part ++ left
  stands : StandsThere before scope part left
  nearer : length left < length text

line_part : (before : List ℕ) (scope : Scope) (text : List ℕ) → AtLineStart before → BeginsWithHash text → NextPart before scope text
line_part before scope text start begins =
    let line = (line_there (length begins.rest) begins.rest (omega arith)).1 in
    let rest : begins.rest ≡ bytes_of line.cuts ++ line.left = cut_bytes begins.rest line.cuts line.left line.cut in
    let d = directive_there line.cuts (cuts_are begins.rest line.cuts line.left line.cut) in
    let spelled : text ≡ (begins.lead ++ hash ∷ bytes_of line.cuts) ++ line.left =
    begins.spelled ∙ ap (λ xs. begins.lead ++ hash ∷ xs) rest ∙ sym (append_assoc begins.lead (hash ∷ bytes_of line.cuts) line.left) in
    record {
      part = Line begins.lead line.cuts d.0;
      left = line.left;
      spelled = spelled;
      stands = (start, begins.blank, subst (λ xs. CutsInto xs line.cuts line.left) rest line.cut, line.line, d.1);
      nearer = omega (arith, ap length begins.spelled, length-append begins.lead (hash ∷ begins.rest), ap length rest, length-append (bytes_of line.cuts) line.left);
    }

piece_part : (before : List ℕ) (scope : Scope) (c : ℕ) (text : List ℕ) → ¬ (AtLineStart before × BeginsWithHash (c ∷ text)) → IsTrue (is_taken scope) → NextPart before scope (c ∷ text)
piece_part before scope c text plain taken =
    let p = piece_of (c ∷ text) in
    let begins = piece_there c text in
    let bytes : List ℕ = take p.len (c ∷ text) in
    let left : List ℕ = drop p.len (c ∷ text) in
    let spelled : c ∷ text ≡ bytes ++ left = sym (take-append-drop p.len (c ∷ text)) in
    record {
      part = PiecePart (record { kind = p.kind; bytes = bytes });
      left = left;
      spelled = spelled;
      stands = (
        taken,
        subst (λ xs. ¬ (AtLineStart before × BeginsWithHash xs)) spelled plain,
        subst (λ n. Begins (bytes ++ left) p.kind n) (sym (length-take-le p.len (c ∷ text) begins.within)) (subst (λ xs. Begins xs p.kind p.len) spelled begins),
      );
      nearer = omega (arith, piece_some c text, length-drop p.len (c ∷ text));
    }

skipped_by : (before : List ℕ) (scope : Scope) (c : ℕ) (text : List ℕ) (n : ℕ) → ¬ (AtLineStart before × BeginsWithHash (c ∷ text)) → is_taken scope ≡ false
    → 0 < n → IsRestOfLine (take n (c ∷ text)) (drop n (c ∷ text)) → NextPart before scope (c ∷ text)
skipped_by before scope c text n plain not_taken some rest =
    let spelled : c ∷ text ≡ take n (c ∷ text) ++ drop n (c ∷ text) = sym (take-append-drop n (c ∷ text)) in
    record {
      part = Skipped (take n (c ∷ text));
      left = drop n (c ∷ text);
      spelled = spelled;
      stands = (not_taken, subst (λ xs. ¬ (AtLineStart before × BeginsWithHash xs)) spelled plain, rest);
      nearer = omega (arith, some, length-drop n (c ∷ text));
    }

skipped_part : (before : List ℕ) (scope : Scope) (c : ℕ) (text : List ℕ) → ¬ (AtLineStart before × BeginsWithHash (c ∷ text)) → is_taken scope ≡ false → NextPart before scope (c ∷ text)
skipped_part before scope c text plain not_taken =
    let n : ℕ = prefix_len (has InLine) (c ∷ text) in
    elim (cases_lt n (length (c ∷ text))) [
      | inl below ↦ skipped_by before scope c text (n + 1) plain not_taken (omega arith) (rest_ended (c ∷ text) n refl below)
      | inr past ↦ skipped_by before scope c text n plain not_taken (omega (arith, past)) (rest_whole (c ∷ text) n refl (omega arith) (prefix_len-le-length (has InLine) (c ∷ text)) past)
    ]

next_part : (before : List ℕ) (scope : Scope) (c : ℕ) (text : List ℕ) → NextPart before scope (c ∷ text)
next_part before scope c text = elim (line_or before (c ∷ text)) [
  | inl line ↦ line_part before scope (c ∷ text) line.0 line.1
  | inr plain ↦ elim (cases_Bool (is_taken scope)) [
    | inl taken ↦ piece_part before scope c text plain taken
    | inr not_taken ↦ skipped_part before scope c text plain not_taken
  ]
]

-- every text is parts, wherever it stands
parts_there : (fuel : ℕ) (before : List ℕ) (scope : Scope) (text : List ℕ) → length text ≤ fuel → (parts : List Part) × PartsFrom before scope text parts
parts_there fuel before scope [] fits = ([], refl)
parts_there zero before scope (c ∷ text) fits = absurd (omega (arith, fits))
parts_there (suc fuel) before scope (c ∷ text) fits =
    let n = next_part before scope c text in
    let more = parts_there fuel (before ++ part_bytes n.part) (scope_behind before scope n.part) n.left (omega (arith, fits, n.nearer)) in
    (n.part ∷ more.0, (n.left, n.spelled, n.stands, more.1))

-- every text is read
pub reading_there : (text : List ℕ) → Reading text
reading_there text =
    let parts = parts_there (length text) [] outermost text (omega arith) in
    let items = items_total (source_words parts.0) in
    let entries = leaves_some (within MAX_WEIGHT items.0) in
    record { parts = parts.0; items = items.0; entries = entries.0; are_parts = parts.1; are_items = items.1; leaves = entries.1 }
