-- Every text has tokens, or a refusal: its words are spelled as words, so that each becomes a token.
use Rattle.std.proofs.Common.{◌≡◌, ℕ, Bool, true, false, not, cond, IsTrue, ◌-◌, nat_le, List, [], ◌∷◌, ◌++◌, Some, None, sym, refl, subst, ◌⊎◌, inl, inr}
use Rattle.std.specs.Prelude.{if◌then◌else◌, codes}
use Rattle.std.specs.List.{AllByRecursion, filter}
use Rattle.std.specs.Str.{bytes_eq}
use Rattle.std.proofs.Math.Seq.{take-append_seam}
use Rattle.tg_base.specs.declared.place.Span.{Span}
use Rattle.tg_base.specs.declared.place.Refusal.{Refusal}
use Rattle.p4_lexer.specs.declared.limits.TheConstants.{MAX_WEIGHT}
use Rattle.p4_lexer.specs.declared.token.Tokens.{Tokens}
use Rattle.p4_lexer.specs.Pieces.{IsPiece}
use Rattle.p4_lexer.specs.Places.{place_after}
use Rattle.p4_lexer.specs.Cuts.{Cut, bytes_of}
use Rattle.p4_lexer.specs.Directives.{Directive, Include, Define, Undefine, IfDefined, IfNotDefined, Else, EndIf, IsDirective, name_piece}
use Rattle.p4_lexer.specs.Scope.{Scope, Macro, outermost, macro_of, is_taken, macros_after, scope_after}
use Rattle.p4_lexer.specs.Parts.{Part, Piece, Line, Skipped, part_bytes, scope_behind, PartsFrom}
use Rattle.p4_lexer.specs.SourceWords.{Placed, SourceWord, is_word, source_words, words_from}
use Rattle.p4_lexer.specs.Replacement.{Item, Word, Replaced, words_at, Gives, none, kept, replaced, AreItems}
use Rattle.p4_lexer.specs.Weight.{word_of, weight, within}
use Rattle.p4_lexer.specs.Annotations as a
use Rattle.p4_lexer.specs.Annotations.{Entry, Leaves, names_among}
use Rattle.p4_lexer.specs.BareWords.{IsProper}
use Rattle.p4_lexer.specs.Tokens.{Reading, HasTokens, IsRefused, tokens_among}
use Rattle.p4_lexer.proofs.OneCutLemmas.{cuts_are}
use Rattle.p4_lexer.proofs.DirectiveLemmas.{IsCut}
use Rattle.p4_lexer.proofs.ReplacementLemmas.{named}
use Rattle.p4_lexer.proofs.ProperLemmas.{together, kind_of_word}
use Rattle.p4_lexer.proofs.BecomeLemmas.{all_become}
use Rattle.p4_lexer.proofs.TotalLemmas.{reading_there}
use Rattle.p4_lexer.proofs.DecidedLemmas.{faultless_or_decided}

-- a word, spelled as its kind
abbrev IsSpelled : Placed → Type 0
IsSpelled w = IsTrue (is_word w.cut.kind) × IsPiece w.cut.kind w.cut.bytes

-- macros of pieces alone
abbrev OfPieces : Macro → Type 0
OfPieces m = AllByRecursion IsCut m.words

all_behind : {X : Type 0} (P : X → Type 0) (xs ys : List X) → AllByRecursion P (xs ++ ys) → AllByRecursion P ys
all_behind P [] ys all = all
all_behind P (x ∷ xs) ys all = all_behind P xs ys all.1

all_left : {X : Type 0} (P : X → Type 0) (test : X → Bool) (xs : List X) → AllByRecursion P xs → AllByRecursion P (filter test xs)
all_left P test [] all = tt
all_left P test (x ∷ xs) all = by_test (all_left P test xs all.1) (test x) where
  by_test : AllByRecursion P (filter test xs) → (b : Bool) → AllByRecursion P (cond b (x ∷ filter test xs) (filter test xs))
  by_test rest true = (all.0, rest)
  by_test rest false = rest

macro_is : (macros : List Macro) (name : List ℕ) (m : Macro) → macro_of macros name ≡ Some m → AllByRecursion OfPieces macros → OfPieces m
macro_is [] name m found all = absurd cc
macro_is (n ∷ macros) name m found all = at_test (bytes_eq n.name name) (λ g. macro_is macros name m g all.1) found where
  at_test : (b : Bool) → (macro_of macros name ≡ Some m → OfPieces m) → cond b (Some n) (macro_of macros name) ≡ Some m → OfPieces m
  at_test true more g = let same : n ≡ m = cc in subst OfPieces same all.0
  at_test false more g = more g

-- what a directive puts in the place of a name, if it does, is pieces of its line
abbrev PutsPieces : Directive → Type 0
PutsPieces (Define name words) = AllByRecursion IsCut words
PutsPieces _ = Unit {0}

puts_pieces : (pieces : List Cut) (d : Directive) → AllByRecursion IsCut pieces → IsDirective pieces d → PutsPieces d
puts_pieces pieces (Define name words) all is =
    let n = is.names in
    let behind = all_behind IsCut (name_piece (codes "define") ∷ (n.gap ∷ n.gaps)) (name_piece name ∷ words) (subst (AllByRecursion IsCut) n.spelled all) in
    behind.1
puts_pieces pieces Include all is = tt
puts_pieces pieces (Undefine name) all is = tt
puts_pieces pieces (IfDefined name) all is = tt
puts_pieces pieces (IfNotDefined name) all is = tt
puts_pieces pieces Else all is = tt
puts_pieces pieces EndIf all is = tt

macros_stay : (macros : List Macro) (d : Directive) → PutsPieces d → AllByRecursion OfPieces macros → AllByRecursion OfPieces (macros_after macros d)
macros_stay macros (Define name words) puts all = (puts, all_left OfPieces (λ m. not (bytes_eq m.name name)) macros all)
macros_stay macros (Undefine name) puts all = all_left OfPieces (λ m. not (bytes_eq m.name name)) macros all
macros_stay macros Include puts all = all
macros_stay macros (IfDefined name) puts all = all
macros_stay macros (IfNotDefined name) puts all = all
macros_stay macros Else puts all = all
macros_stay macros EndIf puts all = all

if_taken : (b : Bool) (scope other : Scope) → AllByRecursion OfPieces scope.macros → AllByRecursion OfPieces other.macros → AllByRecursion OfPieces (if b then other else scope).macros
if_taken true scope other all also = also
if_taken false scope other all also = all

scope_stays : (scope : Scope) (place : Span) (d : Directive) → PutsPieces d → AllByRecursion OfPieces scope.macros → AllByRecursion OfPieces (scope_after scope place d).macros
scope_stays scope place (IfDefined name) puts all = all
scope_stays scope place (IfNotDefined name) puts all = all
scope_stays scope place Else puts all = all
scope_stays scope place EndIf puts all = all
scope_stays scope place Include puts all = if_taken (is_taken scope) scope (record { conditions = scope.conditions; macros = macros_after scope.macros Include }) all (macros_stay scope.macros Include puts all)
scope_stays scope place (Define name words) puts all =
    if_taken (is_taken scope) scope (record { conditions = scope.conditions; macros = macros_after scope.macros (Define name words) }) all (macros_stay scope.macros (Define name words) puts all)
scope_stays scope place (Undefine name) puts all =
    if_taken (is_taken scope) scope (record { conditions = scope.conditions; macros = macros_after scope.macros (Undefine name) }) all (macros_stay scope.macros (Undefine name) puts all)

-- the words of the source, and the macros in force there
abbrev IsSource : SourceWord → Type 0
IsSource s = IsSpelled s.word × AllByRecursion OfPieces s.macros

source_spelled : (before : List ℕ) (scope : Scope) (text : List ℕ) (parts : List Part) → AllByRecursion OfPieces scope.macros → PartsFrom before scope text parts
    → AllByRecursion IsSource (words_from before scope parts)
source_spelled before scope text [] all are = tt
source_spelled before scope text (Piece c ∷ parts) all (left, spelled, there, more) =
    by_kind (source_spelled (before ++ c.bytes) scope left parts all more) (is_word c.kind) refl where
      piece : IsPiece c.kind c.bytes
      piece = subst (IsPiece c.kind) (take-append_seam c.bytes left) there.2.piece

      by_kind : AllByRecursion IsSource (words_from (before ++ c.bytes) scope parts) → (b : Bool) → is_word c.kind ≡ b → AllByRecursion IsSource
          ((if b then record { word = record { cut = c; place = place_after before; replacement = false }; macros = scope.macros } ∷ [] else []) ++ words_from (before ++ c.bytes) scope parts)
      by_kind rest true is = (((is, piece), all), rest)
      by_kind rest false is = rest
source_spelled before scope text (Line lead pieces None ∷ parts) all (left, spelled, there, more) =
    source_spelled (before ++ part_bytes (Line lead pieces None)) scope left parts all more
source_spelled before scope text (Line lead pieces (Some d) ∷ parts) all (left, spelled, (start, blank, cut, line, is), more) =
    source_spelled (before ++ part_bytes (Line lead pieces (Some d))) (scope_behind before scope (Line lead pieces (Some d))) left parts
    (scope_stays scope (place_after (before ++ lead)) d (puts_pieces pieces d (cuts_are (bytes_of pieces ++ left) pieces left cut) is) all) more
source_spelled before scope text (Skipped bytes ∷ parts) all (left, spelled, there, more) = source_spelled (before ++ bytes) scope left parts all more

-- what comes of them when names are replaced
put_spelled : (place : Span) (cuts : List Cut) → AllByRecursion IsCut cuts → AllByRecursion IsSpelled (words_at place cuts)
put_spelled place [] all = tt
put_spelled place (c ∷ cuts) all = by_kind (put_spelled place cuts all.1) (is_word c.kind) refl where
  by_kind : AllByRecursion IsSpelled (words_at place cuts) → (b : Bool) → is_word c.kind ≡ b
      → AllByRecursion IsSpelled (if b then record { cut = c; place = place; replacement = true } ∷ words_at place cuts else words_at place cuts)
  by_kind rest true is = ((is, all.0.piece), rest)
  by_kind rest false is = rest

given_spelled : (macros : List Macro) (inside : List (List ℕ)) (words : List Placed) (items : List Item) → AllByRecursion OfPieces macros → Gives macros inside words items
    → AllByRecursion IsSpelled words → AllByRecursion (λ i. IsSpelled (word_of i)) items
given_spelled macros inside words items of_pieces (none inside') all = tt
given_spelled macros inside words items of_pieces (kept inside' w rest more no_macro gives) all = (all.0, given_spelled macros inside' rest more of_pieces gives all.1)
given_spelled macros inside words items of_pieces (replaced inside' w rest m inner more names own gives) all = (
  all.0,
  together (λ i. IsSpelled (word_of i)) inner more
      (given_spelled macros (m.name ∷ inside') (words_at w.place m.words) inner of_pieces own
      (put_spelled w.place m.words (macro_is macros w.cut.bytes m (named macros inside' w m names).1 of_pieces)))
      (given_spelled macros inside' rest more of_pieces gives all.1),
)

items_spelled : (words : List SourceWord) (items : List Item) → AreItems words items → AllByRecursion IsSource words → AllByRecursion (λ i. IsSpelled (word_of i)) items
items_spelled [] items are all = subst (AllByRecursion (λ i. IsSpelled (word_of i))) (sym are) tt
items_spelled (w ∷ words) items (own, rest, spelled, gives, are) all =
    subst (AllByRecursion (λ i. IsSpelled (word_of i))) (sym spelled) (together (λ i. IsSpelled (word_of i)) own rest
    (given_spelled w.macros [] (w.word ∷ []) own all.0.1 gives (all.0.0, tt)) (items_spelled words rest are all.1))

within_spelled : (most : ℕ) (items : List Item) → AllByRecursion (λ i. IsSpelled (word_of i)) items → AllByRecursion (λ i. IsSpelled (word_of i)) (within most items)
within_spelled most [] all = tt
within_spelled most (i ∷ items) all = by_test (within_spelled (most - weight i) items all.1) (nat_le (weight i) most) where
  by_test : AllByRecursion (λ j. IsSpelled (word_of j)) (within (most - weight i) items) → (b : Bool) → AllByRecursion (λ j. IsSpelled (word_of j)) (if b then i ∷ within (most - weight i) items else [])
  by_test rest true = (all.0, rest)
  by_test rest false = tt

-- names are no tokens
no_tokens : (group : List Item) (entries : List Entry) → tokens_among (names_among group ++ entries) ≡ tokens_among entries
no_tokens [] entries = refl
no_tokens (Word w ∷ group) entries = no_tokens group entries
no_tokens (Replaced name ∷ group) entries = no_tokens group entries

left_proper : (items : List Item) (entries : List Entry) → Leaves items entries → AllByRecursion (λ i. IsSpelled (word_of i)) items → AllByRecursion IsProper (tokens_among entries)
left_proper items entries a.none all = tt
left_proper items entries (a.name w rest more leaves) all = left_proper rest more leaves all.1
left_proper items entries (a.plain w rest more other leaves) all = ((kind_of_word w.cut.kind all.0.0 other, all.0.1), left_proper rest more leaves all.1)
left_proper items entries (a.named w group rest inside text more is_name is_group is_string leaves) all = (
  tt,
  subst (AllByRecursion IsProper) (sym (no_tokens group more)) (left_proper rest more leaves (all_behind (λ i. IsSpelled (word_of i)) group rest all.1)),
)
left_proper items entries (a.default_only w rest more is leaves) all = (tt, left_proper rest more leaves all.1)
left_proper items entries (a.table_only w rest more is leaves) all = (tt, left_proper rest more leaves all.1)
left_proper items entries (a.dropped w group rest inside more is no_string is_group leaves) all =
    subst (AllByRecursion IsProper) (sym (no_tokens group more)) (left_proper rest more leaves (all_behind (λ i. IsSpelled (word_of i)) group rest all.1))
left_proper items entries (a.dropped_alone w rest more is no_group leaves) all = left_proper rest more leaves all.1

proper : (text : List ℕ) (reading : Reading text) → AllByRecursion IsProper (tokens_among reading.entries)
proper text reading =
    left_proper (within MAX_WEIGHT reading.items) reading.entries reading.leaves
    (within_spelled MAX_WEIGHT reading.items
    (items_spelled (source_words reading.parts) reading.items reading.are_items (source_spelled [] outermost text reading.parts tt reading.are_parts)))

-- a text has tokens, or a refusal
pub tokens_or_refusal : (text : List ℕ) → ((tokens : Tokens) × HasTokens text tokens) ⊎ ((fault : Refusal) × IsRefused text fault)
tokens_or_refusal text =
    let reading = reading_there text in
    let become = all_become (tokens_among reading.entries) (proper text reading) [] in
    elim (faultless_or_decided text reading) [
      | inl faultless ↦ inl (record { tokens = become.0; end = place_after text }, record { reading = reading; faultless = faultless; become = become.1; ended = refl })
      | inr decided ↦ inr (decided.0, record { reading = reading; decides = decided.1 })
    ]
