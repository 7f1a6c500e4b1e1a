-- The words that reach the marks are words, spelled as pieces of their kinds, at places of the text.
use Rattle.std.proofs.Common.{◌≡◌, ◌≢◌, ℕ, Bool, true, false, IsTrue, ◌+◌, ◌-◌, ◌^◌, ◌≤◌, ◌<◌, List, [], ◌∷◌, ◌++◌, length, map, Contains, refl, sym, ap, ◌∙◌, subst, arith, nat_le, length-append}
use Rattle.std.proofs.lemmas.List.Elements.{All-nil, All-cons, All-head, All-tail, All-contains, All-weaker, All-from_recursion}
use Rattle.std.proofs.lemmas.List.Sums.{suffix_len-le-length}
use Rattle.std.specs.Prelude.{if◌then◌else◌, not, ◌==◌}
use Rattle.p4_lexer.specs.Bytes.{line_feed}
use Rattle.std.specs.List.{All, AllByRecursion}
use Rattle.tg_base.specs.declared.place.Span.{Span}
use Rattle.p4_lexer.specs.declared.piece.Kind.{Kind}
use Rattle.p4_lexer.specs.declared.piece.Kind.TheVariants.{Blank, Comment, Name, Number, Text, Sign, Annotation, OpenComment, OpenText, Stray}
use Rattle.p4_lexer.specs.declared.extents.PieceAt.{PieceAt}
use Rattle.p4_lexer.specs.declared.extents.WordAt.{WordAt}
use Rattle.p4_lexer.specs.declared.extents.Event.{Event}
use Rattle.p4_lexer.specs.declared.extents.Event.TheVariants.{Word as WordEvent, Define, Undefine}
use Rattle.p4_lexer.specs.declared.extents.Item.{Item as ItemAt}
use Rattle.p4_lexer.specs.declared.extents.Item.TheVariants.{Word as WordItem, Replaced as ReplacedItem}
use Rattle.p4_lexer.specs.declared.extents.Bare.TheVariants.{Plain as PlainAt, Named as NamedAt, DefaultOnly as DefaultOnlyAt, TableOnly as TableOnlyAt}
use Rattle.p4_lexer.specs.declared.extents.Entry.{Entry as EntryAt}
use Rattle.p4_lexer.specs.declared.extents.Entry.TheVariants.{Token as TokenAt, Name as NameAt}
use Rattle.p4_lexer.specs.Cuts.{Cut}
use Rattle.p4_lexer.specs.Places.{place_after}
use Rattle.p4_lexer.specs.Pieces.{Begins}
use Rattle.p4_lexer.specs.Scope.{Scope, Macro}
use Rattle.p4_lexer.specs.Parts.{Part, Piece, Line, Skipped, part_bytes, scope_behind, PartsFrom}
use Rattle.p4_lexer.specs.SourceWords.{Placed, SourceWord, is_word, words_from}
use Rattle.p4_lexer.specs.Replacement.{Item, words_at, Gives, none, kept, replaced, AreItems}
use Rattle.p4_lexer.specs.Weight.{word_of, weight, within}
use Rattle.p4_lexer.specs.Extents.{IsIn, item_at}
use Rattle.p4_lexer.specs.Stack.{word_of_item}
use Rattle.p4_lexer.specs.Events.{IsEventIn, event_pieces, IsPieceOf}
use Rattle.p4_lexer.specs.Groups.{IsItemIn}
use Rattle.p4_lexer.specs.Entries.{IsEntryIn, IsWordOf}
use Rattle.p4_lexer.specs.DirectiveExtents.{IsPieceAt}
use Rattle.p4_lexer.specs.PartSteps.{EventFits}
use Rattle.p4_lexer.specs.BareWords.{IsWordKind}
use Rattle.p4_lexer.specs.Marking.{IsBareOf, HasRoom}
use Rattle.p4_lexer.specs.Scanning.{tokens_in}
use Rattle.p4_lexer.proofs.BeginsLemmas.{no_piece_of_none}
use Rattle.p4_lexer.proofs.LineLemmas.{some_bytes}

-- a word at a column of a text of n bytes
abbrev pub IsAt : ℕ → Placed → Type 0
IsAt n w = IsTrue (is_word w.cut.kind) × (w.place.column ≤ n)

words_at_place : (n : ℕ) (place : Span) (cuts : List Cut) → place.column ≤ n → AllByRecursion (IsAt n) (words_at place cuts)
words_at_place n place [] within_it = tt
words_at_place n place (c ∷ cuts) within_it = by_kind (words_at_place n place cuts within_it) (is_word c.kind) refl where
  by_kind : AllByRecursion (IsAt n) (words_at place cuts) → (b : Bool) → is_word c.kind ≡ b
      → AllByRecursion (IsAt n) (if b then record { cut = c; place = place; replacement = true } ∷ words_at place cuts else words_at place cuts)
  by_kind rest true is = ((is, within_it), rest)
  by_kind rest false is = rest

pub together : {X : Type 0} (P : X → Type 0) (xs ys : List X) → AllByRecursion P xs → AllByRecursion P ys → AllByRecursion P (xs ++ ys)
together P [] ys first second = second
together P (x ∷ xs) ys first second = (first.0, together P xs ys first.1 second)

gives_at : (n : ℕ) (macros : List Macro) (inside : List (List ℕ)) (words : List Placed) (items : List Item) → Gives macros inside words items
    → AllByRecursion (IsAt n) words → AllByRecursion (λ i. IsAt n (word_of i)) items
gives_at n macros inside words items (none inside') all = tt
gives_at n macros inside words items (kept inside' w rest more no_macro gives) all = (all.0, gives_at n macros inside' rest more gives all.1)
gives_at n macros inside words items (replaced inside' w rest m inner more named own gives) all = (
  all.0,
  together (λ i. IsAt n (word_of i)) inner more
      (gives_at n macros (m.name ∷ inside') (words_at w.place m.words) inner own (words_at_place n w.place m.words all.0.1))
      (gives_at n macros inside' rest more gives all.1),
)

pub items_at : (n : ℕ) (words : List SourceWord) (items : List Item) → AreItems words items
    → AllByRecursion (λ s. IsAt n s.word) words → AllByRecursion (λ i. IsAt n (word_of i)) items
items_at n [] items are all = subst (AllByRecursion (λ i. IsAt n (word_of i))) (sym are) tt
items_at n (w ∷ words) items (own, rest, spelled, gives, are) all =
    subst (AllByRecursion (λ i. IsAt n (word_of i))) (sym spelled) (together (λ i. IsAt n (word_of i)) own rest
    (gives_at n w.macros [] (w.word ∷ []) own gives (all.0, tt)) (items_at n words rest are all.1))

column_within : (before : List ℕ) → (place_after before).column ≤ 1 + length before
column_within before = omega (arith, suffix_len-le-length (λ c. not (c == line_feed)) before)

pub words_from_at : (n : ℕ) (before : List ℕ) (scope : Scope) (text : List ℕ) (parts : List Part) → length before + length text ≡ n → PartsFrom before scope text parts
    → AllByRecursion (λ s. IsAt n s.word) (words_from before scope parts)
words_from_at n before scope text [] total are = tt
words_from_at n before scope text (Piece c ∷ parts) total (left, spelled, there, more) =
    by_kind (words_from_at n (before ++ c.bytes) scope left parts (omega (arith, length-append before c.bytes, bytes, total)) more) (is_word c.kind) refl where
      bytes : length text ≡ length c.bytes + length left
      bytes = ap length spelled ∙ length-append c.bytes left

      by_left : (ls : List ℕ) → Begins ls c.kind 0 → 0 < 0
      by_left [] begins = absurd (no_piece_of_none c.kind 0 begins)
      by_left (l ∷ ls) begins = some_bytes (l ∷ ls) c.kind 0 (omega arith) begins

      some : (bs : List ℕ) → Begins (bs ++ left) c.kind (length bs) → 0 < length bs
      some [] begins = by_left left begins
      some (b ∷ bs) begins = omega arith

      by_kind : AllByRecursion (λ s. IsAt n s.word) (words_from (before ++ c.bytes) scope parts) → (b : Bool) → is_word c.kind ≡ b → AllByRecursion (λ s. IsAt n s.word)
          ((if b then record { word = record { cut = c; place = place_after before; replacement = false }; macros = scope.macros } ∷ [] else []) ++ words_from (before ++ c.bytes) scope parts)
      by_kind rest true is = ((is, omega (arith, column_within before, some c.bytes there.2, bytes, total)), rest)
      by_kind rest false is = rest
words_from_at n before scope text (Line lead pieces d ∷ parts) total (left, spelled, there, more) =
    words_from_at n (before ++ part_bytes (Line lead pieces d)) (scope_behind before scope (Line lead pieces d)) left parts
    (omega (arith, length-append before (part_bytes (Line lead pieces d)), ap length spelled ∙ length-append (part_bytes (Line lead pieces d)) left, total)) more
words_from_at n before scope text (Skipped bytes ∷ parts) total (left, spelled, there, more) =
    words_from_at n (before ++ bytes) scope left parts (omega (arith, length-append before bytes, ap length spelled ∙ length-append bytes left, total)) more

pub within_at : (n most : ℕ) (items : List Item) → AllByRecursion (λ i. IsAt n (word_of i)) items → AllByRecursion (λ i. IsAt n (word_of i)) (within most items)
within_at n most [] all = tt
within_at n most (i ∷ items) all = by_test (within_at n (most - weight i) items all.1) (nat_le (weight i) most) where
  by_test : AllByRecursion (λ j. IsAt n (word_of j)) (within (most - weight i) items) → (b : Bool) → AllByRecursion (λ i. IsAt n (word_of i)) (if b then i ∷ within (most - weight i) items else [])
  by_test rest true = (all.0, rest)
  by_test rest false = tt

of_map : {X Y : Type 0} (f : X → Y) (P : Y → Type 0) (xs : List X) → AllByRecursion P (map f xs) → AllByRecursion (λ x. P (f x)) xs
of_map f P [] all = tt
of_map f P (x ∷ xs) all = (all.0, of_map f P xs all.1)

-- the items of a text are words at its columns
pub items_of_text : (text : List ℕ) (n : ℕ) (all : List Item) (most : ℕ) (items : List ItemAt) → map (item_at text) items ≡ within most all
    → AllByRecursion (λ i. IsAt n (word_of i)) all → All (λ i. IsAt n (word_of (item_at text i))) items
items_of_text text n all most items same at =
    All-from_recursion (λ i. IsAt n (word_of (item_at text i))) items
    (of_map (item_at text) (λ i. IsAt n (word_of i)) items (subst (AllByRecursion (λ i. IsAt n (word_of i))) (sym same) (within_at n most all at)))

pub kind_of_word : (k : Kind) → IsTrue (is_word k) → k ≢ Annotation → IsWordKind k
kind_of_word Name is other = tt
kind_of_word Number is other = tt
kind_of_word Text is other = tt
kind_of_word Sign is other = tt
kind_of_word Annotation is other = absurd (other refl)
kind_of_word Blank is other = absurd (cc)
kind_of_word Comment is other = absurd (cc)
kind_of_word OpenComment is other = absurd (cc)
kind_of_word OpenText is other = absurd (cc)
kind_of_word Stray is other = absurd (cc)

-- a piece of events that fit is a piece of the text
piece_of_event : (text : List ℕ) (p : PieceAt) (e : Event) → EventFits text e → Contains (event_pieces e) p → IsPieceAt text p
piece_of_event text p (WordEvent w) fits has = All-contains (IsPieceAt text) (w.piece ∷ []) p (All-cons (IsPieceAt text) w.piece [] fits.0 (All-nil (IsPieceAt text))) has
piece_of_event text p (Define name pieces) fits has = All-contains (IsPieceAt text) pieces p fits.1 has
piece_of_event text p (Undefine name) fits has = All-contains (IsPieceAt text) [] p (All-nil (IsPieceAt text)) has

event_in : (text : List ℕ) (e : Event) → EventFits text e → IsEventIn text e
event_in text (WordEvent w) fits = fits.0.within
event_in text (Define name pieces) fits = (fits.0, All-weaker (IsPieceAt text) (λ p. IsIn text p.extent) (λ p is. is.within) pieces fits.1)
event_in text (Undefine name) fits = fits

pub events_in : (text : List ℕ) (events : List Event) → All (EventFits text) events → All (IsEventIn text) events
events_in text events fit = All-weaker (EventFits text) (IsEventIn text) (event_in text) events fit

item_in : (text : List ℕ) (i : ItemAt) → IsIn text (word_of_item i).piece.extent → IsItemIn text i
item_in text (WordItem w) within_it = within_it
item_in text (ReplacedItem w) within_it = tt

pub items_in : (text : List ℕ) (items : List ItemAt) → All (λ i. IsIn text (word_of_item i).piece.extent) items → All (IsItemIn text) items
items_in text items all = All-weaker (λ i. IsIn text (word_of_item i).piece.extent) (IsItemIn text) (item_in text) items all

module _ (text : List ℕ) (n : ℕ) (small : n + 1 < 2 ^ 32) (events : List Event) (fit : All (EventFits text) events) (items : List ItemAt)
    (pieces : All (λ i. IsPieceOf events (word_of_item i).piece) items) (at : All (λ i. IsAt n (word_of (item_at text i))) items)
  where
    plain_is : (w : WordAt) → IsIn text w.piece.extent → IsWordOf items (TokenAt (PlainAt w)) → IsBareOf text (PlainAt w) × HasRoom (PlainAt w)
    plain_is w within_it word =
        let stands = All-contains (λ i. IsAt n (word_of (item_at text i))) items (WordItem w) at word.0 in
        let of_event = All-contains (λ i. IsPieceOf events (word_of_item i).piece) items (WordItem w) pieces word.0 in
        let is = piece_of_event text w.piece of_event.0 (All-contains (EventFits text) events of_event.0 fit of_event.1) of_event.2 in
        ((within_it, (kind_of_word w.piece.kind stands.0 word.1, is.piece)), omega (arith, stands.1, small))

    pub bare_are : (entries : List EntryAt) → All (IsEntryIn text) entries → All (IsWordOf items) entries
        → AllByRecursion (IsBareOf text) (tokens_in entries) × AllByRecursion HasRoom (tokens_in entries)
    bare_are [] within_it words = (tt, tt)
    bare_are (TokenAt (PlainAt w) ∷ entries) within_it words =
        let more = bare_are entries (All-tail (IsEntryIn text) (TokenAt (PlainAt w)) entries within_it) (All-tail (IsWordOf items) (TokenAt (PlainAt w)) entries words) in
        let is = plain_is w (All-head (IsEntryIn text) (TokenAt (PlainAt w)) entries within_it) (All-head (IsWordOf items) (TokenAt (PlainAt w)) entries words) in
        ((is.0, more.0), (is.1, more.1))
    bare_are (TokenAt (NamedAt e place) ∷ entries) within_it words =
        let more = bare_are entries (All-tail (IsEntryIn text) (TokenAt (NamedAt e place)) entries within_it) (All-tail (IsWordOf items) (TokenAt (NamedAt e place)) entries words) in
        ((All-head (IsEntryIn text) (TokenAt (NamedAt e place)) entries within_it, more.0), (tt, more.1))
    bare_are (TokenAt (DefaultOnlyAt place) ∷ entries) within_it words =
        let more = bare_are entries (All-tail (IsEntryIn text) (TokenAt (DefaultOnlyAt place)) entries within_it) (All-tail (IsWordOf items) (TokenAt (DefaultOnlyAt place)) entries words) in
        ((tt, more.0), (tt, more.1))
    bare_are (TokenAt (TableOnlyAt place) ∷ entries) within_it words =
        let more = bare_are entries (All-tail (IsEntryIn text) (TokenAt (TableOnlyAt place)) entries within_it) (All-tail (IsWordOf items) (TokenAt (TableOnlyAt place)) entries words) in
        ((tt, more.0), (tt, more.1))
    bare_are (NameAt place ∷ entries) within_it words =
        bare_are entries (All-tail (IsEntryIn text) (NameAt place) entries within_it) (All-tail (IsWordOf items) (NameAt place) entries words)
