-- What the code's extents stand for in a source: pieces, words, items and entries with their bytes.
use Rattle.std.specs.Prelude.{◌+◌, ◌≤◌, ℕ, List, [], ◌∷◌, length, take, drop, map}
use Rattle.p4_lexer.specs.declared.extents.Extent.{Extent}
use Rattle.p4_lexer.specs.declared.extents.PieceAt.{PieceAt}
use Rattle.p4_lexer.specs.declared.extents.WordAt.{WordAt}
use Rattle.p4_lexer.specs.declared.extents.Event.{Event}
use Rattle.p4_lexer.specs.declared.extents.Event.TheVariants.{Word as WordEvent, Define, Undefine}
use Rattle.p4_lexer.specs.declared.extents.Item.{Item as ItemAt}
use Rattle.p4_lexer.specs.declared.extents.Item.TheVariants.{Word as WordItem, Replaced as ReplacedItem}
use Rattle.p4_lexer.specs.declared.extents.Bare.{Bare as BareAt}
use Rattle.p4_lexer.specs.declared.extents.Bare.TheVariants.{Plain as PlainAt, Named as NamedAt, DefaultOnly as DefaultOnlyAt, TableOnly as TableOnlyAt}
use Rattle.p4_lexer.specs.declared.extents.Entry.{Entry as EntryAt}
use Rattle.p4_lexer.specs.declared.extents.Entry.TheVariants.{Token as TokenAt, Name as NameAt}
use Rattle.p4_lexer.specs.Cuts.{Cut}
use Rattle.p4_lexer.specs.Scope.{Macro, without}
use Rattle.p4_lexer.specs.SourceWords.{Placed, SourceWord}
use Rattle.p4_lexer.specs.Replacement.{Item, Word, Replaced}
use Rattle.p4_lexer.specs.Annotations.{Bare, Plain, Named, DefaultOnly, TableOnly, Entry, Token, Name}

-- the bytes of an extent
abbrev pub bytes_at : List ℕ → Extent → List ℕ
bytes_at text e = take e.len (drop e.at text)

-- the extent lies in the text
abbrev pub IsIn : List ℕ → Extent → Type 0
IsIn text e = e.at + e.len ≤ length text

abbrev pub cut_at : List ℕ → PieceAt → Cut
cut_at text p = record { kind = p.kind; bytes = bytes_at text p.extent }

abbrev pub placed_at : List ℕ → WordAt → Placed
placed_at text w = record { cut = cut_at text w.piece; place = w.place; replacement = w.replacement }

abbrev pub item_at : List ℕ → ItemAt → Item
item_at text (WordItem w) = Word (placed_at text w)
item_at text (ReplacedItem w) = Replaced (placed_at text w)

abbrev pub bare_at : List ℕ → BareAt → Bare
bare_at text (PlainAt w) = Plain (placed_at text w)
bare_at text (NamedAt e place) = Named (bytes_at text e) place
bare_at text (DefaultOnlyAt place) = DefaultOnly place
bare_at text (TableOnlyAt place) = TableOnly place

abbrev pub entry_at : List ℕ → EntryAt → Entry
entry_at text (TokenAt b) = Token (bare_at text b)
entry_at text (NameAt place) = Name place

-- the words of events in their order, each with the macros in force there, where these are in force before
abbrev pub words_of : List ℕ → List Macro → List Event → List SourceWord
words_of text macros [] = []
words_of text macros (WordEvent w ∷ events) = record { word = placed_at text w; macros = macros } ∷ words_of text macros events
words_of text macros (Define name pieces ∷ events) = words_of text (record { name = bytes_at text name; words = map (cut_at text) pieces } ∷ without macros (bytes_at text name)) events
words_of text macros (Undefine name ∷ events) = words_of text (without macros (bytes_at text name)) events
