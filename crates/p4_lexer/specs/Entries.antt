-- The words and names among items by their extents, and what is known of entries by theirs.
use Rattle.std.specs.Prelude.{◌≡◌, ◌≢◌, ℕ, ◌≤◌, List, [], ◌∷◌, ◌++◌, length, drop, map, Contains, ◌⊎◌}
use Rattle.std.specs.List.{All}
use Rattle.p4_lexer.specs.declared.piece.Kind.TheVariants.{Annotation}
use Rattle.tg_base.specs.declared.place.Span.{Span}
use Rattle.p4_lexer.specs.declared.extents.Extent.{Extent}
use Rattle.p4_lexer.specs.declared.extents.WordAt.{WordAt}
use Rattle.p4_lexer.specs.declared.extents.Item.{Item as ItemAt}
use Rattle.p4_lexer.specs.declared.extents.Item.TheVariants.{Word as WordItem, Replaced as ReplacedItem}
use Rattle.p4_lexer.specs.declared.extents.Bare.TheVariants.{Plain as PlainAt, Named as NamedAt, DefaultOnly as DefaultOnlyAt, TableOnly as TableOnlyAt}
use Rattle.p4_lexer.specs.declared.extents.Entry.{Entry as EntryAt}
use Rattle.p4_lexer.specs.declared.extents.Entry.TheVariants.{Token as TokenAt, Name as NameAt}
use Rattle.p4_lexer.specs.SourceWords.{Placed}
use Rattle.p4_lexer.specs.Replacement.{Item, Word}
use Rattle.p4_lexer.specs.Annotations.{Entry, Leaves, IsString, IsGroup, NoGroup, words_among}
use Rattle.p4_lexer.specs.Extents.{IsIn, bytes_at, placed_at, item_at, entry_at}

-- the words that stay
abbrev pub words_in : List ItemAt → List WordAt
words_in [] = []
words_in (WordItem w ∷ items) = w ∷ words_in items
words_in (ReplacedItem name ∷ items) = words_in items

-- the names that were replaced, as they are counted
abbrev pub names_in : List ItemAt → List EntryAt
names_in [] = []
names_in (WordItem w ∷ items) = names_in items
names_in (ReplacedItem name ∷ items) = NameAt name.place ∷ names_in items

-- the bytes of an entry lie in the text
abbrev pub IsEntryIn : List ℕ → EntryAt → Type 0
IsEntryIn text (TokenAt (PlainAt w)) = IsIn text w.piece.extent
IsEntryIn text (TokenAt (NamedAt e place)) = IsIn text e
IsEntryIn text (TokenAt (DefaultOnlyAt place)) = Unit {0}
IsEntryIn text (TokenAt (TableOnlyAt place)) = Unit {0}
IsEntryIn text (NameAt place) = Unit {0}

-- a plain word is one of the items, and no annotation
abbrev pub IsWordOf : List ItemAt → EntryAt → Type 0
IsWordOf items (TokenAt (PlainAt w)) = Contains items (WordItem w) × (w.piece.kind ≢ Annotation)
IsWordOf items (TokenAt (NamedAt e place)) = Unit {0}
IsWordOf items (TokenAt (DefaultOnlyAt place)) = Unit {0}
IsWordOf items (TokenAt (TableOnlyAt place)) = Unit {0}
IsWordOf items (NameAt place) = Unit {0}

-- one string stands between the first and the last of the words
abbrev pub HoldsString : List Placed → List ℕ → Type 0
HoldsString words string = (first : Placed) × (w : Placed) × (last : Placed) × (words ≡ first ∷ w ∷ last ∷ []) × IsString (w ∷ []) string

-- `@name` and the group behind it are added: a token where the group holds one string, and the names in the group
abbrev pub AddsNamed : List ℕ → Span → List ItemAt → List EntryAt → List EntryAt → Type 0
AddsNamed text place group entries added =
    ((added ≡ entries ++ names_in group) × ((string : List ℕ) → HoldsString (words_among (map (item_at text) group)) string → ⊥))
    ⊎ ((e : Extent) × IsIn text e × HoldsString (words_among (map (item_at text) group)) (bytes_at text e) × (added ≡ entries ++ TokenAt (NamedAt e place) ∷ names_in group))

-- the items begin with this group, or it is empty and they begin with none
abbrev pub BeginWith : List ℕ → List Item → List ItemAt → Type 0
BeginWith text items [] = NoGroup items
BeginWith text items (i ∷ group) = (inside : List Placed) × (rest : List Item) × (items ≡ map (item_at text) (i ∷ group) ++ rest) × IsGroup (map (item_at text) (i ∷ group)) inside

-- A word and as many items of the group behind it leave the entries that are added, whatever those behind leave.
pub record Adds (text : List ℕ) (w : WordAt) (group : List ItemAt) (taken : ℕ) (entries added : List EntryAt) : Type 0 where
  pub more : List EntryAt
  pub spelled : added ≡ entries ++ more
  pub within : taken ≤ length group
  pub leaves : (items : List Item) → BeginWith text items group → (rest : List Entry) → Leaves (drop taken items) rest → Leaves (Word (placed_at text w) ∷ items) (map (entry_at text) more ++ rest)
  pub in_text : All (IsEntryIn text) more
  pub words : All (IsWordOf (WordItem w ∷ [])) more
