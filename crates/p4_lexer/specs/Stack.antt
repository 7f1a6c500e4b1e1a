-- Where the replacement of a word stands: the macros inside whose replacement it is, and the words that each has left.
use Rattle.std.specs.Prelude.{◌≡◌, ◌+◌, ◌*◌, ◌<◌, ℕ, Bool, true, false, List, [], ◌∷◌, ◌++◌, length, map, drop, reverse, Some, slice_get}
use Rattle.std.specs.List.{list_any, All}
use Rattle.std.specs.Str.{bytes_eq}
use Rattle.tg_base.specs.declared.place.Span.{Span}
use Rattle.p4_lexer.specs.declared.extents.PieceAt.{PieceAt}
use Rattle.p4_lexer.specs.declared.extents.WordAt.{WordAt}
use Rattle.p4_lexer.specs.declared.extents.Item.{Item as ItemAt}
use Rattle.p4_lexer.specs.declared.extents.Item.TheVariants.{Word as WordItem, Replaced as ReplacedItem}
use Rattle.p4_lexer.specs.declared.macro_table.MacroTable.{MacroTable}
use Rattle.p4_lexer.specs.declared.replacing.Frame.{Frame}
use Rattle.p4_lexer.specs.declared.replacing.Replacing.{Replacing}
use Rattle.p4_lexer.specs.Extents.{IsIn, placed_at, item_at}
use Rattle.p4_lexer.specs.MacroTable.{name_of_number, words_of_number, number_of}
use Rattle.p4_lexer.specs.Scope.{Macro}
use Rattle.p4_lexer.specs.SourceWords.{Placed}
use Rattle.p4_lexer.specs.Replacement.{Item, Gives}

-- the names of the macros of frames
abbrev pub names : MacroTable → List Frame → List (List ℕ)
names t frames = map (λ f. name_of_number t f.number) frames

-- a piece as a word of the replacement of a name that stands at this place
abbrev pub inside_word : Span → PieceAt → WordAt
inside_word place p = record { piece = p; place = place; replacement = true }

-- the words that a frame has left
abbrev pub words_left : MacroTable → Span → Frame → List Placed
words_left t place f = map (λ p. placed_at t.text.now (inside_word place p)) (drop f.next (words_of_number t f.number))

-- what the words left in frames give, the innermost frame first
abbrev pub FramesGive : MacroTable → List Macro → Span → List Frame → List Item → Type 0
FramesGive t macros place [] items = items ≡ []
FramesGive t macros place (f ∷ outer) items =
    (first : List Item)
    × (rest : List Item)
    × (items ≡ first ++ rest)
    × Gives macros (names t (f ∷ outer)) (words_left t place f) first
    × FramesGive t macros place outer rest

-- what a word gives that stands in the innermost frame, and then the words left
abbrev pub WordGives : MacroTable → List Macro → List Frame → WordAt → List Item → Type 0
WordGives t macros frames w items =
    (first : List Item)
    × (rest : List Item)
    × (items ≡ first ++ rest)
    × Gives macros (names t frames) (placed_at t.text.now w ∷ []) first
    × FramesGive t macros w.place frames rest

-- the macro of each frame is in force, and no frame outside it is of the same name
abbrev pub AreFrames : MacroTable → List Frame → Type 0
AreFrames t [] = Unit {0}
AreFrames t (f ∷ outer) =
    (number_of t (name_of_number t f.number) ≡ Some f.number)
    × (list_any (bytes_eq (name_of_number t f.number)) (names t outer) ≡ false)
    × AreFrames t outer

-- of the macros in force, those of the frames are marked and no others
abbrev pub AreMarks : MacroTable → List Bool → List Frame → Type 0
AreMarks t marks frames = (name : List ℕ) (n : ℕ) → number_of t name ≡ Some n → slice_get marks n ≡ Some (list_any (bytes_eq name) (names t frames))

-- the word of an item
abbrev pub word_of_item : ItemAt → WordAt
word_of_item (WordItem w) = w
word_of_item (ReplacedItem w) = w

-- what an item weighs, by the length of its extent
abbrev pub weight_at : ItemAt → ℕ
weight_at i = 16 + (word_of_item i).piece.extent.len

-- what items weigh together, by their extents
abbrev pub total_at : List ItemAt → ℕ
total_at [] = 0
total_at (i ∷ items) = weight_at i + total_at items

-- items were added, with pieces of which this holds
abbrev pub Adds : (PieceAt → Type 0) → List ItemAt → List ItemAt → Type 0
Adds P old new = (given : List ItemAt) × (new ≡ old ++ given) × All (λ i. P (word_of_item i).piece) given

-- Items came that fit, and with whatever the frames give behind them they are the whole.
pub record Reaches (t : MacroTable) (macros : List Macro) (place : Span) (Whole : List Item → Type 0) (old new : Replacing) : Type 0 where
  pub given : List ItemAt
  pub items : new.items ≡ old.items ++ given
  pub left : new.left + total_at given ≡ old.left
  pub frames : AreFrames t (reverse new.frames)
  pub marks : AreMarks t new.marks (reverse new.frames)
  pub goes : (more : List Item) → FramesGive t macros place (reverse new.frames) more → Whole (map (item_at t.text.now) given ++ more)

-- Items came that fit, and behind them in the whole stands one that does not.
pub record Overfills (t : MacroTable) (place : Span) (Whole : List Item → Type 0) (old new : Replacing) : Type 0 where
  pub given : List ItemAt
  pub item : ItemAt
  pub more : List Item
  pub items : new.items ≡ old.items ++ given
  pub left : new.left + total_at given ≡ old.left
  pub heavy : new.left < weight_at item
  pub within : IsIn t.text.now (word_of_item item).piece.extent
  pub there : (word_of_item item).place ≡ place
  pub goes : Whole (map (item_at t.text.now) given ++ item_at t.text.now item ∷ more)

-- how many steps can follow: each takes weight, or a frame
abbrev pub steps_left : Replacing → ℕ
steps_left s = 2 * s.left + length s.frames
