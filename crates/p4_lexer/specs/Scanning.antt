-- What each layer of a scan answers, as the layer behind it needs it.
use Rattle.std.specs.Prelude.{◌≡◌, ℕ, List, [], ◌∷◌, Option, Some, None, map}
use Rattle.tg_base.specs.declared.place.Span.{Span}
use Rattle.tg_base.specs.declared.place.Refusal.{Refusal}
use Rattle.tg_base.specs.Deciding.{IsDeciding}
use Rattle.p4_lexer.specs.declared.limits.TheConstants.{MAX_WEIGHT}
use Rattle.p4_lexer.specs.declared.extents.Event.{Event}
use Rattle.p4_lexer.specs.declared.extents.Item.{Item as ItemAt}
use Rattle.p4_lexer.specs.declared.extents.Bare.{Bare as BareAt}
use Rattle.std.specs.List.{All, AllByRecursion}
use Rattle.p4_lexer.specs.Parts.{Part, AreParts}
use Rattle.p4_lexer.specs.PartSteps.{EventFits}
use Rattle.p4_lexer.specs.SourceWords.{source_words}
use Rattle.p4_lexer.specs.Replacement.{Item, AreItems}
use Rattle.p4_lexer.specs.Marking.{IsBareOf, HasRoom}
use Rattle.p4_lexer.specs.Weight.{within}
use Rattle.p4_lexer.specs.Events.{IsNextPlace}
use Rattle.p4_lexer.specs.declared.extents.Entry.{Entry as EntryAt}
use Rattle.p4_lexer.specs.declared.extents.Entry.TheVariants.{Token as TokenAt, Name as NameAt}
use Rattle.p4_lexer.specs.Extents.{words_of, item_at, bare_at}
use Rattle.p4_lexer.specs.Tokens.{Reading, IsPartFault, IsFault, tokens_among}

-- the fault among these that decides, or none where there is none
abbrev pub IsFirstOf : (Refusal → Type 0) → Option Refusal → Type 0
IsFirstOf faults None = (r : Refusal) → faults r → ⊥
IsFirstOf faults (Some r) = IsDeciding faults r

-- the events are those of the parts of a text, and the fault is the one that decides among those of the parts
pub record IsSplit (text : List ℕ) (events : List Event) (fault : Option Refusal) : Type 0 where
  pub parts : List Part
  pub are_parts : AreParts text parts
  pub words : words_of text [] events ≡ source_words parts
  pub fit : All (EventFits text) events
  pub first : IsFirstOf (IsPartFault text parts) fault

-- the items are those of the events as far as the weight allows, and the place is that of the next
pub record IsReplaced (text : List ℕ) (events : List Event) (items : List ItemAt) (too_heavy : Option Span) : Type 0 where
  pub all : List Item
  pub are_items : AreItems (words_of text [] events) all
  pub within_limit : map (item_at text) items ≡ within MAX_WEIGHT all
  pub next : IsNextPlace all (within MAX_WEIGHT all) too_heavy

-- the tokens among what is counted
abbrev pub tokens_in : List EntryAt → List BareAt
tokens_in [] = []
tokens_in (TokenAt b ∷ entries) = b ∷ tokens_in entries
tokens_in (NameAt place ∷ entries) = tokens_in entries

-- a reading of the text has these tokens before they are marked, and this fault decides in it
pub record IsUnmarked (text : List ℕ) (bare : List BareAt) (fault : Option Refusal) : Type 0 where
  pub reading : Reading text
  pub tokens : map (bare_at text) bare ≡ tokens_among reading.entries
  pub are_bare : AllByRecursion (IsBareOf text) bare
  pub have_room : AllByRecursion HasRoom bare
  pub first : IsFirstOf (IsFault text reading) fault
