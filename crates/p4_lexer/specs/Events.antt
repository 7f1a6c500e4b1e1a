-- The pieces of events, and what the items of a source are where they weigh too much.
use Rattle.std.specs.Prelude.{◌≡◌, ℕ, List, [], ◌∷◌, ◌++◌, Option, Some, None, Contains}
use Rattle.std.specs.List.{All}
use Rattle.tg_base.specs.declared.place.Span.{Span}
use Rattle.p4_lexer.specs.declared.extents.PieceAt.{PieceAt}
use Rattle.p4_lexer.specs.declared.extents.Event.{Event}
use Rattle.p4_lexer.specs.declared.extents.Event.TheVariants.{Word, Define, Undefine}
use Rattle.p4_lexer.specs.Extents.{IsIn}
use Rattle.p4_lexer.specs.Replacement.{Item}
use Rattle.p4_lexer.specs.Weight.{word_of}

-- the extents of an event lie in the text
abbrev pub IsEventIn : List ℕ → Event → Type 0
IsEventIn text (Word w) = IsIn text w.piece.extent
IsEventIn text (Define name pieces) = IsIn text name × All (λ p. IsIn text p.extent) pieces
IsEventIn text (Undefine name) = IsIn text name

-- the pieces of an event
abbrev pub event_pieces : Event → List PieceAt
event_pieces (Word w) = w.piece ∷ []
event_pieces (Define name pieces) = pieces
event_pieces (Undefine name) = []

-- the piece is one of an event
abbrev pub IsPieceOf : List Event → PieceAt → Type 0
IsPieceOf events p = (e : Event) × Contains events e × Contains (event_pieces e) p

-- the place of the first item behind those that fit, and none where all fit
abbrev pub IsNextPlace : List Item → List Item → Option Span → Type 0
IsNextPlace all fitting None = all ≡ fitting
IsNextPlace all fitting (Some place) = (next : Item) × (more : List Item) × (all ≡ fitting ++ next ∷ more) × ((word_of next).place ≡ place)
