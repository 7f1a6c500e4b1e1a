-- One part of a text, read by the code: where it stands, and what events tell of it.
use Rattle.std.specs.Prelude.{◌≡◌, ℕ, Bool, false, IsTrue, ◌+◌, ◌<◌, ◌≤◌, List, [], ◌++◌, length, take, drop, All}
use Rattle.p4_lexer.specs.declared.extents.Event.{Event}
use Rattle.p4_lexer.specs.declared.extents.Event.TheVariants.{Word as WordEvent, Define as DefineEvent, Undefine as UndefineEvent}
use Rattle.tg_base.specs.declared.place.Span.{Span}
use Rattle.p4_lexer.specs.declared.scope.ScopeAt.{ScopeAt}
use Rattle.p4_lexer.specs.Directives.{Directive}
use Rattle.p4_lexer.specs.Scope.{Scope, Macro, outermost, scope_after, belongs}
use Rattle.p4_lexer.specs.ScopeState.{StandsFor}
use Rattle.p4_lexer.specs.Parts.{Part, part_bytes, StandsThere, scope_behind, PartsFrom, AreParts}
use Rattle.p4_lexer.specs.SourceWords.{is_word, part_words, words_from, source_words}
use Rattle.p4_lexer.specs.Places.{place_after}
use Rattle.p4_lexer.specs.Tokens.{scope_of}
use Rattle.p4_lexer.specs.Extents.{IsIn, words_of}
use Rattle.p4_lexer.specs.DirectiveExtents.{IsPieceAt}

-- the part stands at a place of the text, with so many bytes
pub record PartAt (text : List ℕ) (at len : ℕ) (scope : Scope) (p : Part) : Type 0 where
  pub some : 0 < len
  pub within : at + len ≤ length text
  pub bytes : part_bytes p ≡ take len (drop at text)
  pub there : StandsThere (take at text) scope p (drop (at + len) text)

-- what an event names lies in the text: words that are pieces of their kinds, names, and the pieces put in their place
abbrev pub EventFits : List ℕ → Event → Type 0
EventFits text (WordEvent w) = IsPieceAt text w.piece × IsTrue (is_word w.piece.kind) × (w.replacement ≡ false)
EventFits text (DefineEvent name pieces) = IsIn text name × All (IsPieceAt text) pieces
EventFits text (UndefineEvent name) = IsIn text name

-- the events that were added tell the words of the part, and how it changes the macros
pub record Tells (text : List ℕ) (at : ℕ) (scope : Scope) (p : Part) (old new : List Event) : Type 0 where
  pub more : List Event
  pub added : new ≡ old ++ more
  pub fit : All (EventFits text) more
  pub words : (tail : List Event) → words_of text scope.macros (more ++ tail) ≡ part_words (take at text) scope p ++ words_of text (scope_behind (take at text) scope p).macros tail

-- The first bytes of the text are read: whatever parts stand behind them, with those that were read they are the parts of the text,
-- and the events tell their words.
pub record ReadTo (text : List ℕ) (at : ℕ) (scope : Scope) (events : List Event) : Type 0 where
  pub parts : List Part
  pub within : at ≤ length text
  pub into : (later : List Part) → PartsFrom (take at text) scope (drop at text) later → AreParts text (parts ++ later)
  pub told : (later : List Part) → words_from [] outermost (parts ++ later) ≡ words_of text [] events ++ words_from (take at text) scope later
  pub behind : (later : List Part) → scope_of [] outermost (parts ++ later) ≡ scope_of (take at text) scope later
  pub goes_on : (more : List Event) → words_of text [] (events ++ more) ≡ words_of text [] events ++ words_of text scope.macros more
  pub fit : All (EventFits text) events

-- the events that were added tell how macros changed
pub record TellsChange (text : List ℕ) (macros next : List Macro) (old new : List Event) : Type 0 where
  pub more : List Event
  pub added : new ≡ old ++ more
  pub fit : All (EventFits text) more
  pub words : (tail : List Event) → words_of text macros (more ++ tail) ≡ words_of text next tail

-- the directive at this place was obeyed where the scope was in force, and the answer tells whether it belongs there
pub record Obeys (text : List ℕ) (scope : Scope) (place : Span) (d : Directive) (after : ScopeAt) (old new : List Event) (answer : Bool) : Type 0 where
  pub answered : answer ≡ belongs scope d
  pub stands : StandsFor after (scope_after scope place d)
  pub told : TellsChange text scope.macros (scope_after scope place d).macros old new

-- a part was read at a place, with so many bytes: the record stands for what is in force behind it, and events tell of it
pub record ReadsPart (text : List ℕ) (at len : ℕ) (scope : Scope) (after : ScopeAt) (old new : List Event) : Type 0 where
  pub part : Part
  pub stood : PartAt text at len scope part
  pub told : Tells text at scope part old new
  pub stands : StandsFor after (scope_behind (take at text) scope part)

-- what is known in the midst of a text: what is in force, what was read, and the place
pub record Progress (text : List ℕ) (at : ℕ) (place : Span) (s : ScopeAt) (events : List Event) : Type 0 where
  pub scope : Scope
  pub stands : StandsFor s scope
  pub read : ReadTo text at scope events
  pub placed : place ≡ place_after (take at text)

-- the whole text is these parts: the events tell their words, and the record stands for what is in force behind them
pub record IsRead (text : List ℕ) (s : ScopeAt) (events : List Event) : Type 0 where
  pub parts : List Part
  pub are_parts : AreParts text parts
  pub words : words_of text [] events ≡ source_words parts
  pub fit : All (EventFits text) events
  pub scope : Scope
  pub stands : StandsFor s scope
  pub behind : scope_of [] outermost parts ≡ scope
