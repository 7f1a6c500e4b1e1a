-- One part of a text read with what is wrong in it, and the faults of the parts that were read.
use Rattle.std.specs.Prelude.{◌≡◌, ℕ, ◌+◌, List, [], Option, take, drop}
use Rattle.tg_base.specs.declared.place.Span.{Span}
use Rattle.tg_base.specs.declared.place.Refusal.{Refusal}
use Rattle.p4_lexer.specs.declared.extents.Event.{Event}
use Rattle.p4_lexer.specs.declared.scope.ScopeAt.{ScopeAt}
use Rattle.p4_lexer.specs.Scope.{Scope, outermost}
use Rattle.p4_lexer.specs.PartSteps.{ReadsPart, Progress, IsRead}
use Rattle.p4_lexer.specs.Tokens.{text_of}
use Rattle.p4_lexer.specs.PartFaults.{FaultHere, FaultsOf}
use Rattle.p4_lexer.specs.Scanning.{IsFirstOf}

-- a part was read at a place, and this fault decides among those found in it
pub record ReadsFault (text : List ℕ) (at len : ℕ) (scope : Scope) (after : ScopeAt) (old new : List Event) (fault : Option Refusal) : Type 0 where
  pub reads : ReadsPart text at len scope after old new
  pub first : IsFirstOf (FaultHere (take at text) scope reads.part (drop (at + len) text)) fault

-- what is known in the midst of a text, and which fault decides among those of the parts that were read
pub record FaultProgress (text : List ℕ) (at : ℕ) (place : Span) (s : ScopeAt) (events : List Event) (fault : Option Refusal) : Type 0 where
  pub progress : Progress text at place s events
  pub bytes : text_of progress.read.parts ≡ take at text
  pub first : IsFirstOf (FaultsOf [] outermost progress.read.parts (drop at text)) fault

-- the whole text is read, and this fault decides among those found in its parts
pub record IsReadWith (text : List ℕ) (s : ScopeAt) (events : List Event) (fault : Option Refusal) : Type 0 where
  pub read : IsRead text s events
  pub first : IsFirstOf (FaultsOf [] outermost read.parts []) fault
