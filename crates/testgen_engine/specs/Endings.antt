-- How a call of the generator may end: what it read, and what it added to the outputs.
use Rattle.std.specs.Prelude.{◌≡◌, ◌↔◌, ◌⊎◌, ℕ, Bool, true, IsTrue, List, [], ◌++◌, Some, IsSomeAnd}
use Rattle.tg_base.specs.Faults.{Rose}
use Rattle.tg_base.specs.Moment.{Moment, KeepsReading}
use Rattle.tg_base.specs.declared.desk.Out.{Out}
use Rattle.tg_base.specs.declared.desk.Out.TheVariants.{Notes}
use Rattle.tg_base.specs.declared.place.Refusal.{Refusal}
use Rattle.p4_program.specs.declared.bounds.Bounds.{Bounds}
use Rattle.p4_program.specs.declared.program.Program.{Program}
use Rattle.testgen_engine.specs.declared.status.TheConstants.{DONE, WRONG_WORDS, REFUSED, UNDECIDED, READ_FAULT, OUT_OF_MEMORY}
use Rattle.testgen_engine.specs.Findings.{Findings, AreRight, IsUndecided, IsRightPrefix, text_of}
use Rattle.testgen_engine.specs.Notes.{usage_note, read_fault_note, refusal_note}
use Rattle.testgen_engine.specs.Outputs.{Adds, ArePrefixes, only}
use Rattle.testgen_engine.specs.Skeleton.{StandsFor, IsRefused}
use Rattle.testgen_engine.specs.Source.{HasRead, FailsReading}
use Rattle.testgen_engine.specs.Words.{AsksGen, AsksNothing}

-- the source that the words ask for was read to its end, and stands for this program
pub record ReadsProgram (before after : Moment) (words : List (List ℕ)) (b : Bounds) (p : Program) : Type 0 where
  pub name : List ℕ
  pub asks : AsksGen words name b
  pub bytes : List ℕ
  pub read : HasRead before after name bytes true
  pub program : StandsFor bytes p

-- The source that the words ask for was read, and is refused: where its end was not met, however it goes on.
pub record ReadsRefused (before after : Moment) (words : List (List ℕ)) (refusal : Refusal) : Type 0 where
  pub name : List ℕ
  pub bounds : Bounds
  pub asks : AsksGen words name bounds
  pub bytes : List ℕ
  pub ended : Bool
  pub read : HasRead before after name bytes ended
  pub refused : (rest : List ℕ) → (IsTrue ended → rest ≡ []) → IsRefused (bytes ++ rest) refusal

-- an open or a read of the source that the words ask for failed, and the desk has counted it
pub record MeetsFault (before after : Moment) (words : List (List ℕ)) : Type 0 where
  pub name : List ℕ
  pub bounds : Bounds
  pub asks : AsksGen words name bounds
  pub read : FailsReading before after name
  pub rose : Rose before.read_faults after.read_faults

-- The headline. The source that the words ask for stands for the program of what was found, what was found is right,
-- and its texts, no more, were added to the outputs.
pub record Finishes (before after : Moment) (words : List (List ℕ)) (status : ℕ) : Type 0 where
  pub ended : (status ≡ DONE) ⊎ (status ≡ UNDECIDED)
  pub findings : Findings
  pub source : ReadsProgram before after words findings.bounds findings.program
  pub right : AreRight findings
  pub undecided : (status ≡ UNDECIDED) ↔ IsUndecided findings
  pub texts : Adds before after (text_of findings)

-- the words ask for nothing, nothing is read, and the usage is told
pub record Misspells (before after : Moment) (words : List (List ℕ)) (status : ℕ) : Type 0 where
  pub ended : status ≡ WRONG_WORDS
  pub asks : AsksNothing words
  pub stays : KeepsReading before after
  pub texts : Adds before after (only Notes usage_note)

-- the source is refused, and the refusal is told
pub record Refuses (before after : Moment) (words : List (List ℕ)) (status : ℕ) : Type 0 where
  pub ended : status ≡ REFUSED
  pub refusal : Refusal
  pub source : ReadsRefused before after words refusal
  pub texts : Adds before after (only Notes (refusal_note refusal))

-- the source could not be read, and that is told
pub record FailsToRead (before after : Moment) (words : List (List ℕ)) (status : ℕ) : Type 0 where
  pub ended : status ≡ READ_FAULT
  pub source : MeetsFault before after words
  pub texts : Adds before after (only Notes read_fault_note)

-- What the outputs may have taken of a call that is cut short: nothing, or prefixes of what the words and what was
-- read allow.
pub data MayTake (before after : Moment) (words : List (List ℕ)) (taken : Out → List ℕ) : Type 0 where
  nothing : ((out : Out) → taken out ≡ []) → MayTake before after words taken
  usage : AsksNothing words → ArePrefixes taken (only Notes usage_note) → MayTake before after words taken
  note : (refusal : Refusal) → ReadsRefused before after words refusal → ArePrefixes taken (only Notes (refusal_note refusal)) → MayTake before after words taken
  fault : MeetsFault before after words → ArePrefixes taken (only Notes read_fault_note) → MayTake before after words taken
  findings : (b : Bounds) (p : Program) → ReadsProgram before after words b p → IsRightPrefix p b taken → MayTake before after words taken

-- a call that a write fault or want of memory has cut short
pub record IsCutShort (before after : Moment) (words : List (List ℕ)) : Type 0 where
  pub taken : Out → List ℕ
  pub adds : Adds before after taken
  pub allowed : MayTake before after words taken

-- the file of this name has these bytes: the desk tells so, or they were moved out of it up to its end
abbrev pub HasSource : Moment → Moment → List ℕ → List ℕ → Type 0
HasSource before after name bytes = IsSomeAnd before.files (λ files. files name ≡ Some bytes) ⊎ HasRead before after name bytes true

-- no fault was counted
pub record CountsNoFault (before after : Moment) : Type 0 where
  pub reads : Rose before.read_faults after.read_faults → ⊥
  pub writes : Rose before.write_faults after.write_faults → ⊥

-- Completeness. Without a fault, a source that stands for a program is finished, unless memory runs out.
abbrev pub Completes : Moment → Moment → List (List ℕ) → ℕ → Type 0
Completes before after words status = (name bytes : List ℕ) (b : Bounds) (p : Program) → AsksGen words name b
    → HasSource before after name bytes → StandsFor bytes p → CountsNoFault before after
    → (status ≡ DONE) ⊎ ((status ≡ UNDECIDED) ⊎ (status ≡ OUT_OF_MEMORY))

-- And a source that is refused is told so.
abbrev pub RefusesWhole : Moment → Moment → List (List ℕ) → ℕ → Type 0
RefusesWhole before after words status = (name bytes : List ℕ) (b : Bounds) (refusal : Refusal) → AsksGen words name b
    → HasSource before after name bytes → IsRefused bytes refusal → CountsNoFault before after
    → (status ≡ REFUSED) ⊎ (status ≡ OUT_OF_MEMORY)
