-- The status of the process: one that the generator answered.
use Rattle.std.specs.Prelude.{◌≡◌, ◌⊎◌, ◌≤◌, ℕ, List, []}
use Rattle.tg_base.specs.declared.desk.Out.{Out}
use Rattle.tg_base.specs.Faults.{Rose}
use Rattle.tg_base.specs.Moment.{Moment}
use Rattle.testgen_engine.specs.Endings.{Finishes, Misspells, Refuses, FailsToRead}
use Rattle.testgen_engine.specs.declared.status.TheConstants.{DONE, WRONG_WORDS, REFUSED, UNDECIDED, READ_FAULT, WRITE_FAULT, OUT_OF_MEMORY}

-- For some words and some desk, through which nothing had passed before the call, this is a status that the call may answer. Which words
-- those are no contract can say, since the kit's command line says nothing of its words.
pub record Answers (status : ℕ) : Type 0 where
  pub words : List (List ℕ)
  pub before : Moment
  pub after : Moment
  pub opened : before.opened ≡ []
  pub taken : (out : Out) → (before.outputs out).taken ≡ []
  pub known : status ≤ OUT_OF_MEMORY
  pub finished : (status ≡ DONE) ⊎ (status ≡ UNDECIDED) → Finishes before after words status
  pub misspelled : status ≡ WRONG_WORDS → Misspells before after words status
  pub refused : status ≡ REFUSED → Refuses before after words status
  pub unread : status ≡ READ_FAULT → FailsToRead before after words status
  pub unwritten : status ≡ WRITE_FAULT → Rose before.write_faults after.write_faults
