-- What the calls below `testgen` do: the cases of its contract, before a status is a number.
use Rattle.std.specs.Prelude.{◌≡◌, ◌⊎◌, ℕ, List, Result, MatchResult}
use Rattle.tg_base.specs.declared.desk.DeskFault.{DeskFault}
use Rattle.tg_base.specs.declared.desk.Out.{Out}
use Rattle.tg_base.specs.Moment.{Moment}
use Rattle.p4_program.specs.declared.bounds.Bounds.{Bounds}
use Rattle.p4_program.specs.declared.program.Program.{Program}
use Rattle.testgen_engine.specs.declared.status.Status.{Status}
use Rattle.testgen_engine.specs.Endings.{Finishes, Misspells, Refuses, FailsToRead, IsCutShort}
use Rattle.testgen_engine.specs.Findings.{Findings, AreRight, IsUndecided, IsRightPrefix, text_of}
use Rattle.testgen_engine.specs.Outputs.{Adds}
use Rattle.testgen_engine.specs.Status.{status_of}

-- what was found of this program under these bounds is right and decided, and its texts were added
pub record Finds (before after : Moment) (b : Bounds) (p : Program) : Type 0 where
  pub findings : Findings
  pub bounds : findings.bounds ≡ b
  pub program : findings.program ≡ p
  pub right : AreRight findings
  pub decided : IsUndecided findings → ⊥
  pub texts : Adds before after (text_of findings)

-- prefixes of what was found so far were added
pub record IsCutFinding (before after : Moment) (b : Bounds) (p : Program) : Type 0 where
  pub taken : Out → List ℕ
  pub adds : Adds before after taken
  pub right : IsRightPrefix p b taken

-- a call that nothing cuts short ends in one of these ways
abbrev pub Ends : Moment → Moment → List (List ℕ) → ℕ → Type 0
Ends before after words status =
    Finishes before after words status ⊎ (Misspells before after words status
    ⊎ (Refuses before after words status ⊎ FailsToRead before after words status))

-- a call ended with a status, or was cut short
abbrev pub Ended : Moment → Moment → List (List ℕ) → Result Status DeskFault → Type 0
Ended before after words result =
    MatchResult result (λ status. Ends before after words (status_of status)) (λ _. IsCutShort before after words)
