-- What reading answers.
use Rattle.std.specs.Prelude.{◌≡◌, ℕ, List, [], ◌∷◌, ◌++◌, Result, Ok, Err}
use Rattle.proof_stream.specs.declared.proof_fault.ProofFault.{ProofFault}
use Rattle.proof_stream.specs.declared.proof_fault.ProofFault.TheVariants.{Line, Memory}
use Rattle.proof_stream.specs.declared.draft.Draft.TheVariants.{Empty}
use Rattle.proof_stream.specs.declared.record.Record.{Record}
use Rattle.proof_stream.specs.Drafts.{read_from}
use Rattle.proof_stream.specs.Faults.{IsLineFault}

-- want of memory alone
abbrev pub IsMemory : ProofFault → Type 0
IsMemory (Line n) = ⊥
IsMemory (Memory e) = Unit {0}

-- the line of a fault is that of the text
abbrev pub IsFaultOf : List ℕ → ProofFault → Type 0
IsFaultOf text (Line n) = IsLineFault text n
IsFaultOf text (Memory e) = Unit {0}

-- what a function returned is this answer, unless memory ran out
abbrev pub Gives : Result Record ProofFault → Result Record ℕ → Type 0
Gives (Ok r) answer = answer ≡ Ok r
Gives (Err (Line n)) answer = answer ≡ Err n
Gives (Err (Memory e)) answer = Unit {0}

-- the answer for lines that were ended and what stands behind them
abbrev pub read_pieces : List (List ℕ) → List ℕ → Result Record ℕ
read_pieces pieces last = read_from 1 Empty (pieces ++ last ∷ [])
