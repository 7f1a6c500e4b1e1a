-- What a desk is at a moment: what it holds where it tells, and what has passed through it, which it always tells.
use Rattle.std.specs.Prelude.{◌≡◌, ℕ, Bool, true, false, List, [], ◌∷◌, ◌++◌, All, Option, None, Some, IfSome, IsTrue}
use Rattle.tg_base.specs.declared.desk.Out.{Out}

-- A file that was opened: its name, the bytes that reads have moved out of it so far, and whether one met its end.
pub record Opened : Type 0 where
  pub name : List ℕ
  pub moved : List ℕ
  pub ended : Bool

-- An output: the bytes that writes have answered as taken so far and, where the desk tells, all that it holds.
pub record Output : Type 0 where
  pub taken : List ℕ
  pub holds : Option (List ℕ)

pub record Moment : Type 0 where
  -- the bytes of the file of each name, where the desk tells
  pub files : Option (List ℕ → Option (List ℕ))
  -- the names that `open` was given, and the files that it opened, in order
  pub asked : List (List ℕ)
  pub opened : List Opened
  -- a file is open, and neither its end nor a fault was met since
  pub readable : Bool
  pub outputs : Out → Output
  -- how many opens and reads met a fault, and how many writes
  pub read_faults : ℕ
  pub write_faults : ℕ

-- a file as it was just opened
abbrev pub just_opened : List ℕ → Opened
just_opened name = record { name = name; moved = []; ended = false }

-- nothing was moved, which happens at the end alone
abbrev pub is_end : List ℕ → Bool
is_end [] = true
is_end (byte ∷ bytes) = false

-- an opened file after a read that moved these bytes
abbrev pub file_after : Opened → List ℕ → Opened
file_after file bytes = record { name = file.name; moved = file.moved ++ bytes; ended = is_end bytes }

-- the opened files after a read from the last of them
abbrev pub after_read : List Opened → List ℕ → List Opened
after_read [] bytes = []
after_read (file ∷ []) bytes = file_after file bytes ∷ []
after_read (file ∷ (next ∷ later)) bytes = file ∷ after_read (next ∷ later) bytes

-- what an output holds with more bytes at its end, where that is told
abbrev pub with_piece : Option (List ℕ) → List ℕ → Option (List ℕ)
with_piece None piece = None
with_piece (Some bytes) piece = Some (bytes ++ piece)

-- an output after writes that took these bytes
abbrev pub output_after : Output → List ℕ → Output
output_after output text = record { taken = output.taken ++ text; holds = with_piece output.holds text }

-- What was moved out of a file are the first bytes of the file of its name, and all of them where its end was met.
pub record IsOfFile (files : List ℕ → Option (List ℕ)) (file : Opened) : Type 0 where
  pub rest : List ℕ
  pub bytes : files file.name ≡ Some (file.moved ++ rest)
  pub end : IsTrue file.ended → rest ≡ []

-- where the desk tells its files, each opened file is one of them
abbrev pub TellsTruly : Moment → Type 0
TellsTruly m = IfSome m.files (λ files. All (IsOfFile files) m.opened)

-- What a write leaves as it was: the files, what was asked for and read, and the count of read faults.
pub record KeepsReading (before after : Moment) : Type 0 where
  pub files : after.files ≡ before.files
  pub asked : after.asked ≡ before.asked
  pub opened : after.opened ≡ before.opened
  pub readable : after.readable ≡ before.readable
  pub read_faults : after.read_faults ≡ before.read_faults

-- What a read leaves as it was: the files, the outputs, and the count of write faults.
pub record KeepsWriting (before after : Moment) : Type 0 where
  pub files : after.files ≡ before.files
  pub outputs : (out : Out) → after.outputs out ≡ before.outputs out
  pub write_faults : after.write_faults ≡ before.write_faults
