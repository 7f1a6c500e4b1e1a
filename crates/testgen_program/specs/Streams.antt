-- What reaches the streams of the desk over real files, and what its reads move out of a file.
use Rattle.std.specs.Prelude.{◌≡◌, ◌≢◌, ℕ, ◌<◌, List, take, Option, Result, IfOk}
use Rattle.std.specs.Io.KnownBytes.{WriteAppends, Consumes, IsAtEnd}
use Rattle.tg_base.specs.declared.desk.DeskFault.{DeskFault}
use Rattle.tg_base.specs.declared.desk.Out.{Out}

-- A write to this output puts what it answers as taken onto the stream, where the stream tells what
-- it holds. A write to another output leaves the stream alone.
pub record Reaches (own out : Out) (old new : Option (List ℕ)) (result : Result ℕ DeskFault) (piece : List ℕ) : Type 0 where
  pub taken : out ≡ own → WriteAppends old new result piece
  pub others : out ≢ own → new ≡ old

-- The bytes that a read moved are the next ones of those that the file had left, where it tells them, and none are moved
-- only where none were left.
abbrev pub MovesOut : Option (List ℕ) → Result ℕ DeskFault → List ℕ → Type 0
MovesOut before result into =
    IfOk result (λ count. (rest : Option (List ℕ)) × Consumes before rest (take count into) × (count ≡ 0 → IsAtEnd before))
