-- The line at which a text can no longer become that of a record.
use Rattle.std.specs.Prelude.{◌≡◌, ◌<◌, ◌==◌, ℕ, List, [], ◌∷◌, length, take, if◌then◌else◌}
use Rattle.std.specs.List.{slice_split}
use Rattle.proof_stream.specs.declared.record.Record.{Record}
use Rattle.proof_stream.specs.Spelling.{line_feed, ended}
use Rattle.proof_stream.specs.Valid.{IsReading}

-- the pieces between line feeds as lines: each but the last was ended, and an empty last one is none
abbrev pub lines_of_pieces : List (List ℕ) → List (List ℕ)
lines_of_pieces [] = []
lines_of_pieces (rest ∷ []) = if length rest == 0 then [] else rest ∷ []
lines_of_pieces (piece ∷ next ∷ pieces) = ended piece ∷ lines_of_pieces (next ∷ pieces)

-- the lines of a text, each with the line feed that ends it; the last one may have none
abbrev pub lines : List ℕ → List (List ℕ)
lines text = lines_of_pieces (slice_split (λ byte. byte == line_feed) text)

-- some text of a record is the same up to the end of line n
pub record MayGoOn (text : List ℕ) (n : ℕ) : Type 0 where
  pub other : List ℕ
  pub of_record : Record
  pub reading : IsReading other of_record
  pub agrees : take n (lines text) ≡ take n (lines other)

-- line n is the first up to which no text of a record is the same; one more than the lines where the text breaks off
pub record IsLineFault (text : List ℕ) (n : ℕ) : Type 0 where
  pub before : (k : ℕ) → k < n → MayGoOn text k
  pub fault : ¬ MayGoOn text n
