-- A file that a desk in memory has opened: what was moved out of it, what is left, and whether it may be read on.
use Rattle.std.specs.Prelude.{ℕ, Bool, true, false, not, List, ◌++◌, ◌&&◌, ◌||◌, Option, None, Some}
use Rattle.std.specs.List.{list_all}
use Rattle.std.specs.Str.{bytes_eq}
use Rattle.tg_base.specs.Moment.{Opened, is_end, just_opened}

pub record Reading : Type 0 where
  pub file : Opened
  pub rest : List ℕ
  pub is_readable : Bool

-- a file of these bytes that was just opened
abbrev pub at_start : List ℕ → List ℕ → Reading
at_start name bytes = record { file = just_opened name; rest = bytes; is_readable = true }

abbrev pub has_bytes : Option (List ℕ) → List ℕ → Bool
has_bytes None bytes = false
has_bytes (Some own) bytes = bytes_eq own bytes

-- what was moved and what is left make up the file of its name, of which nothing is left where the end was met
abbrev pub is_of_file : (List ℕ → Option (List ℕ)) → Reading → Bool
is_of_file files reading =
    has_bytes (files reading.file.name) (reading.file.moved ++ reading.rest) && (not reading.file.ended || is_end reading.rest)

abbrev pub are_of_files : (List ℕ → Option (List ℕ)) → List Reading → Bool
are_of_files files readings = list_all (is_of_file files) readings
