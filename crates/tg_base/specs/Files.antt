-- The files of the desks in memory, by name.
use Rattle.std.specs.Prelude.{ℕ, List, find, Option, Some, String, Vec, if◌then◌else◌}
use Rattle.std.specs.Option.{option_map}
use Rattle.std.specs.String.{string_bytes}
use Rattle.std.specs.Str.{bytes_eq}
use Rattle.std.specs.declared.alloc.Global.{Global}

-- the bytes of the first file of this name
abbrev pub file_named : List (String Global × Vec ℕ Global) → List ℕ → Option (List ℕ)
file_named files name =
    option_map (λ file. file.1.items) (find (λ file. bytes_eq (string_bytes file.0) name) files)

-- the source at its own name, the test at every other
abbrev pub source_or_test : List ℕ → List ℕ → List ℕ → List ℕ → List ℕ
source_or_test own source test name = if bytes_eq own name then source else test

-- the files of a source and a test
abbrev pub two_files : List ℕ → List ℕ → List ℕ → List ℕ → Option (List ℕ)
two_files own source test name = Some (source_or_test own source test name)
