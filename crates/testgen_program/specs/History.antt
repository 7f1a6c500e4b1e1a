-- What a history says of a moment.
use Rattle.std.specs.Prelude.{ℕ, Bool, is_some, List, [], ◌∷◌, ◌++◌, map, Option, None, Some}
use Rattle.std.specs.String.{string_bytes}
use Rattle.tg_base.specs.Moment.{Moment, Opened, Output}
use Rattle.tg_base.specs.declared.desk.Out.{Out}
use Rattle.testgen_program.specs.Taken.{taken_by}
use Rattle.testgen_program.specs.declared.history.History.{History}

-- the names asked for, in order
abbrev pub names_asked : History → List (List ℕ)
names_asked history = map string_bytes history.asked.items

abbrev pub last_one : Option Opened → List Opened
last_one None = []
last_one (Some file) = file ∷ []

-- the files that were opened, in order
abbrev pub opened_of : History → List Opened
opened_of history = history.past.items ++ last_one history.last

abbrev pub has_file : History → Bool
has_file history = is_some history.last

-- an output of which nothing is told but what it has taken
abbrev pub untold : List ℕ → Output
untold bytes = record { taken = bytes; holds = None }

-- a desk with this history tells neither its files nor what its outputs hold
abbrev pub moment_at : History → Bool → Moment
moment_at history readable = record {
  files = None;
  asked = names_asked history;
  opened = opened_of history;
  readable = readable;
  outputs = λ out. untold (taken_by history.taken out);
  read_faults = history.read_faults;
  write_faults = history.write_faults;
}
