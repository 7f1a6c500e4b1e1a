-- What the desks in memory share.
use Rattle.std.specs.Prelude.{ℕ, Bool, false, List, [], ◌∷◌, ◌++◌, map, Option, None, Some, IsTrue}
use Rattle.std.specs.String.{string_bytes}
use Rattle.tg_base.specs.Moment.{Opened}
use Rattle.tg_base.specs.Reading.{Reading, are_of_files}
use Rattle.tg_base.specs.declared.session.Session.{Session}

-- the names asked for, in order
abbrev pub names_asked : Session → List (List ℕ)
names_asked session = map string_bytes session.asked.items

abbrev open_one : Option Reading → List Reading
open_one None = []
open_one (Some reading) = reading ∷ []

-- the files that were opened, in order, the open one last
abbrev pub readings_of : Session → List Reading
readings_of session = session.past.items ++ open_one session.file

abbrev pub opened_of : Session → List Opened
opened_of session = map (λ reading. reading.file) (readings_of session)

abbrev readable_one : Option Reading → Bool
readable_one None = false
readable_one (Some reading) = reading.is_readable

abbrev pub is_readable : Session → Bool
is_readable session = readable_one session.file

abbrev rest_one : Option Reading → List ℕ
rest_one None = []
rest_one (Some reading) = reading.rest

-- what the open file has left
abbrev pub rest_of : Session → List ℕ
rest_of session = rest_one session.file

-- the files that were opened are of these
abbrev pub Tells : (List ℕ → Option (List ℕ)) → Session → Type 0
Tells files session = IsTrue (are_of_files files (readings_of session))
