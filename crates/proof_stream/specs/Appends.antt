-- What a writer into a text does.
use Rattle.std.specs.Prelude.{◌≡◌, ℕ, List, ◌++◌, String, Result, OnOk}
use Rattle.std.specs.String.{string_bytes}
use Rattle.std.specs.declared.alloc.Global.{Global}

-- a call that succeeds has put this at the end of the text
abbrev pub Appends : {T E : Type 0} → String Global → String Global → Result T E → List ℕ → Type 0
Appends old new result added = OnOk result (string_bytes new ≡ string_bytes old ++ added)
