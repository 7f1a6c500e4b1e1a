-- The files of outputs: their names, which were made, and what their ends hold.
use Rattle.std.specs.Prelude.{ℕ, Bool, true, false, List, [], ◌∷◌, ◌++◌, Option, String, codes}
use Rattle.std.specs.Fmt.{decimal}
use Rattle.std.specs.declared.alloc.Global.{Global}
use Rattle.std.specs.BTreeSet.{BTreeSet, contains_text}
use Rattle.std.specs.Io.KnownBytes.{Appends}
use Rattle.tg_base.specs.declared.desk.Out.{Out}
use Rattle.tg_base.specs.declared.desk.Out.TheVariants.{Report, Proofs, Test, Notes}

-- the name of the file of an output, the report and the notes having none
abbrev pub name_of : Out → List ℕ
name_of (Test number) = codes "test_" ++ decimal number ++ codes ".stf"
name_of other = codes "testgen.proofs"

-- this name was made
abbrev pub is_made : BTreeSet (String Global) → List ℕ → Bool
is_made names name = contains_text names name

-- A file has gained these bytes since it was opened: there is a file as it was before, and this one holds, where that is
-- told, what it held and then the bytes.
pub record HasGained {F : Type 0} (contents : F → Option (List ℕ)) (now : F) (bytes : List ℕ) : Type 0 where
  pub before : F
  pub added : Appends (contents before) (contents now) bytes

-- the output goes to a file of its own
abbrev pub has_own_file : Out → Bool
has_own_file Report = false
has_own_file Proofs = true
has_own_file (Test number) = true
has_own_file Notes = false
