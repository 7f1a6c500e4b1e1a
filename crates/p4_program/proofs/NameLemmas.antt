-- Names of tables.
use Rattle.std.proofs.Common.{◌≡◌, ℕ, ◌<◌, List, length, get_or, option_map, Some, slice_get, refl, ap}
use Rattle.std.specs.Str.{IsAscii, IsUtf8}
use Rattle.std.proofs.lemmas.Option.{slice_get_read}
use Rattle.std.proofs.lemmas.Str.{IsUtf8-from_ascii}
use Rattle.p4_program.specs.declared.typed.instances.NamedTable.{NamedTable}

pub utf8_from_ascii : (bs : List ℕ) → IsAscii bs → IsUtf8 bs
utf8_from_ascii bs h = IsUtf8-from_ascii bs h

-- a table that is read has the name at its place
pub name_read : (ts : List NamedTable) (n : ℕ) (t : NamedTable) → n < length ts → t ≡ get_or ts n t → option_map (λ u. u.name) (slice_get ts n) ≡ Some t.name
name_read ts n t below is = ap (λ o. option_map (λ u. u.name) o) (slice_get_read ts (length ts) n t refl below is)
