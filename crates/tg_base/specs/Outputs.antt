-- The bytes written to each output of a desk in memory.
use Rattle.std.specs.Prelude.{ℕ, List, [], Vec, Some}
use Rattle.std.specs.declared.alloc.Global.{Global}
use Rattle.std.specs.BTreeMap.{BTreeMap, get}
use Rattle.std.specs.Option.{option_map_or}
use Rattle.std.specs.Ordering.{nat_cmp}
use Rattle.tg_base.specs.declared.desk.Out.{Out}
use Rattle.tg_base.specs.declared.desk.Out.TheVariants.{Report, Proofs, Test, Notes}
use Rattle.tg_base.specs.Moment.{Output}
use Rattle.tg_base.specs.declared.outputs.Outputs.{Outputs}

-- the bytes of the test of this number, none where nothing was written
abbrev pub test_bytes : BTreeMap ℕ (Vec ℕ Global) → ℕ → List ℕ
test_bytes tests number = option_map_or (λ bytes. bytes.items) (get nat_cmp tests number) []

abbrev pub bytes_at : Outputs → Out → List ℕ
bytes_at outputs Report = outputs.report.items
bytes_at outputs Proofs = outputs.proofs.items
bytes_at outputs Notes = outputs.notes.items
bytes_at outputs (Test number) = test_bytes outputs.tests number

-- an output that began empty and holds what it has taken
abbrev pub filled : List ℕ → Output
filled bytes = record { taken = bytes; holds = Some bytes }

abbrev pub output_at : Outputs → Out → Output
output_at outputs out = filled (bytes_at outputs out)
