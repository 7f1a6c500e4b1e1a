-- A marked row for each symbol, as far as a pass over the rows has come.
use Rattle.std.proofs.Common.{◌≡◌, ℕ, ◌<◌, Bool, List, Option, None, Some}
use Rattle.ll1_engine.specs.declared.grammar.Row.{Row}
use Rattle.ll1_engine.specs.Table.{IsRow}
use Rattle.ll1_engine.specs.Marks.{Has}

abbrev pub PredictsBelow : List Row → List Bool → ℕ → ℕ → Option ℕ → Type 0
PredictsBelow g marks n x None = (k : ℕ) (r : Row) → k < n → IsRow g k r → r.left ≡ x → ¬ Has marks k
PredictsBelow g marks n x (Some k) = (r : Row) × IsRow g k r × (r.left ≡ x) × Has marks k
