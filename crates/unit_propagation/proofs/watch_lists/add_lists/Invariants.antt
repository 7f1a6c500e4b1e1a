-- The new lists are empty.
use Rattle.std.proofs.Common.{◌≡◌, ◌≤◌, ℕ, length, map}
use Rattle.std.specs.Prelude.{vec_capacity, slice_index_or}
use Rattle.cnf_core.specs.declared.formula.Lit.{Lit}
use Rattle.unit_propagation.specs.Watching.{list_at}
use Rattle.unit_propagation.proofs.watch_lists.add_lists.Given as goal

abbrev pub invariant-loop : goal.invariant-loop
invariant-loop l = record {
  size : length l.lists.items ≡ l.counter;
  same : (k : Lit) → list_at (map (λ v. v.items) l.lists.items) k ≡ list_at (map (λ v. v.items) l.initial.lists.items) k;
  rooms : (i : ℕ) → slice_index_or (map (λ v. vec_capacity v) l.initial.lists.items) i 0 ≤ slice_index_or (map (λ v. vec_capacity v) l.lists.items) i 0;
}
