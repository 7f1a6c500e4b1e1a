-- The new numbers are 0.
use Rattle.std.proofs.Common.{◌≡◌, ℕ, length}
use Rattle.std.specs.Prelude.{slice_index_or}
use Rattle.unit_propagation.proofs.watch_lists.add_zeros.Given as goal

abbrev pub invariant-loop : goal.invariant-loop
invariant-loop l = record {
  size : length l.held.items ≡ l.counter;
  same : (i : ℕ) → slice_index_or l.held.items i 0 ≡ slice_index_or l.initial.held.items i 0;
}
