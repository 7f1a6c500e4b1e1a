-- There is room for the literals before the index.
use Rattle.std.proofs.Common.{◌≡◌, ◌≤◌, ◌<◌, ℕ, length, map, take}
use Rattle.std.specs.Prelude.{vec_capacity, slice_index_or, Contains}
use Rattle.cnf_core.specs.declared.formula.Lit.{Lit}
use Rattle.unit_propagation.specs.LitCodes.{code_of}
use Rattle.unit_propagation.specs.Watching.{HasRoom}
use Rattle.unit_propagation.proofs.watch_lists.make_room.Given as goal

abbrev pub invariant-loop-l : goal.invariant-loop-l
invariant-loop-l l = record {
  lists : map (λ v. v.items) l.lists.items ≡ map (λ v. v.items) l.initial.lists.items;
  list_count : length l.lists.items ≡ length l.initial.lists.items;
  size : length l.held.items ≡ length l.initial.held.items;
  keeps : (i : ℕ) → slice_index_or l.initial.held.items i 0 ≤ slice_index_or l.held.items i 0;
  grows : (k : Lit) → Contains (take l.l-index l.clause) k → slice_index_or l.initial.held.items (code_of k) 0 < slice_index_or l.held.items (code_of k) 0;
  room : HasRoom l.held.items (map (λ v. vec_capacity v) l.lists.items);
}
