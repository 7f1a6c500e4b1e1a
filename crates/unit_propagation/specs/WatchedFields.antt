-- How the fields of watched clauses fit together.
use Rattle.std.specs.Prelude.{◌≤◌, ◌*◌, length, map, vec_capacity}
use Rattle.unit_propagation.specs.Watching.{Watched, IsIndexed, IsHeld, HasRoom}
use Rattle.unit_propagation.specs.declared.watched_clauses.WatchedClauses.TheInside.{Inside}

abbrev pub watched_of : Inside → Watched
watched_of a = record {
  width = a.width;
  clauses = a.clauses;
  pairs = a.pairs.items;
  lists = map (λ v. v.items) a.lists.items;
}

-- clauses are found by their watched literals, and each list has room for all that have its literal
pub record IsWatchedClauses (a : Inside) : Type 0 where
  pub indexed : IsIndexed a.width a.clauses a.pairs.items (map (λ v. v.items) a.lists.items)
  pub held_size : 2 * a.width ≤ length a.held.items
  pub held : IsHeld a.clauses a.held.items
  pub room : HasRoom a.held.items (map (λ v. vec_capacity v) a.lists.items)
