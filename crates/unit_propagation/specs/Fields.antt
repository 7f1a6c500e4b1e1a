-- How the fields of an assignment fit together.
use Rattle.std.specs.Prelude.{◌≡◌, ◌≤◌, length, vec_capacity}
use Rattle.unit_propagation.specs.Assigned.{Assigned, Agrees}
use Rattle.unit_propagation.specs.declared.assignment.Assignment.TheInside.{Inside}

abbrev pub assigned_of : Inside → Assigned
assigned_of a = record { width = length a.values.items; trail = a.trail.items; causes = a.causes.items }

-- the values agree with the trail, each literal has its cause, and there is room for each variable
pub record IsAssignment (a : Inside) : Type 0 where
  pub agrees : Agrees a.values.items a.trail.items
  pub same_length : length a.causes.items ≡ length a.trail.items
  pub trail_room : length a.values.items ≤ vec_capacity a.trail
  pub causes_room : length a.values.items ≤ vec_capacity a.causes
