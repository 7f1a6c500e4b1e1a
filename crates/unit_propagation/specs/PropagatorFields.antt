-- How the fields of a propagator fit together.
use Rattle.std.specs.Prelude.{◌≡◌, ◌≤◌, ℕ, List, length, take}
use Rattle.cnf_core.specs.declared.formula.Lit.{Lit}
use Rattle.unit_propagation.specs.declared.pair.Pair.{Pair}
use Rattle.unit_propagation.specs.declared.assignment.Cause.{Cause}
use Rattle.unit_propagation.specs.Trail.{IsJustified, reasons_of}
use Rattle.unit_propagation.specs.Propagation.{Propagation}
use Rattle.unit_propagation.specs.Ready.{AllReady, EndsReady}
use Rattle.unit_propagation.specs.Loose.{AreLoose, ListsLoose, IsSettled}
use Rattle.unit_propagation.specs.declared.propagator.Propagator.TheInside.{Inside}

-- each watched clause is ready for the literals before the head, and each literal that was not decided has its reason
pub record IsState (clauses : List (List Lit)) (pairs : List Pair) (trail : List Lit) (causes : List Cause) (head : ℕ) (loose : List ℕ) : Type 0 where
  pub head_within : head ≤ length trail
  pub sized : length causes ≡ length trail
  pub paired : length pairs ≡ length clauses
  pub ready : AllReady clauses pairs trail (take head trail)
  pub ends : EndsReady clauses pairs trail causes
  pub justified : IsJustified clauses trail (reasons_of causes)
  pub listed : ListsLoose pairs loose
  pub are_loose : AreLoose clauses loose

abbrev pub propagation_of : Inside → Propagation
propagation_of a = record {
  width = a.watched.width;
  clauses = a.watched.clauses;
  trail = a.assignment.trail;
  reasons = reasons_of a.assignment.causes;
}

pub record IsPropagator (a : Inside) : Type 0 where
  pub width : a.watched.width ≤ a.assignment.width
  pub state : IsState a.watched.clauses a.watched.pairs a.assignment.trail a.assignment.causes a.head a.loose.numbers.items
  pub settled : IsSettled a.watched.clauses a.assignment.trail a.loose
