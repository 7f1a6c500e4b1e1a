-- The negations of the literals before the index are set, and no variable stands twice so far.
use Rattle.std.proofs.Common.{◌≡◌, take, map}
use Rattle.std.specs.Prelude.{All}
use Rattle.cnf_core.specs.Literal.{negation, IsApart}
use Rattle.unit_propagation.specs.Units.{IsWithin}
use Rattle.refutation_checker.specs.Variables.{HasVariable, width, external_clause}
use Rattle.refutation_checker.proofs.hints.falsify.Given as goal

abbrev pub invariant-loop-l : goal.invariant-loop-l
invariant-loop-l l = record {
  assignment_width : l.assignment.width ≡ l.initial.assignment.width;
  trail : external_clause l.variables l.assignment.trail ≡ map negation (take l.l-index l.clause);
  within : IsWithin (width l.variables) l.assignment.trail;
  has : All (λ k. HasVariable l.variables k.var) (take l.l-index l.clause);
  apart : IsApart l.assignment.trail;
}
