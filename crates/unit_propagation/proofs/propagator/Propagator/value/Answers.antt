-- The literal stands as in the assignment, and follows by the reasons.
use Rattle.std.proofs.Common.{◌∙◌, subst}
use Rattle.std.proofs.lemmas.List.{length-map}
use Rattle.std.proofs.lemmas.List.Elements.{All-contains}
use Rattle.cnf_core.specs.declared.formula.Lit.{Lit}
use Rattle.cnf_core.specs.Propagation.{Sets}
use Rattle.unit_propagation.specs.Trail.{decided, reasons_of}
use Rattle.unit_propagation.specs.Assigned.{StandsAs}
use Rattle.unit_propagation.specs.Propagation.{Propagation, FollowsAs}
use Rattle.unit_propagation.specs.PropagatorFields.{propagation_of, IsPropagator}
use Rattle.unit_propagation.specs.declared.assignment.Cause.{Cause}
use Rattle.unit_propagation.specs.declared.assignment.Truth.{Truth}
use Rattle.unit_propagation.specs.declared.assignment.Truth.TheVariants.{True, False, Open}
use Rattle.unit_propagation.specs.declared.propagator.Propagator.TheInside.{Inside}
use Rattle.unit_propagation.proofs.FixpointLemmas.{are_set}
use Rattle.unit_propagation.proofs.PropagationLaws.{is_refuted}
use Rattle.unit_propagation.proofs.propagator.Propagator.value.Goals as goal

follows : (a : Inside) (l : Lit) (t : Truth) → IsPropagator a → StandsAs a.assignment.trail l t → FollowsAs (propagation_of a) l t
follows a l True h stands =
    All-contains (Sets a.watched.clauses (decided a.assignment.trail (reasons_of a.assignment.causes))) a.assignment.trail l
    (are_set a.watched.clauses a.assignment.trail (reasons_of a.assignment.causes) (length-map a.assignment.causes (λ (k : Cause). k.reason) ∙ h.state.sized) h.state.justified) stands.0
follows a l False h stands =
    is_refuted a.watched.clauses a.assignment.trail (reasons_of a.assignment.causes) l (length-map a.assignment.causes (λ (k : Cause). k.reason) ∙ h.state.sized) h.state.justified stands.0
follows a l Open h stands = tt

pub returns-clause-stands : goal.returns-clause-stands
returns-clause-stands c = subst (λ (p : Propagation). StandsAs p.trail c.args.l c.value.result) c.self.view_is c.value.ensures

pub returns-clause-follows : goal.returns-clause-follows
returns-clause-follows c =
    subst (λ (p : Propagation). FollowsAs p c.args.l c.value.result) c.self.view_is (follows c.self.inside c.args.l c.value.result c.self.invariant c.value.ensures)
