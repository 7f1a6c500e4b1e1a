-- The trail is consistent, and each literal that was not decided has its reason.
use Rattle.std.proofs.Common.{subst}
use Rattle.unit_propagation.specs.Units.{IsConsistent}
use Rattle.unit_propagation.specs.Trail.{IsJustified}
use Rattle.unit_propagation.specs.Propagation.{Propagation}
use Rattle.unit_propagation.proofs.propagator.Propagator.count.Goals as goal

pub returns-clause-consistent : goal.returns-clause-consistent
returns-clause-consistent c = subst (λ (p : Propagation). IsConsistent p.trail) c.self.view_is c.count.ensures.consistent

pub returns-clause-justified : goal.returns-clause-justified
returns-clause-justified c = subst (λ (p : Propagation). IsJustified p.clauses p.trail p.reasons) c.self.view_is c.self.invariant.state.justified
