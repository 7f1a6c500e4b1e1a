-- The values of the trail's variables tell a literal from its negation.
use Rattle.std.proofs.Common.{subst}
use Rattle.std.specs.Prelude.{Contains}
use Rattle.cnf_core.specs.declared.formula.Lit.{Lit}
use Rattle.cnf_core.specs.Literal.{negation}
use Rattle.unit_propagation.specs.Assigned.{Assigned}
use Rattle.unit_propagation.proofs.AgreesLemmas.{consistent}
use Rattle.unit_propagation.proofs.assignment.Assignment.count.Goals as goal

pub returns-clause-consistent : goal.returns-clause-consistent
returns-clause-consistent c =
    subst (λ (a : Assigned). (l : Lit) → Contains a.trail l → Contains a.trail (negation l) → ⊥) c.self.view_is
    (consistent c.self.inside.values.items c.self.inside.trail.items c.self.invariant.agrees)
