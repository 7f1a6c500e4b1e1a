-- What is open where propagation has ended, and what it leaves open.
use Rattle.cnf_core.specs.declared.formula.Lit.{Lit}
use Rattle.cnf_core.specs.Literal.{negation}
use Rattle.unit_propagation.specs.Units.{IsOpen}
use Rattle.unit_propagation.specs.Propagation.{Propagation, IsFull, decisions}
use Rattle.refutation_checker.specs.Acceptance.{LeavesOpen}

-- what is open is left open, and the other way round
pub leaves_open : (p : Propagation) (l : Lit) → IsFull p p → IsOpen p.trail l → LeavesOpen p.clauses (decisions p) l
leaves_open p l full is_open = ((λ sets. is_open.0 ((full l).1 sets)), (λ sets. is_open.1 ((full (negation l)).1 sets)))

pub is_open : (p : Propagation) (l : Lit) → IsFull p p → LeavesOpen p.clauses (decisions p) l → IsOpen p.trail l
is_open p l full leaves = ((λ stands. leaves.0 ((full l).0 stands)), (λ stands. leaves.1 ((full (negation l)).0 stands)))
