-- By the lemma of true literals.
use Rattle.unit_propagation.proofs.PropagationLaws.{satisfies_all}
use Rattle.unit_propagation.proofs.laws.a_total_trail_satisfies.Goals as goal

pub returns : goal.returns
returns c p valuation satisfied total are = satisfies_all valuation p.clauses p.trail are (satisfied total)
