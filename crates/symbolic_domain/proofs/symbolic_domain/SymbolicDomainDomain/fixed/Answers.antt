-- The constant stands for the truth value, and the dag only grows.
use Rattle.term_dag.proofs.FoldingLemmas.{ok_along}
use Rattle.symbolic_domain.proofs.StandsLemmas.{stands_same, constant_stands, cast_is_bit}
use Rattle.symbolic_domain.proofs.StepLemmas.{grown_extends}
use Rattle.symbolic_domain.proofs.symbolic_domain.SymbolicDomainDomain.fixed.Goals as goal

pub returns-clause-truth : goal.returns-clause-truth
returns-clause-truth c =
    let old = c.args.self.now.dag in
    let new = c.make.new.self in
    ok_along c.make.result _ _ (λ t made p spoken.
    stands_same new t p _ _ (cast_is_bit c.args.f) (constant_stands old new t p _ made)) c.make.ensures.value

pub returns-clause-extends : goal.returns-clause-extends
returns-clause-extends c = grown_extends c.args.self.now.dag c.make.new.self c.make.ensures.dag c.make.ensures.keeps
