-- The node's term stands for what the operation gives, and the dag only grows.
use Rattle.term_dag.proofs.FoldingLemmas.{ok_along}
use Rattle.symbolic_domain.proofs.StandsLemmas.{either_stands}
use Rattle.symbolic_domain.proofs.StepLemmas.{grown_extends}
use Rattle.symbolic_domain.proofs.symbolic_domain.SymbolicDomainDomain.either.Goals as goal

pub returns-clause-truth : goal.returns-clause-truth
returns-clause-truth c =
    let old = c.args.self.now.dag in
    let new = c.make.new.self in
    ok_along c.make.result _ _ (λ t made p h k spoken f g.
    either_stands old new c.requires.first.term.dag t p c.args.f.now c.args.g.now c.requires.first.one_bit c.requires.second.one_bit made h k f g) c.make.ensures.value

pub returns-clause-extends : goal.returns-clause-extends
returns-clause-extends c = grown_extends c.args.self.now.dag c.make.new.self c.make.ensures.dag c.make.ensures.keeps
