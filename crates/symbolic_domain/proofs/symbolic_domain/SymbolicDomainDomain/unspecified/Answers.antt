-- The node's term stands for what the operation gives, and the dag only grows.
use Rattle.term_dag.proofs.FoldingLemmas.{ok_along}
use Rattle.symbolic_domain.proofs.StandsLemmas.{read_stands}
use Rattle.symbolic_domain.proofs.StepLemmas.{grown_extends}
use Rattle.symbolic_domain.proofs.symbolic_domain.SymbolicDomainDomain.unspecified.Goals as goal

pub returns-clause-value : goal.returns-clause-value
returns-clause-value c =
    let old = c.args.self.now.dag in
    let new = c.make.new.self in
    ok_along c.make.result _ _ (λ t made p b spoken at is. read_stands old new t p c.args.read c.args.width made b at is) c.make.ensures.value

pub returns-clause-extends : goal.returns-clause-extends
returns-clause-extends c = grown_extends c.args.self.now.dag c.make.new.self c.make.ensures.dag c.make.ensures.keeps
