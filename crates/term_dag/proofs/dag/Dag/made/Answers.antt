-- All that `make` tells.
use Rattle.term_dag.proofs.MadeLemmas.{all_made}
use Rattle.term_dag.proofs.dag.Dag.made.Goals as goal

pub returns-clause-made : goal.returns-clause-made
returns-clause-made c =
    let h = c.make.ensures in
    all_made c.args.self.now c.make.new.self c.args.node c.make.result h.within h.width h.value h.side h.constant h.node
