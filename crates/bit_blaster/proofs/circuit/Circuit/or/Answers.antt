-- By De Morgan.
use Rattle.bit_blaster.proofs.GateLemmas.{or_by_and}
use Rattle.bit_blaster.proofs.circuit.Circuit.or.Goals as goal

pub returns-clause-gives : goal.returns-clause-gives
returns-clause-gives c =
    or_by_and c.args.self.now c.and.new.self c.args.a c.args.b c.not.result c.not-2.result c.in_ok-neither.neither c.not-3.result
    c.not.ensures c.not-2.ensures c.not-3.ensures c.in_ok-neither.ensures.gives
