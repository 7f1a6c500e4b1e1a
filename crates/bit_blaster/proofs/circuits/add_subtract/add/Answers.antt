use Rattle.bit_blaster.proofs.GateLemmas.{ok_along}
use Rattle.bit_blaster.proofs.OperatorLemmas.{computes_add}
use Rattle.bit_blaster.proofs.circuits.add_subtract.add.Goals as goal

pub returns-clause-computes : goal.returns-clause-computes
returns-clause-computes c =
    ok_along c.sum.result _ _
    (λ r. computes_add c.args.circuit.now c.sum.new.circuit c.args.a.now c.args.b.now r.items c.requires.long) c.sum.ensures.gives
