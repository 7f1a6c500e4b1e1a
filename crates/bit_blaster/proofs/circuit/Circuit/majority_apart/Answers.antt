-- Only the third can be known.
use Rattle.bit_blaster.specs.declared.wire.Wire.TheVariants.{Literal}
use Rattle.bit_blaster.proofs.ChoiceLemmas.{majority_third_known}
use Rattle.bit_blaster.proofs.GateLemmas.{ok_along}
use Rattle.bit_blaster.proofs.circuit.Circuit.majority_apart.Goals as goal

pub returns-in-SecondKnown-clause-gives : goal.returns-in-SecondKnown-clause-gives
returns-in-SecondKnown-clause-gives c =
    ok_along c.majority_known.result _ _
    (λ r. majority_third_known c.args.self.now c.majority_known.new.self (Literal c.args.k) (Literal c.args.l) c.args.c r
    c.in-SecondKnown.truth c.in-SecondKnown.ensures)
    c.majority_known.ensures.gives
