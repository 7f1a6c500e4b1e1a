-- Arm by arm.
use Rattle.bit_blaster.proofs.ChoiceLemmas.{majority_first_known, majority_second_known}
use Rattle.bit_blaster.proofs.GateLemmas.{ok_along}
use Rattle.bit_blaster.proofs.circuit.Circuit.majority.Goals as goal

pub returns-in-FirstKnown-clause-gives : goal.returns-in-FirstKnown-clause-gives
returns-in-FirstKnown-clause-gives c =
    ok_along c.majority_known.result _ _
    (λ r. majority_first_known c.args.self.now c.majority_known.new.self c.args.a c.args.b c.args.c r c.in-FirstKnown.truth c.in-FirstKnown.ensures)
    c.majority_known.ensures.gives

pub returns-in-SecondKnown-clause-gives : goal.returns-in-SecondKnown-clause-gives
returns-in-SecondKnown-clause-gives c =
    ok_along c.majority_known-in-SecondKnown.result _ _
    (λ r. majority_second_known c.args.self.now c.majority_known-in-SecondKnown.new.self c.args.a c.args.b c.args.c r
    c.in-SecondKnown.truth c.in-SecondKnown.ensures)
    c.majority_known-in-SecondKnown.ensures.gives
