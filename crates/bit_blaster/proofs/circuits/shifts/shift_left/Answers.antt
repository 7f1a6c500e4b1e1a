use Rattle.bit_blaster.proofs.GateLemmas.{ok_along}
use Rattle.bit_blaster.proofs.ShifterLemmas.{computes_left}
use Rattle.bit_blaster.proofs.circuits.shifts.shift_left.Goals as goal

pub returns-clause-computes : goal.returns-clause-computes
returns-clause-computes c =
    ok_along c.shift.result _ _
    (λ r. computes_left c.args.circuit.now c.shift.new.circuit c.args.a.now c.args.b.now r.items) c.shift.ensures.gives
