use Rattle.std.proofs.Common.{refl}
use Rattle.bit_blaster.proofs.GateLemmas.{ok_along}
use Rattle.bit_blaster.proofs.PartLemmas.{computes_choice}
use Rattle.bit_blaster.proofs.circuits.parts.choose.Goals as goal

pub returns-clause-computes : goal.returns-clause-computes
returns-clause-computes c =
    ok_along c.choose_word.result _ _
    (λ r. computes_choice c.args.circuit.now c.choose_word.new.self c.args.condition.now c.args.a.now c.args.b.now r.items _
    c.requires.one_bit refl)
    c.choose_word.ensures.gives
