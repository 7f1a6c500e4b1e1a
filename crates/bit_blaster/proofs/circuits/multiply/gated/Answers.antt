use Rattle.std.proofs.Common.{rules, refl, ◌∙◌}
use Rattle.bit_blaster.proofs.GateLemmas.{ok_along}
use Rattle.bit_blaster.proofs.MultiplierLemmas.{gives_gated}
use Rattle.bit_blaster.proofs.circuits.multiply.gated.Goals as goal

pub returns-clause-gives : goal.returns-clause-gives
returns-clause-gives c =
    ok_along c.bit_by_bit.result _ _
    (λ r. gives_gated c.args.circuit.now c.bit_by_bit.new.self c.args.bit c.args.word.now c.deref.result.now r.items refl
    (c.deref.ensures.value ∙ search rules))
    c.bit_by_bit.ensures.gives
