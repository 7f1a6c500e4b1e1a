use Rattle.bit_blaster.proofs.GateLemmas.{ok_along}
use Rattle.bit_blaster.proofs.SaturationLemmas.{computes_signed_sum}
use Rattle.bit_blaster.proofs.circuits.saturating.add_saturating_signed.Goals as goal

pub returns-clause-computes : goal.returns-clause-computes
returns-clause-computes c =
    ok_along c.word_or_end.result _ _
    (λ r. computes_signed_sum c.args.circuit.now c.xor.new.self c.sum.new.circuit c.word_or_end.new.circuit c.args.a.now c.args.b.now r.items
    c.requires.long c.in_ok-differ.ensures.extends c.in_ok-word.ensures.extends c.sign_of.result c.sign_of-2.result c.in_ok-differ.differ
    c.sign_of.ensures c.sign_of-2.ensures c.in_ok-differ.ensures.gives c.in_ok-word.word.items c.deref.result.now c.not.result
    c.not.ensures c.deref.ensures.value c.in_ok-word.ensures.gives)
    c.word_or_end.ensures.gives
